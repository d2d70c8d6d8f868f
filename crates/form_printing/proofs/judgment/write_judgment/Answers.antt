use Rattle.std.proofs.Common.{◌≡◌, None, slice_get, sym}
use Rattle.form_printing.proofs.Pages.{written_nothing}
use Rattle.form_printing.proofs.judgment.write_judgment.Goals as goal

pub returns-in-None : goal.returns-in-None
returns-in-None c =
    let none : slice_get c.args.judgments.now c.args.j.now.judgment.0 ≡ None = sym c.in-None.ensures in
    rw none (sym (written_nothing c.args.page.now))
