use Rattle.std.proofs.Common.{◌≡◌, None, slice_get, ap, sym, ◌∙◌}
use Rattle.derivation_text.proofs.Pages.{written_nothing}
use Rattle.derivation_text.proofs.judgment.write_judgment.Goals as goal

pub returns-in-None : goal.returns-in-None
returns-in-None c =
    let number = c.args.j.now.judgment.0 in
    let none : slice_get c.args.sys.now.judgments number ≡ None =
    ap (λ forms. slice_get forms number) (sym (c.as_slice.ensures.value ∙ c.judgments.ensures)) ∙ sym c.in-None.ensures in
    rw none (sym (written_nothing c.args.page.now))
