use Rattle.std.proofs.Common.{sym}
use Rattle.std.proofs.lemmas.List.{drop_all}
use Rattle.form_printing.proofs.Pages.{written_nothing}
use Rattle.form_printing.proofs.context.write_argument.Goals as goal

pub returns : goal.returns
returns c = rw (drop_all c.args.number c.args.args.now c.if-number-args.false) (sym (written_nothing c.args.page.now))
