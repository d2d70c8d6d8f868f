use Rattle.std.proofs.Common.{reverse, ap, ◌∙◌}
use Rattle.form_printing.specs.View.{variables}
use Rattle.form_printing.proofs.Contexts.{variables_reverse}
use Rattle.form_printing.proofs.words.numbered_locals.Goals as goal

pub returns : goal.returns
returns c =
    ap variables c.reverse.ensures.items ∙ (variables_reverse c.in_ok-all.all.items ∙ ap reverse c.in_ok-all.ensures)
