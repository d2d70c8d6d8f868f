use Rattle.std.proofs.Common.{◌≡◌, ◌++◌, reverse, drop}
use Rattle.binding_terms.specs.Signature.{binders}
use Rattle.rule_schemes.specs.Printing.{numbered}
use Rattle.form_printing.specs.View.{variables}
use Rattle.form_printing.proofs.words.numbered.Given as goal

abbrev pub invariant-loop-item : goal.invariant-loop-item
invariant-loop-item l =
    variables l.all.items ++ numbered (reverse (variables l.all.items) ++ variables l.scope) (binders (drop l.item-index l.items))
    ≡ numbered (variables l.scope) (binders l.items)
