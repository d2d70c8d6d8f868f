use Rattle.std.proofs.Common.{◌≡◌, map, take, reverse}
use Rattle.rule_schemes.specs.Printing.{binder_at}
use Rattle.form_printing.specs.View.{variables}
use Rattle.form_printing.proofs.words.scope_inside.Given as goal

abbrev pub invariant-loop-i : goal.invariant-loop-i
invariant-loop-i l = variables l.inner.items ≡ map (binder_at (variables l.binders)) (take l.i (reverse l.binds))
