use Rattle.std.proofs.Common.{◌≡◌, ◌++◌, map, drop}
use Rattle.binding_terms.specs.Signature.{binders}
use Rattle.derivation_check.proofs.judged.add_binders.Given as goal

abbrev pub invariant-loop-item : goal.invariant-loop-item
invariant-loop-item l = map (λ c. c.0) l.scope.items ++ binders (drop l.item-index l.items) ≡ map (λ c. c.0) l.initial.scope.items ++ binders l.items
