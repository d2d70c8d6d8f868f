use Rattle.std.proofs.Common.{◌≡◌, ◌++◌, map, take, slice_index}
use Rattle.binding_terms.specs.Signature.{binders}
use Rattle.pattern_unify.proofs.arguments.inner_scope.Given as goal

abbrev pub invariant-loop-number : goal.invariant-loop-number
invariant-loop-number l =
    map (λ c. c.0) l.all ≡ map (λ c. c.0) l.scope ++ map (slice_index (binders l.items)) (take l.number-index l.binds)
