use Rattle.std.proofs.Common.{◌≡◌, ◌++◌, map, drop}
use Rattle.binding_terms.specs.Signature.{binders}
use Rattle.proof_kernel.proofs.equating.add_binders.Given as goal

abbrev pub invariant-loop-item : goal.invariant-loop-item
invariant-loop-item l =
    map (λ c. c.0) l.locals.items ++ binders (drop l.item-index l.items) ≡ map (λ c. c.0) l.fn.locals.items ++ binders l.items
