use Rattle.std.proofs.Common.{◌≡◌, ◌++◌, map, drop}
use Rattle.binding_terms.specs.Signature.{binders}
use Rattle.form_raising.proofs.entries.add_binders.Given as goal

abbrev pub invariant-loop-item : goal.invariant-loop-item
invariant-loop-item l =
    map (λ c. c.0) l.cats.items ++ binders (drop l.item-index l.items) ≡ map (λ c. c.0) l.fn.cats.items ++ binders l.items
