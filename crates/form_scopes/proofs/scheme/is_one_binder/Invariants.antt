use Rattle.std.proofs.Common.{◌≡◌, ◌∷◌, ◌++◌, [], drop, if◌then◌else◌}
use Rattle.binding_terms.specs.Signature.{binders}
use Rattle.form_scopes.proofs.scheme.is_one_binder.Given as goal

abbrev pub invariant-loop-item : goal.invariant-loop-item
invariant-loop-item l = binders l.items ≡ (if l.found then (l.cat.0 ∷ []) else []) ++ binders (drop l.item-index l.items)
