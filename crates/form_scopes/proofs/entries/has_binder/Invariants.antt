use Rattle.std.proofs.Common.{◌≡◌, drop}
use Rattle.binding_terms.specs.Signature.{binders}
use Rattle.form_scopes.proofs.entries.has_binder.Given as goal

abbrev pub invariant-loop-item : goal.invariant-loop-item
invariant-loop-item l = binders l.items ≡ binders (drop l.item-index l.items)
