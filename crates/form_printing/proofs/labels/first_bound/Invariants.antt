use Rattle.std.proofs.Common.{◌≡◌, drop, slice_get, unwrap_or}
use Rattle.binding_terms.specs.Signature.{binders}
use Rattle.form_printing.proofs.labels.first_bound.Given as goal

abbrev pub invariant-loop-item : goal.invariant-loop-item
invariant-loop-item l = unwrap_or (slice_get (binders (drop l.item-index l.items)) 0) 0 ≡ unwrap_or (slice_get (binders l.items) 0) 0
