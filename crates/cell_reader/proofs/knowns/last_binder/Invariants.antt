use Rattle.std.proofs.Common.{◌≡◌, reverse, take, slice_index}
use Rattle.binding_terms.specs.Signature.{binders}
use Rattle.cell_reader.proofs.knowns.last_binder.Given as goal

abbrev pub invariant-loop-item : goal.invariant-loop-item
invariant-loop-item l = l.cat.0 ≡ slice_index (reverse (binders (take l.item-index l.items))) 0
