use Rattle.std.proofs.Common.{◌≡◌, slice_index, drop}
use Rattle.binding_terms.specs.Signature.{binders}
use Rattle.binding_terms.proofs.grammar.binder_at.Given as goal

abbrev pub invariant-loop-item : goal.invariant-loop-item
invariant-loop-item l = slice_index (binders (drop l.item-index l.items)) l.left ≡ slice_index (binders l.items) l.number
