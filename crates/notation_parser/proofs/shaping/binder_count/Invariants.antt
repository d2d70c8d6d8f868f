use Rattle.std.proofs.Common.{◌≡◌, ◌+◌, ◌≤◌, drop, length}
use Rattle.binding_terms.specs.Signature.{binders}
use Rattle.notation_parser.proofs.shaping.binder_count.Given as goal

abbrev pub invariant-loop-item : goal.invariant-loop-item
invariant-loop-item l = (l.count + length (binders (drop l.item-index l.items)) ≡ length (binders l.items)) × (l.count ≤ l.item-index)
