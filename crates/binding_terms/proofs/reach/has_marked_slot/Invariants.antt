use Rattle.std.proofs.Common.{◌↔◌, drop}
use Rattle.binding_terms.specs.Reach.{HasMarkedSlot}
use Rattle.binding_terms.proofs.reach.has_marked_slot.Given as goal

abbrev pub invariant-loop-item : goal.invariant-loop-item
invariant-loop-item l = HasMarkedSlot l.marks l.items ↔ HasMarkedSlot l.marks (drop l.item-index l.items)
