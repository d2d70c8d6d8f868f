use Rattle.std.proofs.Common.{◌↔◌, drop}
use Rattle.rule_schemes.specs.Touching.{HasTouchingSlot}
use Rattle.rule_schemes.proofs.touching.has_touching_slot.Given as goal

abbrev pub invariant-loop-item : goal.invariant-loop-item
invariant-loop-item l = HasTouchingSlot l.sig l.context.0 (drop l.item-index l.items) ↔ HasTouchingSlot l.sig l.context.0 l.items
