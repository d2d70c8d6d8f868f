use Rattle.std.proofs.Common.{◌≤◌, sym}
use Rattle.term_reader.specs.Splitting.{SlotRange, slot_range}
use Rattle.term_reader.proofs.Usable.{no_piece}
use Rattle.term_reader.proofs.Bound.{lengths_more}
use Rattle.term_reader.proofs.counting.slot_lengths.Goals as goal
use Rattle.binding_terms.proofs.Lists.{all_pick}

pub overflow_sub-slot : goal.overflow_sub-slot
overflow_sub-slot c = all_pick slot_range (λ (p : SlotRange). p.from ≤ p.to) c.args.slots.now c.loop-slot.slot-index no_piece c.loop-slot-test.true c.requires.forward

pub loop-slot-preserved : goal.loop-slot-preserved
loop-slot-preserved c =
    rw c.in_ok-push.ensures.ok
    (rw c.loop-slot.invariant (sym (lengths_more c.args.slots.now c.loop-slot.slot-index no_piece c.loop-slot-test.true)))
