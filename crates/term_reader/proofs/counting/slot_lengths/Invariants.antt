use Rattle.std.proofs.Common.{◌≡◌, map, take}
use Rattle.term_reader.specs.Splitting.{slot_range, lengths}
use Rattle.term_reader.proofs.counting.slot_lengths.Given as goal

abbrev pub invariant-loop-slot : goal.invariant-loop-slot
invariant-loop-slot l = l.all ≡ lengths (map slot_range (take l.slot-index l.slots))
