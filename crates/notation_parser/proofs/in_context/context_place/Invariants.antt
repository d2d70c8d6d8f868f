use Rattle.std.proofs.Common.{◌≢◌, map, take}
use Rattle.std.specs.List.{AllByRecursion}
use Rattle.term_reader.specs.Splitting.{SlotRange, slot_range}
use Rattle.notation_parser.proofs.in_context.context_place.Given as goal

abbrev pub invariant-loop-k : goal.invariant-loop-k
invariant-loop-k l = AllByRecursion (λ (p : SlotRange). p.cat.0 ≢ l.cat.0) (map slot_range (take l.k l.slots))
