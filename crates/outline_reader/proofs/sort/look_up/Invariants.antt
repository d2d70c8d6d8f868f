use Rattle.std.proofs.Common.{◌≡◌, length, map}
use Rattle.outline_reader.specs.Sorts.{look_up}
use Rattle.outline_reader.proofs.sort.look_up.Given as goal

abbrev pub invariant-loop-table : goal.invariant-loop-table
invariant-loop-table l = look_up (map (λ entry. (entry.0.now, entry.1)) l.table) l.text l.otherwise ≡ look_up (map (λ entry. (entry.0.now, entry.1)) l.initial.table) l.text l.otherwise

abbrev pub decreases-loop-table : goal.decreases-loop-table
decreases-loop-table l = length l.table
