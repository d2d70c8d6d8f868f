use Rattle.std.proofs.Common.{◌≡◌, drop}
use Rattle.outline_reader.specs.Machine.{chosen}
use Rattle.outline_reader.proofs.machine.chosen.Given as goal

abbrev pub invariant-loop-place : goal.invariant-loop-place
invariant-loop-place l = chosen (drop l.place-index l.alternatives) l.seen ≡ chosen l.alternatives l.seen
