use Rattle.std.proofs.Common.{◌≡◌, reverse, vec_len}
use Rattle.outline_reader.specs.Machine.{take}
use Rattle.outline_reader.proofs.machine.take.Given as goal

abbrev pub invariant-loop-next : goal.invariant-loop-next
invariant-loop-next l = take (reverse l.stack.items) l.seen ≡ take (reverse l.initial.stack.items) l.seen

abbrev pub decreases-loop-next : goal.decreases-loop-next
decreases-loop-next l = vec_len l.stack
