use Rattle.std.proofs.Common.{◌≡◌, reverse, vec_len}
use Rattle.outline_reader.specs.Machine.{missing}
use Rattle.outline_reader.proofs.machine.missing.Given as goal

abbrev pub invariant-loop-next : goal.invariant-loop-next
invariant-loop-next l = missing (reverse l.stack.items) ≡ missing (reverse l.initial.stack.items)

abbrev pub decreases-loop-next : goal.decreases-loop-next
decreases-loop-next l = vec_len l.stack
