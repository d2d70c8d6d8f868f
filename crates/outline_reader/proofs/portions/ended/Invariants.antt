use Rattle.std.proofs.Common.{◌≡◌, length}
use Rattle.outline_reader.specs.Portions.{ended}
use Rattle.outline_reader.proofs.portions.ended.Given as goal

abbrev pub invariant-loop-roles : goal.invariant-loop-roles
invariant-loop-roles l = ended l.roles ≡ ended l.initial.roles

abbrev pub decreases-loop-roles : goal.decreases-loop-roles
decreases-loop-roles l = length l.roles
