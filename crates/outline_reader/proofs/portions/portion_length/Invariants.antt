use Rattle.std.proofs.Common.{◌≡◌, ◌+◌, length}
use Rattle.outline_reader.specs.Portions.{portion_length}
use Rattle.outline_reader.proofs.portions.portion_length.Given as goal

abbrev pub invariant-loop-roles : goal.invariant-loop-roles
invariant-loop-roles l = (l.count + portion_length l.roles ≡ portion_length l.initial.roles) × (l.count + length l.roles ≡ length l.initial.roles)

abbrev pub decreases-loop-roles : goal.decreases-loop-roles
decreases-loop-roles l = length l.roles
