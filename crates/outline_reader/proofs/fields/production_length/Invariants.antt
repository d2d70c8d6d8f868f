use Rattle.std.proofs.Common.{◌≡◌, ◌+◌, length}
use Rattle.outline_reader.specs.Fields.{production_length}
use Rattle.outline_reader.proofs.fields.production_length.Given as goal

abbrev pub invariant-loop-roles : goal.invariant-loop-roles
invariant-loop-roles l = (l.count + production_length l.roles ≡ production_length l.initial.roles) × (l.count + length l.roles ≡ length l.initial.roles)

abbrev pub decreases-loop-roles : goal.decreases-loop-roles
decreases-loop-roles l = length l.roles
