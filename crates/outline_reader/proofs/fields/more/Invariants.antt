use Rattle.std.proofs.Common.{◌≡◌, ◌+◌, length}
use Rattle.outline_reader.specs.Fields.{more}
use Rattle.outline_reader.proofs.fields.more.Given as goal

abbrev pub invariant-loop-roles : goal.invariant-loop-roles
invariant-loop-roles l = (l.count + more l.roles ≡ more l.initial.roles) × (l.count + length l.roles ≡ length l.initial.roles)

abbrev pub decreases-loop-roles : goal.decreases-loop-roles
decreases-loop-roles l = length l.roles
