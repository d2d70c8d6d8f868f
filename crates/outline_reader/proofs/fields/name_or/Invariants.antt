use Rattle.std.proofs.Common.{◌≡◌, length}
use Rattle.outline_reader.specs.Fields.{name_or}
use Rattle.outline_reader.proofs.fields.name_or.Given as goal

abbrev pub invariant-loop-roles : goal.invariant-loop-roles
invariant-loop-roles l = name_or l.otherwise l.role l.roles l.tokens ≡ name_or l.otherwise l.role l.initial.roles l.initial.tokens

abbrev pub decreases-loop-roles : goal.decreases-loop-roles
decreases-loop-roles l = length l.roles
