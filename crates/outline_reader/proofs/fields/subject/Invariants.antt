use Rattle.std.proofs.Common.{◌≡◌, length}
use Rattle.outline_reader.specs.Fields.{subject}
use Rattle.outline_reader.proofs.fields.subject.Given as goal

abbrev pub invariant-loop-roles : goal.invariant-loop-roles
invariant-loop-roles l = subject l.otherwise l.roles l.tokens ≡ subject l.otherwise l.initial.roles l.initial.tokens

abbrev pub decreases-loop-roles : goal.decreases-loop-roles
decreases-loop-roles l = length l.roles
