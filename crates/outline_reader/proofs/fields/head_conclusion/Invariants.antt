use Rattle.std.proofs.Common.{◌≡◌, length}
use Rattle.outline_reader.specs.Fields.{head_conclusion}
use Rattle.outline_reader.proofs.fields.head_conclusion.Given as goal

abbrev pub invariant-loop-roles : goal.invariant-loop-roles
invariant-loop-roles l = head_conclusion l.otherwise l.roles l.tokens ≡ head_conclusion l.otherwise l.initial.roles l.initial.tokens

abbrev pub decreases-loop-roles : goal.decreases-loop-roles
decreases-loop-roles l = length l.roles
