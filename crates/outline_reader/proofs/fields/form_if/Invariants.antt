use Rattle.std.proofs.Common.{◌≡◌, length}
use Rattle.outline_reader.specs.Fields.{form_if}
use Rattle.outline_reader.proofs.fields.form_if.Given as goal

abbrev pub invariant-loop-roles : goal.invariant-loop-roles
invariant-loop-roles l = form_if l.role l.roles l.tokens ≡ form_if l.role l.initial.roles l.initial.tokens

abbrev pub decreases-loop-roles : goal.decreases-loop-roles
decreases-loop-roles l = length l.roles
