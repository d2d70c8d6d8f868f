use Rattle.std.proofs.Common.{◌≡◌, ◌++◌, map, length}
use Rattle.outline_reader.specs.Fields.{premises}
use Rattle.outline_reader.proofs.fields.premises.Given as goal

abbrev pub invariant-loop-roles : goal.invariant-loop-roles
invariant-loop-roles l = map (λ form. form.now) l.forms.items ++ premises l.roles l.tokens ≡ premises l.initial.roles l.initial.tokens

abbrev pub decreases-loop-roles : goal.decreases-loop-roles
decreases-loop-roles l = length l.roles
