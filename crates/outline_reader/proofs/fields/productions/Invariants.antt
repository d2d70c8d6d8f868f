use Rattle.std.proofs.Common.{◌≡◌, ◌++◌, map, length}
use Rattle.outline_reader.specs.Fields.{productions, later_productions}
use Rattle.outline_reader.proofs.fields.productions.Given as goal

abbrev pub invariant-loop-roles : goal.invariant-loop-roles
invariant-loop-roles l = map (λ form. form.now) l.forms.items ++ later_productions l.roles l.tokens ≡ productions l.initial.roles l.initial.tokens

abbrev pub decreases-loop-roles : goal.decreases-loop-roles
decreases-loop-roles l = length l.roles
