use Rattle.std.proofs.Common.{◌≡◌, ◌++◌, map, length}
use Rattle.outline_reader.specs.Fields.{outputs}
use Rattle.outline_reader.proofs.fields.outputs.Given as goal

abbrev pub invariant-loop-roles : goal.invariant-loop-roles
invariant-loop-roles l = map (λ form. form.now) l.forms.items ++ outputs l.roles l.tokens ≡ outputs l.initial.roles l.initial.tokens

abbrev pub decreases-loop-roles : goal.decreases-loop-roles
decreases-loop-roles l = length l.roles
