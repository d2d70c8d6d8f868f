use Rattle.std.proofs.Common.{◌≡◌, ◌++◌, map, length}
use Rattle.outline_reader.specs.Views.{input_view}
use Rattle.outline_reader.specs.Fields.{inputs}
use Rattle.outline_reader.proofs.fields.inputs.Given as goal

abbrev pub invariant-loop-roles : goal.invariant-loop-roles
invariant-loop-roles l = map input_view l.inputs.items ++ inputs l.roles l.tokens ≡ inputs l.initial.roles l.initial.tokens

abbrev pub decreases-loop-roles : goal.decreases-loop-roles
decreases-loop-roles l = length l.roles
