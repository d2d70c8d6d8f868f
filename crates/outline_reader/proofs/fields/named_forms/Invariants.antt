use Rattle.std.proofs.Common.{◌≡◌, ◌++◌, map, length}
use Rattle.outline_reader.specs.Views.{named_view}
use Rattle.outline_reader.specs.Fields.{named_forms}
use Rattle.outline_reader.proofs.fields.named_forms.Given as goal

abbrev pub invariant-loop-roles : goal.invariant-loop-roles
invariant-loop-roles l = map named_view l.forms.items ++ named_forms l.roles l.tokens ≡ named_forms l.initial.roles l.initial.tokens

abbrev pub decreases-loop-roles : goal.decreases-loop-roles
decreases-loop-roles l = length l.roles
