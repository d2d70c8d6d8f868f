use Rattle.std.proofs.Common.{◌≡◌, ◌++◌, map, length}
use Rattle.outline_reader.specs.Fields.{all_named}
use Rattle.outline_reader.proofs.fields.all_named.Given as goal

abbrev pub invariant-loop-roles : goal.invariant-loop-roles
invariant-loop-roles l = map (λ name. name.now) l.names.items ++ all_named l.role l.roles l.tokens ≡ all_named l.role l.initial.roles l.initial.tokens

abbrev pub decreases-loop-roles : goal.decreases-loop-roles
decreases-loop-roles l = length l.roles
