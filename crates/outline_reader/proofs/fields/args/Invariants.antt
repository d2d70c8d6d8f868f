use Rattle.std.proofs.Common.{◌≡◌, ◌++◌, map, length}
use Rattle.outline_reader.specs.Views.{arg_view}
use Rattle.outline_reader.specs.Fields.{args}
use Rattle.outline_reader.proofs.fields.args.Given as goal

abbrev pub invariant-loop-roles : goal.invariant-loop-roles
invariant-loop-roles l = map arg_view l.args.items ++ args l.roles l.tokens ≡ args l.initial.roles l.initial.tokens

abbrev pub decreases-loop-roles : goal.decreases-loop-roles
decreases-loop-roles l = length l.roles
