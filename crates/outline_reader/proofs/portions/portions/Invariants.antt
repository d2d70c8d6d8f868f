use Rattle.std.proofs.Common.{◌≡◌, ◌++◌, map, length}
use Rattle.outline_reader.specs.Views.{portion_view}
use Rattle.outline_reader.specs.Portions.{portions}
use Rattle.outline_reader.proofs.portions.portions.Given as goal

abbrev pub invariant-loop-roles : goal.invariant-loop-roles
invariant-loop-roles l = map portion_view l.portions.items ++ portions l.roles l.tokens ≡ portions l.initial.roles l.initial.tokens

abbrev pub decreases-loop-roles : goal.decreases-loop-roles
decreases-loop-roles l = length l.roles
