use Rattle.std.proofs.Common.{◌≡◌, ◌++◌, map, drop}
use Rattle.core_proofs.specs.Value.{given_trees}
use Rattle.derivation_check.specs.Inputs.{input_tree}
use Rattle.theorem_runner.proofs.running.given_trees.Given as goal

abbrev pub invariant-loop-input : goal.invariant-loop-input
invariant-loop-input l = l.all.items ++ given_trees (map input_tree (drop l.input-index l.input-items)) ≡ given_trees (map input_tree l.input-items)
