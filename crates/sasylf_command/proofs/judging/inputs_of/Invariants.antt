use Rattle.std.proofs.Common.{◌≡◌, ◌++◌, map}
use Rattle.std.specs.Vec.Iter.{into_iter_items}
use Rattle.rule_schemes.specs.Statement.{derived}
use Rattle.derivation_check.specs.Inputs.{input_tree}
use Rattle.sasylf_command.proofs.judging.inputs_of.Given as goal

abbrev pub invariant-loop-tree : goal.invariant-loop-tree
invariant-loop-tree l =
    (l.yielded ++ into_iter_items l.tree-iterator ≡ l.fn.trees.items) × (map input_tree l.items.items ≡ map derived l.yielded)
