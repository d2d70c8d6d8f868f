use Rattle.std.proofs.Common.{◌≡◌, ◌++◌, map, option_map, drop}
use Rattle.rule_schemes.specs.View.{statement_input}
use Rattle.proof_trees.specs.Here.{given_held}
use Rattle.proof_kernel.specs.View.{held}
use Rattle.proof_kernel.proofs.beginning.held_inputs.Given as goal

abbrev pub invariant-loop-number : goal.invariant-loop-number
invariant-loop-number l =
    map (option_map held) l.all ++ given_held l.number l.targets (map statement_input (drop l.number l.inputs))
    ≡ given_held 0 l.targets (map statement_input l.inputs)
