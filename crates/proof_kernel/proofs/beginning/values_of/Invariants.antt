use Rattle.std.proofs.Common.{◌≡◌, ◌++◌, map, option_map, drop}
use Rattle.scheme_terms.specs.View.{scheme}
use Rattle.rule_schemes.specs.View.{statement_input}
use Rattle.proof_trees.specs.Here.{target_values}
use Rattle.proof_kernel.proofs.beginning.values_of.Given as goal

abbrev pub invariant-loop-target : goal.invariant-loop-target
invariant-loop-target l =
    map (option_map scheme) l.all ++ target_values (map statement_input l.inputs) (drop l.target-index l.targets)
    ≡ target_values (map statement_input l.inputs) l.targets
