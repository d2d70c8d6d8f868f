use Rattle.std.proofs.Common.{◌≡◌, ◌++◌, map, option_map, drop}
use Rattle.derivation_text.specs.Contents.{argument}
use Rattle.derivation_text.specs.Given.{given_trees}
use Rattle.derivation_text.proofs.inputs.given_trees.Given as goal

abbrev pub invariant-loop-arg : goal.invariant-loop-arg
invariant-loop-arg l =
    option_map (λ ds. l.trees.items ++ ds) (given_trees l.known (map argument (drop l.arg-index l.args))) ≡ given_trees l.known (map argument l.args)
