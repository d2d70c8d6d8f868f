use Rattle.std.proofs.Common.{◌≡◌, ◌++◌, map, option_map, length}
use Rattle.term_reader.specs.View.{token}
use Rattle.derivation_text.specs.Found as found
use Rattle.derivation_text.proofs.cited.further_trees.Given as goal

abbrev pub invariant-loop-rest : goal.invariant-loop-rest
invariant-loop-rest l =
    option_map (λ ds. l.trees.items ++ ds) (found.further_trees l.known (map token l.rest))
    ≡ option_map (λ ds. l.initial.trees.items ++ ds) (found.further_trees l.known (map token l.tokens))

abbrev pub decreases-loop-rest : goal.decreases-loop-rest
decreases-loop-rest l = length l.rest
