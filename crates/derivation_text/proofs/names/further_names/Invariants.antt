use Rattle.std.proofs.Common.{◌≡◌, ◌++◌, map, option_map, length}
use Rattle.term_reader.specs.View.{token}
use Rattle.derivation_text.specs.Ending as spec
use Rattle.derivation_text.proofs.names.further_names.Given as goal

abbrev pub invariant-loop-rest : goal.invariant-loop-rest
invariant-loop-rest l =
    option_map (λ ws. l.names ++ ws) (spec.further_known l.known (map token l.rest))
    ≡ option_map (λ ws. l.initial.names ++ ws) (spec.further_known l.known (map token l.tokens))

abbrev pub decreases-loop-rest : goal.decreases-loop-rest
decreases-loop-rest l = length l.rest
