use Rattle.pattern_unify.proofs.RunFacts.{function_answer, freed_answer}
use Rattle.pattern_unify.proofs.worked.patterns_are_bound.Goals as goal

pub returns : goal.returns
returns c = record { function = function_answer; freed = freed_answer }
