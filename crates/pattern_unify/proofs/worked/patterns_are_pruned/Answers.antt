use Rattle.pattern_unify.proofs.RunFacts.{prune_answer}
use Rattle.pattern_unify.proofs.WorkedRuns.{both_are_pruned, first_is_pruned_first}
use Rattle.pattern_unify.proofs.worked.patterns_are_pruned.Goals as goal

pub returns : goal.returns
returns c = record { second = prune_answer; both = both_are_pruned; first_first = first_is_pruned_first }
