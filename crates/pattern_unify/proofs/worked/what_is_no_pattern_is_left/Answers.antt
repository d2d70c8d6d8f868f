use Rattle.pattern_unify.proofs.RunFacts.{stuck_answer}
use Rattle.pattern_unify.proofs.WorkedRuns.{both_are_stuck}
use Rattle.pattern_unify.proofs.worked.what_is_no_pattern_is_left.Goals as goal

pub returns : goal.returns
returns c = record { one = stuck_answer; two = both_are_stuck }
