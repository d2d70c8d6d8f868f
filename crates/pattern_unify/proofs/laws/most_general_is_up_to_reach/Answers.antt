use Rattle.pattern_unify.proofs.SolvedRuns.{most_general_up_to_reach}
use Rattle.pattern_unify.proofs.laws.most_general_is_up_to_reach.Goals as goal

pub returns : goal.returns
returns c = most_general_up_to_reach
