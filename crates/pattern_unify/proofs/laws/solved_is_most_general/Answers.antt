use Rattle.pattern_unify.proofs.SolvedRuns.{left_is_most_general}
use Rattle.pattern_unify.proofs.laws.solved_is_most_general.Goals as goal

pub returns : goal.returns
returns c = left_is_most_general
