use Rattle.pattern_unify.proofs.Progress.{progress}
use Rattle.pattern_unify.proofs.laws.states_go_on.Goals as goal

pub returns : goal.returns
returns c = progress
