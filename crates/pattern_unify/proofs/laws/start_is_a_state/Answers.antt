use Rattle.pattern_unify.proofs.Ending.{start_is_state}
use Rattle.pattern_unify.proofs.laws.start_is_a_state.Goals as goal

pub returns : goal.returns
returns c = start_is_state
