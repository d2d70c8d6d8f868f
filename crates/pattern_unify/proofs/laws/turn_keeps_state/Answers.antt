use Rattle.pattern_unify.proofs.StatesKept.{turn_keeps_state}
use Rattle.pattern_unify.proofs.laws.turn_keeps_state.Goals as goal

pub returns : goal.returns
returns c = turn_keeps_state
