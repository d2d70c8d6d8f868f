use Rattle.pattern_unify.proofs.RunFunction.{turn_is_function}
use Rattle.pattern_unify.proofs.laws.turn_leads_to_one_state.Goals as goal

pub returns : goal.returns
returns c = turn_is_function
