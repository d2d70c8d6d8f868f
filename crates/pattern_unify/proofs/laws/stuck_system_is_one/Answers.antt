use Rattle.pattern_unify.proofs.RunFunction.{stuck_system_is_one}
use Rattle.pattern_unify.proofs.laws.stuck_system_is_one.Goals as goal

pub returns : goal.returns
returns c = stuck_system_is_one
