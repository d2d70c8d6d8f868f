use Rattle.pattern_unify.proofs.TurnInstances.{turn_keeps_common_instances}
use Rattle.pattern_unify.proofs.laws.turn_keeps_common_instances.Goals as goal

pub returns : goal.returns
returns c = turn_keeps_common_instances
