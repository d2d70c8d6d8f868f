use Rattle.pattern_unify.proofs.GroundBack.{turn_keeps_ground_instances}
use Rattle.pattern_unify.proofs.laws.turn_keeps_ground_instances.Goals as goal

pub returns : goal.returns
returns c = turn_keeps_ground_instances
