use Rattle.pattern_unify.proofs.TurnFalling.{turn_falls}
use Rattle.pattern_unify.proofs.laws.measure_falls.Goals as goal

pub returns : goal.returns
returns c = turn_falls
