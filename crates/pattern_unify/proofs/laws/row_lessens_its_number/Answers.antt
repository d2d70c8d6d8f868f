use Rattle.pattern_unify.proofs.TurnFalling.{turn_falls_by}
use Rattle.pattern_unify.proofs.laws.row_lessens_its_number.Goals as goal

pub returns : goal.returns
returns c = turn_falls_by
