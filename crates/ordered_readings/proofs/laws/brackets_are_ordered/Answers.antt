use Rattle.ordered_readings.proofs.SamePlace.{bracket_law}
use Rattle.ordered_readings.proofs.laws.brackets_are_ordered.Goals as goal

pub returns : goal.returns
returns c = bracket_law
