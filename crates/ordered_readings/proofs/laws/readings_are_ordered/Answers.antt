use Rattle.ordered_readings.proofs.SamePlace.{order_law}
use Rattle.ordered_readings.proofs.laws.readings_are_ordered.Goals as goal

pub returns : goal.returns
returns c = order_law
