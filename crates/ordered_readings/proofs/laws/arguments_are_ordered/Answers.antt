use Rattle.ordered_readings.proofs.SamePlace.{argument_law}
use Rattle.ordered_readings.proofs.laws.arguments_are_ordered.Goals as goal

pub returns : goal.returns
returns c = argument_law
