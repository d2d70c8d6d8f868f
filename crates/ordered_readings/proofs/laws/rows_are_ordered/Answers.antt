use Rattle.ordered_readings.proofs.SamePlace.{row_law}
use Rattle.ordered_readings.proofs.laws.rows_are_ordered.Goals as goal

pub returns : goal.returns
returns c = row_law
