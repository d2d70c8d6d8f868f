use Rattle.ordered_readings.proofs.CellLemmas.{enough_law}
use Rattle.ordered_readings.proofs.laws.two_are_enough.Goals as goal

pub returns : goal.returns
returns c = enough_law
