use Rattle.ordered_readings.proofs.CellLemmas.{length_law}
use Rattle.ordered_readings.proofs.laws.first_of_lengths.Goals as goal

pub returns : goal.returns
returns c = length_law
