use Rattle.ordered_readings.proofs.CellLemmas.{slot_law}
use Rattle.ordered_readings.proofs.laws.first_of_slot.Goals as goal

pub returns : goal.returns
returns c = slot_law
