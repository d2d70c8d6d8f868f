use Rattle.form_readings.proofs.FormOrder.{wanted_law}
use Rattle.form_readings.proofs.laws.readings_of_forms_are_ordered.Goals as goal

pub returns : goal.returns
returns c = wanted_law
