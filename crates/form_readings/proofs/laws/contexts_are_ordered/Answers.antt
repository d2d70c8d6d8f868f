use Rattle.form_readings.proofs.ContextOrder.{context_law}
use Rattle.form_readings.proofs.laws.contexts_are_ordered.Goals as goal

pub returns : goal.returns
returns c = context_law
