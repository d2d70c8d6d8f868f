use Rattle.core_proofs.proofs.Moving.{one_end}
use Rattle.core_proofs.proofs.laws.steps_lead_to_one.Goals as goal

pub returns : goal.returns
returns c = one_end
