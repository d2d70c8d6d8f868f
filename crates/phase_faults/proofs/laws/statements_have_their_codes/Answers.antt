use Rattle.phase_faults.proofs.CodeLemmas.{statements_have_codes}
use Rattle.phase_faults.proofs.laws.statements_have_their_codes.Goals as goal

pub returns : goal.returns
returns c = statements_have_codes
