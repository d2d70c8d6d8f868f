use Rattle.phase_faults.proofs.CodeLemmas.{judgments_have_codes}
use Rattle.phase_faults.proofs.laws.judgments_have_their_codes.Goals as goal

pub returns : goal.returns
returns c = judgments_have_codes
