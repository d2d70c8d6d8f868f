use Rattle.proof_kernel.proofs.GoingOn.{case_goes_on}
use Rattle.proof_kernel.proofs.laws.blocks_go_on.Goals as goal

pub returns-clause-case : goal.returns-clause-case
returns-clause-case c = case_goes_on
