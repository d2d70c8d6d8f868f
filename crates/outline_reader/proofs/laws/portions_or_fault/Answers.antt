use Rattle.outline_reader.proofs.FaultLemmas.{portions_or_fault}
use Rattle.outline_reader.proofs.laws.portions_or_fault.Goals as goal

pub returns : goal.returns
returns c = portions_or_fault
