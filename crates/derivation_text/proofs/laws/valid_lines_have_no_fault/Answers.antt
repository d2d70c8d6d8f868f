use Rattle.derivation_text.proofs.FaultLemmas.{no_line_fault}
use Rattle.derivation_text.proofs.laws.valid_lines_have_no_fault.Goals as goal

pub returns : goal.returns
returns c = no_line_fault
