use Rattle.user_grammar.proofs.FaultLaws.{no_signature}
use Rattle.user_grammar.proofs.laws.faulty_files_have_no_signature.Goals as goal

pub returns : goal.returns
returns c = no_signature
