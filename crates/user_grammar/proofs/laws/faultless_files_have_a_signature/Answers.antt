use Rattle.user_grammar.proofs.MadeSignature.{signature_stands}
use Rattle.user_grammar.proofs.laws.faultless_files_have_a_signature.Goals as goal

pub returns : goal.returns
returns c = signature_stands
