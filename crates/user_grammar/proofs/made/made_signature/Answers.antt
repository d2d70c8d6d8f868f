use Rattle.outline_reader.specs.Plain.{outlined}
use Rattle.user_grammar.proofs.MadeSignature.{signature_there}
use Rattle.user_grammar.proofs.made.made_signature.Goals as goal

pub written_signature-requires : goal.written_signature-requires
written_signature-requires c = signature_there (outlined c.args.outline.now) c.requires
