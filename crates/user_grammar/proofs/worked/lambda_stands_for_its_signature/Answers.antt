use Rattle.user_grammar.proofs.LambdaFile.{lambda_is_written}
use Rattle.user_grammar.proofs.worked.lambda_stands_for_its_signature.Goals as goal

pub returns : goal.returns
returns c = record { written = lambda_is_written; fits = c.lambda_is_a_system.ensures.system.so_far.sig }
