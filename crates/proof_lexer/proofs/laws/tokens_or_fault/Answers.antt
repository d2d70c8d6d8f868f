use Rattle.proof_lexer.proofs.TotalLemmas.{tokens_or_fault}
use Rattle.proof_lexer.proofs.laws.tokens_or_fault.Goals as goal

pub returns : goal.returns
returns c = tokens_or_fault
