use Rattle.sy_base.proofs.PlaceLemmas.{tokens_stand}
use Rattle.proof_lexer.proofs.laws.tokens_stand_in_source.Goals as goal

pub returns : goal.returns
returns c = tokens_stand
