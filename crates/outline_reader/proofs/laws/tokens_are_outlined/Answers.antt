use Rattle.outline_reader.proofs.UniqueLemmas.{tokens_outlined}
use Rattle.outline_reader.proofs.laws.tokens_are_outlined.Goals as goal

pub returns : goal.returns
returns c = tokens_outlined
