use Rattle.outline_reader.proofs.UniqueLemmas.{portions_unique}
use Rattle.outline_reader.proofs.laws.portions_are_unique.Goals as goal

pub returns : goal.returns
returns c = portions_unique
