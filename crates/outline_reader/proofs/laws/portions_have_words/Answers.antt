use Rattle.outline_reader.proofs.SaidPortions.{portions_said}
use Rattle.outline_reader.proofs.laws.portions_have_words.Goals as goal

pub returns : goal.returns
returns c = portions_said
