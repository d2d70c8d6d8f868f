use Rattle.outline_reader.proofs.FilledLemmas.{portions_filled}
use Rattle.outline_reader.proofs.laws.portions_are_filled.Goals as goal

pub returns : goal.returns
returns c = portions_filled
