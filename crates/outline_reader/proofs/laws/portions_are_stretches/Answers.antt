use Rattle.outline_reader.proofs.StretchPortions.{portions_stretched}
use Rattle.outline_reader.proofs.laws.portions_are_stretches.Goals as goal

pub returns : goal.returns
returns c = portions_stretched
