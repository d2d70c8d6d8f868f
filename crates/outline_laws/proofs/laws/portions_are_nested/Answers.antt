use Rattle.outline_laws.proofs.NestLemmas.{portions_nested}
use Rattle.outline_laws.proofs.laws.portions_are_nested.Goals as goal

pub returns : goal.returns
returns c = portions_nested
