use Rattle.outline_laws.proofs.OrderLemmas.{portions_ordered}
use Rattle.outline_laws.proofs.laws.portions_are_ordered.Goals as goal

pub returns : goal.returns
returns c = portions_ordered
