use Rattle.proof_trees.proofs.Facts.{order_falls}
use Rattle.proof_trees.proofs.laws.order_falls.Goals as goal

pub returns : goal.returns
returns c = order_falls
