use Rattle.core_proofs.proofs.TreeSteps.{proves_are_trees}
use Rattle.core_proofs.proofs.laws.proofs_are_trees.Goals as goal

pub returns : goal.returns
returns c = proves_are_trees
