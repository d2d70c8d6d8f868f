use Rattle.core_proofs.proofs.TreeValues.{values_are_of_trees}
use Rattle.core_proofs.proofs.laws.values_are_of_trees.Goals as goal

pub returns : goal.returns
returns c = values_are_of_trees
