use Rattle.proof_trees.proofs.LeadsTrees.{whole_steps_are_trees}
use Rattle.proof_trees.proofs.laws.whole_steps_are_trees.Goals as goal

pub returns : goal.returns
returns c = whole_steps_are_trees
