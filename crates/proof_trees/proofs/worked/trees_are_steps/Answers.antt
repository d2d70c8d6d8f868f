use Rattle.std.proofs.Common.{refl}
use Rattle.proof_trees.proofs.worked.trees_are_steps.Goals as goal

pub returns : goal.returns
returns c = record { proof = refl; block = refl }
