use Rattle.std.proofs.Common.{refl}
use Rattle.proof_trees.proofs.worked.numbers_of_a_block.Goals as goal

pub returns : goal.returns
returns c = record { within = (refl, refl, refl); after = (refl, refl, refl, refl) }
