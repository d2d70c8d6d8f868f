use Rattle.proof_trees.specs.RanksFall.{ranks_end}
use Rattle.proof_trees.proofs.laws.ranks_end.Goals as goal

pub returns : goal.returns
returns c = ranks_end
