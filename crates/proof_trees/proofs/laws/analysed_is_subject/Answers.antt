use Rattle.proof_trees.proofs.BelowFacts.{analysed_is_subject}
use Rattle.proof_trees.proofs.laws.analysed_is_subject.Goals as goal

pub returns : goal.returns
returns c = analysed_is_subject
