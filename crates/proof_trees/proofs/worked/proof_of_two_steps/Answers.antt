use Rattle.proof_trees.proofs.Facts.{two_is_right, two_leads, two_has_value}
use Rattle.proof_trees.proofs.worked.proof_of_two_steps.Goals as goal

pub returns : goal.returns
returns c = record { right = two_is_right; leads = two_leads; value = two_has_value }
