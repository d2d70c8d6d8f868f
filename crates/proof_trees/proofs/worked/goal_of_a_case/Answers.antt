use Rattle.proof_trees.proofs.Facts.{goal_in_case, not_the_goal}
use Rattle.proof_trees.proofs.worked.goal_of_a_case.Goals as goal

pub returns : goal.returns
returns c = record { has = goal_in_case; lacks = not_the_goal }
