-- What private contracts say of what is in scope while it grows.
use Rattle.std.specs.Prelude.{◌≡◌, ◌<◌, List, ◌∷◌, Option, map, length, vec_len, vec_capacity}
use Rattle.rule_schemes.specs.View.{judgment_scheme}
use Rattle.rule_schemes.specs.declared.rule.JScheme.{JScheme}
use Rattle.proof_trees.specs.Here as trees
use Rattle.proof_trees.specs.Goals as goals
use Rattle.proof_trees.specs.Goals.{taking_over}
use Rattle.proof_trees.specs.Standings as standings
use Rattle.proof_kernel.specs.View.{goal, here}
use Rattle.proof_kernel.specs.declared.here.Goal.{Goal}
use Rattle.proof_kernel.specs.declared.standing.Standing.{Standing}
use Rattle.proof_kernel.specs.declared.standing.Standing.TheVariants.{Within, Between}

-- more is held, and nothing else changed
abbrev pub HasGrown : trees.Here → trees.Here → Type 0
HasGrown before after = (more : List (Option trees.Held)) × (after ≡ trees.holding before more)

-- among the steps, the goal is that of the cases of a block with these forms
abbrev pub IsGoalOfCases : Standing → List JScheme → Goal → Type 0
IsGoalOfCases (Within k h l blocks) forms g = goal g ≡ trees.goal_of (goal h.goal) (length h.scope.metas) (map judgment_scheme forms)
IsGoalOfCases _ forms g = Unit {0}

-- there is room for one block more
abbrev pub HasRoom : Standing → Type 0
HasRoom (Between k o blocks) = vec_len blocks < vec_capacity blocks
HasRoom _ = Unit {0}

-- the steps go on before the innermost block
abbrev pub resumed : standings.Standing → standings.Standing
resumed (standings.between k o blocks) = standings.within k o.before (taking_over o.head.forms) blocks
resumed at = at

-- a case begins with this in scope
abbrev pub begun_case : trees.Here → standings.Standing → standings.Standing
begun_case here (standings.between k o blocks) = standings.within k here goals.no_step (o ∷ blocks)
begun_case here at = at
