-- When a step has the goal. To be held against docs/notation.md, 'The goal'.
use Rattle.std.specs.Prelude.{◌≡◌, List, [], ◌∷◌, ◌++◌, map, take}
use Rattle.std.specs.List.{AllZip}
use Rattle.scheme_terms.specs.SchemeTree.{SchemeTree}
use Rattle.scheme_terms.specs.Forms.{Names, Substitution}
use Rattle.scheme_terms.specs.SchemeScope.{IsScheme, params_scope}
use Rattle.scheme_terms.specs.Substituting.{identity}
use Rattle.rule_schemes.specs.Rules.{JudgmentScheme, Theory}
use Rattle.proof_trees.specs.Steps.{Simple, unproved}
use Rattle.proof_trees.specs.Tree.{Item, single, block, Items, no_items, item, forms_of}
use Rattle.rule_schemes.specs.Placed.{applied_judgment}
use Rattle.proof_trees.specs.Here.{Goal, Here}

-- schemes for the goal's own names, and each name of the scope for itself
abbrev pub goal_substitution : Names → Goal → List SchemeTree → Substitution
goal_substitution scope goal ss =
    record { metas = take goal.outer (identity scope).metas ++ ss; knowns = (identity scope).knowns; into = scope }

-- One substitution of the goal's own names by schemes of the scope makes the goal these forms, in order.
pub record HasGoal (th : Theory) (scope : Names) (goal : Goal) (forms : List JudgmentScheme) : Type 0 where
  pub values : List SchemeTree
  pub schemes : AllZip (λ decl s. IsScheme th.sig scope (params_scope decl) decl.cat.0 s) goal.names values
  pub same : map (applied_judgment (goal_substitution scope goal values)) goal.forms ≡ forms

-- the last step of a block: none yet, one with forms, or one that takes over the goal
pub data Last : Type 0 where
  no_step : Last
  with_forms : List JudgmentScheme → Last
  the_goal : Last

-- a block or an unproved step without a form takes over the goal
abbrev pub taking_over : List JudgmentScheme → Last
taking_over [] = the_goal
taking_over (j ∷ js) = with_forms (j ∷ js)

-- a step as the last one
abbrev pub last_of_step : Simple → Last
last_of_step (unproved line forms) = taking_over forms
last_of_step s = with_forms (forms_of s)

-- an item as the last one
abbrev pub last_of : Item → Last
last_of (single s) = last_of_step s
last_of (block head cases end) = taking_over head.forms

-- the last of steps in order, after this one
abbrev pub last_after : Last → Items → Last
last_after last no_items = last
last_after last (item i rest) = last_after (last_of i) rest

-- the last step has the goal
abbrev pub EndsWithGoal : Theory → Here → Last → Type 0
EndsWithGoal th here no_step = ⊥
EndsWithGoal th here (with_forms forms) = HasGoal th here.scope here.goal forms
EndsWithGoal th here the_goal = Unit {0}
