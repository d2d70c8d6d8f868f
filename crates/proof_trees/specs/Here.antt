-- What is in scope at a place of a proof, and how steps, blocks and cases change it. To be held against docs/notation.md, 'Steps'.
use Rattle.std.specs.Prelude.{◌≡◌, ℕ, suc, ◌==◌, if◌then◌else◌, List, [], ◌∷◌, ◌++◌, length, map, take, replicate, Option, Some, None, option_map, unwrap_or, slice_get}
use Rattle.scheme_terms.specs.SchemeTree.{SchemeTree, meta, no_values}
use Rattle.scheme_terms.specs.Forms.{SchemeContext, Names, Substitution}
use Rattle.scheme_terms.specs.Substituting.{applied, metas_from}
use Rattle.scheme_terms.specs.declared.scheme.MetaDecl.{MetaDecl}
use Rattle.rule_schemes.specs.Rules.{JudgmentScheme}
use Rattle.rule_schemes.specs.Statement.{Theorem, StatementInput, given, syntax_input}
use Rattle.proof_trees.specs.Steps.{Simple, by_rule, by_call, by_name, by_weakening, by_exchange, by_substitution, unproved, Subject, step_subject, scheme_subject, SplitHead, CaseHead}
use Rattle.proof_trees.specs.Tree.{Item, single, block, Items, no_items, item, Cases, numbers_of_cases}
use Rattle.induction_order.specs.declared.relation.Rel.{Rel}
use Rattle.induction_order.specs.declared.relation.Rel.TheVariants.{Equal, Unknown}
use Rattle.induction_order.specs.Order.{below_of}
use Rattle.rule_schemes.specs.Placed.{applied_judgment}
use Rattle.theorem_calls.specs.Call.{with_fresh}
use Rattle.proof_trees.specs.Choices.{SubjectForm, on_judgment, on_scheme}

-- a goal: its forms, over so many names of the scope and after them names of its own
pub record Goal : Type 0 where
  pub outer : ℕ
  pub names : List MetaDecl
  pub forms : List JudgmentScheme

-- a derivation in scope: its judgment, and its mark against each target
pub record Held : Type 0 where
  pub judgment : JudgmentScheme
  pub relations : List Rel

-- What is in scope: the names, the derivations by their numbers, none where a number is out of scope, the present value of each target
-- that is a scheme, and the goal.
pub record Here : Type 0 where
  pub scope : Names
  pub held : List (Option Held)
  pub targets : List (Option SchemeTree)
  pub goal : Goal

-- what is held under a number, where it is in scope
abbrev pub held_at : Here → ℕ → Option Held
held_at here n = unwrap_or (slice_get here.held n) None

-- so many numbers of nothing
abbrev pub nones : {A : Type 0} → ℕ → List (Option A)
nones n = replicate n None

-- nothing is known of a derivation against any target
abbrev pub all_unknown : Here → List Rel
all_unknown here = map (λ target. Unknown) here.targets

-- a derivation of which nothing is known
abbrev pub unrelated : Here → JudgmentScheme → Held
unrelated here j = record { judgment = j; relations = all_unknown here }

-- the marks of what is cited, which a name, a weakened and an exchanged derivation keep
abbrev pub relations_at : Here → ℕ → List Rel
relations_at here n = unwrap_or (option_map (λ h. h.relations) (held_at here n)) (all_unknown here)

-- forms under the marks of the steps that are cited for them
abbrev pub renamed_from : Here → List JudgmentScheme → (of : List ℕ) → List Held
renamed_from here [] of = []
renamed_from here (j ∷ js) [] = unrelated here j ∷ renamed_from here js []
renamed_from here (j ∷ js) (n ∷ of) = record { judgment = j; relations = relations_at here n } ∷ renamed_from here js of

-- what a step adds
abbrev pub added_by : Here → Simple → List Held
added_by here (by_rule line form r on) = unrelated here form ∷ []
added_by here (by_call line forms callee args fresh) = map (unrelated here) forms
added_by here (by_name line forms of) = renamed_from here forms of
added_by here (by_weakening line form of) = renamed_from here (form ∷ []) (of ∷ [])
added_by here (by_exchange line form of) = renamed_from here (form ∷ []) (of ∷ [])
added_by here (by_substitution line form of by) = unrelated here form ∷ []
added_by here (unproved line forms) = map (unrelated here) forms

-- the scope with the new names of a step, which only a call has
abbrev pub scope_with : Names → Simple → Names
scope_with scope (by_call line forms callee args fresh) = with_fresh scope fresh
scope_with scope _ = scope

-- the same with more derivations
abbrev pub holding : Here → List (Option Held) → Here
holding here more = record { scope = here.scope; held = here.held ++ more; targets = here.targets; goal = here.goal }

-- after a step that is justified by itself
abbrev pub after_step : Here → Simple → Here
after_step here s =
    record { scope = scope_with here.scope s; held = here.held ++ map (λ h. Some h) (added_by here s); targets = here.targets; goal = here.goal }

-- after a block: its forms take the first numbers, and what its cases numbered is out of scope
abbrev pub after_block : Here → SplitHead → Cases → Here
after_block here head cases = holding here (map (λ j. Some (unrelated here j)) head.forms ++ nones (numbers_of_cases cases))

-- after a step or a block
abbrev pub after_item : Here → Item → Here
after_item here (single s) = after_step here s
after_item here (block head cases end) = after_block here head cases

-- after steps in order
abbrev pub after_items : Here → Items → Here
after_items here no_items = here
after_items here (item i rest) = after_items (after_item here i) rest

-- the goal of the cases of a block: the forms that are written, or the goal that the block takes over
abbrev pub goal_of : Goal → (names : ℕ) → List JudgmentScheme → Goal
goal_of goal n [] = goal
goal_of goal n (j ∷ js) = record { outer = n; names = []; forms = j ∷ js }

-- around the cases of a block: its forms have numbers that are not yet in scope
abbrev pub around_cases : Here → SplitHead → Here
around_cases here head =
    record {
      scope = here.scope;
      held = here.held ++ nones (length head.forms);
      targets = here.targets;
      goal = goal_of here.goal (length here.scope.metas) head.forms;
    }

-- after a case, which took so many numbers
abbrev pub after_case : Here → (numbers : ℕ) → Here
after_case around n = holding around (nones n)

-- outer names by their values, and a goal's own names after those of the case's scope
abbrev pub over_goal : Substitution → Goal → Substitution
over_goal by goal =
    record { metas = take goal.outer by.metas ++ metas_from (length by.into.metas) goal.names; knowns = by.knowns; into = with_fresh by.into goal.names }

-- a goal within a case
abbrev pub refined_goal : Substitution → Goal → Goal
refined_goal by goal =
    record { outer = length by.into.metas; names = goal.names; forms = map (applied_judgment (over_goal by goal)) goal.forms }

-- what is held within a case
abbrev pub refined_held : Substitution → Held → Held
refined_held by h = record { judgment = applied_judgment by h.judgment; relations = h.relations }

-- the marks of a case's premises: below those of what the block analyses
abbrev pub marks_below : Here → Subject → List Rel
marks_below here (step_subject n) = map below_of (relations_at here n)
marks_below here (scheme_subject s cat) = all_unknown here

-- a premise of a case
abbrev pub premise_of : Here → Subject → JudgmentScheme → Held
premise_of here subject j = record { judgment = j; relations = marks_below here subject }

-- Within a case each outer name stands for its value; the case's premises are in scope after all else.
abbrev pub entering : Here → Subject → CaseHead → (refine : Substitution) → Here
entering around subject head refine =
    record {
      scope = refine.into;
      held = map (option_map (refined_held refine)) around.held ++ map (λ j. Some (premise_of around subject j)) head.premises;
      targets = map (option_map (applied refine.metas refine.knowns 0)) around.targets;
      goal = refined_goal refine around.goal;
    }

-- the context of a goal's first form, in which a block's scheme stands
abbrev pub first_context : Here → SchemeContext
first_context here = unwrap_or (option_map (λ j. j.context) (slice_get here.goal.forms 0)) (record { root = here.scope.root; entries = [] })

-- what a block analyses is in scope: the judgment of a step, or a scheme under the explicit entries of the goal's first form
abbrev pub IsAnalysed : Here → Subject → SubjectForm → Type 0
IsAnalysed around (step_subject n) (on_judgment j) = option_map (λ h. h.judgment) (held_at around n) ≡ Some j
IsAnalysed around (scheme_subject s cat) (on_scheme ctx t c) = (ctx ≡ first_context around) × (t ≡ s) × (c ≡ cat)
IsAnalysed around _ _ = ⊥

-- the marks of an input with this number against targets, which are numbers of inputs
abbrev pub input_marks : (number : ℕ) → List ℕ → List Rel
input_marks n [] = []
input_marks n (target ∷ targets) = (if n == target then Equal else Unknown) ∷ input_marks n targets

-- the derivations that are given, where the first input has this number
abbrev pub given_held : (first : ℕ) → (targets : List ℕ) → List StatementInput → List (Option Held)
given_held n targets [] = []
given_held n targets (given j ∷ inputs) = Some (record { judgment = j; relations = input_marks n targets }) ∷ given_held (suc n) targets inputs
given_held n targets (syntax_input m ∷ inputs) = given_held (suc n) targets inputs

-- a syntax input as a scheme
abbrev pub scheme_of_input : StatementInput → Option SchemeTree
scheme_of_input (given j) = None
scheme_of_input (syntax_input m) = Some (meta m no_values)

-- the values of targets at the beginning: a syntax input is itself, a derivation has none
abbrev pub target_values : List StatementInput → (targets : List ℕ) → List (Option SchemeTree)
target_values inputs [] = []
target_values inputs (target ∷ targets) = unwrap_or (option_map scheme_of_input (slice_get inputs target)) None ∷ target_values inputs targets

-- at the beginning of a theorem's proof, whose scope is the statement's without its further names
abbrev pub beginning : Theorem → Names → (goal_names : List MetaDecl) → Here
beginning st scope names =
    record {
      scope = scope;
      held = given_held 0 st.targets st.inputs;
      targets = target_values st.inputs st.targets;
      goal = record { outer = length scope.metas; names = names; forms = st.outputs };
    }
