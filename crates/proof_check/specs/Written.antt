-- What a step says: the name that it gives, and its form. To be held against docs/notation.md, 'Readings' and 'Steps'.
use Rattle.std.specs.Prelude.{◌≡◌, ℕ, List, [], ◌∷◌, map}
use Rattle.binding_terms.specs.Numbered.{AllNumbered}
use Rattle.scheme_terms.specs.Forms.{Names}
use Rattle.rule_schemes.specs.Rules.{JudgmentScheme, Theory}
use Rattle.rule_schemes.specs.Statement.{Theorem, OccursInJudgment, IsOfInputs}
use Rattle.sy_base.specs.Tokens.{PlainToken}
use Rattle.outline_reader.specs.Plain.{taken}
use Rattle.judgments.specs.Written.{ReadsOnlyAs}
use Rattle.proof_check.specs.Cited.{UNNAMED, MayBeGiven}

-- no goal name stands in the goal: each metavariable of the statement that stands there stands in an input
abbrev pub HasNoGoalName : Theorem → (goal : JudgmentScheme) → Type 0
HasNoGoalName st goal = AllNumbered (λ m decl. OccursInJudgment m goal → IsOfInputs st m) 0 st.scope.metas

-- the form is the goal, which is over the scope of the proof
abbrev pub IsGoal : Theorem → JudgmentScheme → Type 0
IsGoal st form = (st.outputs ≡ form ∷ []) × HasNoGoalName st form

-- the form for which the tokens stand: their one reading as a judgment over the scope of the proof, without new names
abbrev pub IsFormOf : Theory → Names → List PlainToken → JudgmentScheme → Type 0
IsFormOf th scope tokens form = ReadsOnlyAs th.sig th.judgments scope (map taken tokens) form

-- What a step says by its names and its forms: the name that it gives and its form. A step that is written with `proof` has neither a
-- name nor a form of its own: it gives `_`, and its form is the goal.
abbrev pub Says : Theory → Theorem → Names → (named : List (List ℕ)) → (names : List PlainToken) → (forms : List (List PlainToken)) → (name : List ℕ) → JudgmentScheme → Type 0
Says th st scope named [] [] name form = (name ≡ UNNAMED) × IsGoal st form
Says th st scope named (token ∷ []) (tokens ∷ []) name form = (name ≡ token.text) × MayBeGiven th.sig named token.text × IsFormOf th scope tokens form
Says th st scope named _ _ name form = ⊥
