-- The statements that can be proved so far, and where their proofs stand: no context, no parameter, no syntax input. To be held
-- against docs/notation.md, 'Rules and statements' and 'Steps'.
use Rattle.std.specs.Prelude.{◌≡◌, ◌≢◌, ◌<◌, ◌≤◌, ◌⊎◌, ℕ, List, length, Some, slice_get, MatchOption}
use Rattle.std.specs.List.{AllByRecursion}
use Rattle.binding_terms.specs.Numbered.{AllNumbered}
use Rattle.scheme_terms.specs.Forms.{Names}
use Rattle.scheme_terms.specs.declared.scheme.Root.TheVariants.{Closed}
use Rattle.pattern_unify.specs.Plain.{HaveNoParameters}
use Rattle.rule_schemes.specs.Rules.{JudgmentScheme, Rule, Theory}
use Rattle.rule_schemes.specs.Statement.{StatementInput, given, syntax_input, Theorem, IsStatement, IsTheoremScope, HasNoFault, IsOfInputs, IsOfOutputs}
use Rattle.proof_trees.specs.RuleStep.{IsRuleInstance}
use Rattle.core_proofs.specs.RuleStep.{AreCited}
use Rattle.proof_trees.specs.Right.{IsProofScope}
use Rattle.core_proofs.specs.Proof.{IsStepForm}

-- the input is a derivation
abbrev pub IsOfDerivation : StatementInput → Type 0
IsOfDerivation (given j) = Unit {0}
IsOfDerivation (syntax_input m) = ⊥

-- A statement over a closed scope whose names have no parameters, with derivations as inputs and one conclusion. Each of its names
-- stands in an input or in the conclusion, and those that stand in the conclusion alone come last.
pub record IsProvable (th : Theory) (st : Theorem) : Type 0 where
  pub forms : IsStatement th st
  pub scope : IsTheoremScope th st.scope
  pub root : st.scope.root ≡ Closed
  pub metas : HaveNoParameters st.scope.metas
  pub no_fault : HasNoFault th st
  pub one_output : length st.outputs ≡ 1
  pub derivations : AllByRecursion IsOfDerivation st.inputs
  pub each_stands : AllNumbered (λ m decl. IsOfInputs st m ⊎ IsOfOutputs st m) 0 st.scope.metas
  pub goal_names_last : (scope : Names) × IsProofScope st scope

-- a step by a rule that is right in a scope, where these forms are in scope by their numbers
pub record IsRightByRule (th : Theory) (scope : Names) (scoped : List JudgmentScheme) (form : JudgmentScheme) (r : ℕ) (on : List ℕ) : Type 0 where
  pub form_is : IsStepForm th scope form
  pub cited : List JudgmentScheme
  pub cited_are : AreCited scoped on cited
  pub rule : Rule
  pub here : slice_get th.rules r ≡ Some rule
  pub is_instance : IsRuleInstance th scope form cited rule

-- so many of the statement's first names stand in an input, and the next one does not
pub record CountsInputs (st : Theorem) (n : ℕ) : Type 0 where
  pub in_range : n ≤ length st.scope.metas
  pub of_inputs : (m : ℕ) → m < n → IsOfInputs st m
  pub further : n < length st.scope.metas → IsOfInputs st n → ⊥

-- the first statement with this name has this number
pub record IsFirstNamed (sts : List Theorem) (name : List ℕ) (k : ℕ) : Type 0 where
  pub statement : Theorem
  pub here : slice_get sts k ≡ Some statement
  pub named : statement.name ≡ name
  pub none_before : (i : ℕ) → i < k → MatchOption (slice_get sts i) ⊥ (λ st. st.name ≢ name)
