-- Which steps can stand one after another, and when each is right. To be held against docs/notation.md, 'Steps'.
use Rattle.std.specs.Prelude.{◌≡◌, ◌≤◌, ℕ, suc, List, [], ◌∷◌, ◌++◌, length, map, Option, Some, None, slice_get}
use Rattle.binding_terms.specs.Numbered.{AllNumbered}
use Rattle.scheme_terms.specs.SchemeTree.{SchemeTree, meta, values}
use Rattle.scheme_terms.specs.Forms.{Names, Substitution}
use Rattle.scheme_terms.specs.Substituting.{params, parameters, IsSubstitution}
use Rattle.scheme_terms.specs.SchemeScope.{StandsWith}
use Rattle.scheme_terms.specs.declared.scheme.MetaDecl.{MetaDecl}
use Rattle.rule_schemes.specs.Placed.{applied_judgment}
use Rattle.rule_schemes.specs.Rules.{JudgmentScheme, Rule, Theory, IsJudgmentScheme, MayStand, ENTRIES}
use Rattle.rule_schemes.specs.Statement.{StatementInput, given, syntax_input, Theorem}
use Rattle.proof_trees.specs.Right.{IsProofScope}
use Rattle.proof_trees.specs.RuleStep.{IsRuleInstance}
use Rattle.core_proofs.specs.RuleStep.{AreCited}
use Rattle.core_proofs.specs.Step.{Step, begin_theorem, end_theorem, by_rule}

-- a metavariable that stands for itself: applied to its parameters, the last innermost
abbrev pub itself : (number : ℕ) → MetaDecl → SchemeTree
itself m decl = meta m (values (parameters (params decl)))

-- A form has the goal: one substitution of the goal's own names by schemes of the scope makes the conclusion the form.
pub record HasGoal (th : Theory) (st : Theorem) (scope : Names) (form : JudgmentScheme) : Type 0 where
  pub by : Substitution
  pub into : by.into ≡ scope
  pub schemes : IsSubstitution th.sig st.scope by
  pub others_stay : AllNumbered (λ m decl. slice_get by.metas m ≡ Some (itself m decl)) 0 scope.metas
  pub same : map (applied_judgment by) st.outputs ≡ form ∷ []

-- a form of a step: over the scope and with its root
pub record IsStepForm (th : Theory) (scope : Names) (form : JudgmentScheme) : Type 0 where
  pub in_scope : IsJudgmentScheme th scope form
  pub root : StandsWith scope.root form.context.root
  pub entries : length form.context.entries ≤ ENTRIES
  pub may_stand : MayStand th scope.root form.context.root form.judgment

-- the judgments of the given inputs, which take the first numbers
abbrev pub given_judgments : List StatementInput → List JudgmentScheme
given_judgments [] = []
given_judgments (given j ∷ inputs) = j ∷ given_judgments inputs
given_judgments (syntax_input m ∷ inputs) = given_judgments inputs

-- Where the steps so far stand: after so many theorems, or within one, with its scope, the judgments in scope by their numbers, and
-- the form of the last step.
pub data Standing : Type 0 where
  outside : (ended : ℕ) → Standing
  within : (theorem : ℕ) → (scope : Names) → (scoped : List JudgmentScheme) → (last : Option JudgmentScheme) → Standing

-- a right step, from where the steps before it stand
pub data Move (th : Theory) (statements : List Theorem) : Standing → Step → Standing → Type 0 where
  begins : {k : ℕ} {st : Theorem} {scope : Names} → slice_get statements k ≡ Some st → IsProofScope st scope →
      Move th statements (outside k) (begin_theorem k) (within k scope (given_judgments st.inputs) None)
  by_a_rule : {k r line : ℕ} {on : List ℕ} {scope : Names} {scoped cited : List JudgmentScheme} {form : JudgmentScheme} {last : Option JudgmentScheme} {rule : Rule} →
      IsStepForm th scope form → AreCited scoped on cited → slice_get th.rules r ≡ Some rule → IsRuleInstance th scope form cited rule →
      Move th statements (within k scope scoped last) (by_rule line form r on) (within k scope (scoped ++ form ∷ []) (Some form))
  ends : {k line : ℕ} {st : Theorem} {scope : Names} {scoped : List JudgmentScheme} {form : JudgmentScheme} →
      slice_get statements k ≡ Some st → HasGoal th st scope form →
      Move th statements (within k scope scoped (Some form)) (end_theorem line) (outside (suc k))

-- right steps, one after another
pub data Leads (th : Theory) (statements : List Theorem) : Standing → List Step → Standing → Type 0 where
  no_step : {at : Standing} → Leads th statements at [] at
  one_step : {at then_at to : Standing} {step : Step} {steps : List Step} →
      Move th statements at step then_at → Leads th statements then_at steps to → Leads th statements at (step ∷ steps) to

-- the steps are right proofs of all the statements, in order
abbrev pub Proves : Theory → List Theorem → List Step → Type 0
Proves th statements steps = Leads th statements (outside 0) steps (outside (length statements))
