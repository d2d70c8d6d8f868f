-- The head of a case as a most general case of a choice. To be held against docs/notation.md, 'Cases'.
use Rattle.std.specs.Prelude.{◌≡◌, ℕ, [], length, Option, Some, None, MatchOption}
use Rattle.binding_terms.specs.Signature.{Signature}
use Rattle.scheme_terms.specs.SchemeTree.{SchemeTree}
use Rattle.scheme_terms.specs.Forms.{Names, Substitution}
use Rattle.rule_schemes.specs.Rules.{JudgmentScheme, Theory}
use Rattle.case_split.specs.declared.choice.Place.{Place}
use Rattle.case_split.specs.declared.choice.Place.TheVariants.{Explicit}
use Rattle.coverage_check.specs.Case.{Case, TermCase, head_of, term_head_of}
use Rattle.coverage_check.specs.Refinement.{refinement}
use Rattle.coverage_check.specs.MostGeneralCase.{IsMostGeneralCase, IsMostGeneralTermCase, IsFirstTaken}
use Rattle.proof_trees.specs.Steps.{CaseHead}
use Rattle.proof_trees.specs.Choices.{SubjectForm, on_judgment, on_scheme, ChoiceOf, IsChoiceFor}

-- the case with this conclusion
abbrev pub case_with : CaseHead → JudgmentScheme → Case
case_with head form = record { rule = head.number; place = head.place; scope = head.scope; premises = head.premises; conclusion = form }

-- the production of a case of a term, which one of an explicit entry lacks
abbrev pub prod_of : (number : ℕ) → Place → Option ℕ
prod_of n (Explicit i) = None
prod_of n place = Some n

-- the case with this term
abbrev pub term_case_with : CaseHead → SchemeTree → TermCase
term_case_with head s = record { prod = prod_of head.number head.place; place = head.place; scope = head.scope; term = s }

-- with these values of the names of the choice's scope the case is a most general one of the choice
abbrev pub IsCaseOf : Signature → Names → (subject : SubjectForm) → ChoiceOf subject → CaseHead → Substitution → Type 0
IsCaseOf sig outer (on_judgment j) choice head by =
    (head.term ≡ None) × MatchOption head.conclusion ⊥ (λ form. IsMostGeneralCase sig outer choice (case_with head form) by)
IsCaseOf sig outer (on_scheme ctx s cat) choice head by =
    (head.conclusion ≡ None) × (head.premises ≡ [])
    × MatchOption head.term ⊥ (λ t. IsMostGeneralTermCase sig outer (length ctx.entries) choice (term_case_with head t) by)

-- A case of the choice that its head names, with what each outer name stands for in it.
pub record IsWrittenCase (th : Theory) (outer : Names) (subject : SubjectForm) (head : CaseHead) (refine : Substitution) : Type 0 where
  pub choice : ChoiceOf subject
  pub is_choice : IsChoiceFor th outer subject head.number head.place choice
  pub by : Substitution
  pub is_case : IsCaseOf th.sig outer subject choice head by
  pub outer_names : refine ≡ refinement outer by

-- the first outer metavariable that the case writes and that is taken
abbrev pub IsFirstTakenBy : Signature → Names → (subject : SubjectForm) → ChoiceOf subject → CaseHead → (meta : ℕ) → Type 0
IsFirstTakenBy sig outer (on_judgment j) choice head m =
    MatchOption head.conclusion ⊥ (λ form. IsFirstTaken sig outer choice.names choice.equations head.scope (head_of (case_with head form)) m)
IsFirstTakenBy sig outer (on_scheme ctx s cat) choice head m =
    MatchOption head.term ⊥ (λ t. IsFirstTaken sig outer choice.names choice.equations head.scope (term_head_of (term_case_with head t)) m)
