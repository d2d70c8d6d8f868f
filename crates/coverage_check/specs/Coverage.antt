-- That the cases of a split cover each instance of its subject. To be held against docs/notation.md, 'Cases' (that they cover).
use Rattle.std.specs.Prelude.{◌≡◌, ℕ, Bool, List, length, slice_get, MatchOption}
use Rattle.std.specs.List.{AllByRecursion}
use Rattle.binding_terms.specs.Numbered.{AnyByRecursion}
use Rattle.binding_terms.specs.Tree.{Tree}
use Rattle.scheme_terms.specs.SchemeTree.{SchemeTree}
use Rattle.scheme_terms.specs.Forms.{Names, Substitution, Instance, SchemeContext}
use Rattle.scheme_terms.specs.Instance.{instance_of, FitsScope}
use Rattle.scheme_terms.specs.Substituting.{followed}
use Rattle.rule_schemes.specs.Rules.{JudgmentScheme, Theory, IsInstance}
use Rattle.rule_schemes.specs.Derivation.{Derivation, judgment, Derives, AreInstances}
use Rattle.rule_schemes.specs.Raising.{TestsReach}
use Rattle.case_split.specs.Choice.{JudgmentChoice, IsPossible, SyntaxChoice, IsPossibleTerm}
use Rattle.case_split.specs.Choices.{choices}
use Rattle.case_split.specs.SyntaxChoices.{syntax_choices}
use Rattle.case_split.specs.Answers.{IsSubject, IsSyntaxSubject}
use Rattle.case_split.specs.Laws.{last_rule, last_premises}
use Rattle.case_split.specs.LeafPlace.{IsAtPlace}
use Rattle.coverage_check.specs.Case.{Case, TermCase}
use Rattle.coverage_check.specs.Answers.{IsRefinedCase, IsRefinedTermCase}

-- a written case with the values of the outer names in it
pub record CheckedCase : Type 0 where
  pub written : Case
  pub values : Substitution

pub record CheckedTermCase : Type 0 where
  pub written : TermCase
  pub values : Substitution

-- The derivation's last step is an instance of the case: a ground instance of the case's scope, which agrees with that of the outer scope through the
-- values of the outer names, makes it a node of the case's rule, or a leaf of it at the case's place, with the case's conclusion and premises.
pub record FitsCase (th : Theory) (outer : Names) (inst : Instance) (d : Derivation) (c : CheckedCase) (own : Instance) : Type 0 where
  pub scope : FitsScope th.sig c.written.scope own
  pub agrees : followed outer.metas c.values own ≡ inst
  pub rule : c.written.rule ≡ last_rule d
  pub place : IsAtPlace th own c.written.conclusion c.written.place d
  pub conclusion : IsInstance own c.written.conclusion (judgment d)
  pub premises : AreInstances own c.written.premises (last_premises d)

-- the term is an instance of the case's term, under so many explicit entries
pub record FitsTermCase (th : Theory) (outer : Names) (entries : ℕ) (inst : Instance) (t : Tree) (c : CheckedTermCase) (own : Instance) : Type 0 where
  pub scope : FitsScope th.sig c.written.scope own
  pub agrees : followed outer.metas c.values own ≡ inst
  pub term : instance_of own entries c.written.term ≡ t

-- exactly one of the cases fits, with exactly one ground instance
pub record HasOneCase {C : Type 0} (fits : C → Instance → Type 0) (cases : List C) : Type 0 where
  pub number : ℕ
  pub own : Instance
  pub fitting : MatchOption (slice_get cases number) ⊥ (λ c. fits c own)
  pub only : (n : ℕ) (other : Instance) → MatchOption (slice_get cases n) ⊥ (λ c. fits c other) → (n ≡ number) × (other ≡ own)

-- the case is a most general one of the choice
abbrev pub IsCaseOf : Theory → Names → JudgmentChoice → CheckedCase → Type 0
IsCaseOf th scope choice c = IsRefinedCase th.sig scope choice c.written c.values

abbrev pub IsTermCaseOf : Theory → Names → (entries : ℕ) → SyntaxChoice → CheckedTermCase → Type 0
IsTermCaseOf th scope entries choice c = IsRefinedTermCase th.sig scope entries choice c.written c.values

-- Cases cover choices: each case is one of a choice, each possible choice has a case, and no two cases are of one rule and place.
pub record Covers {K C : Type 0} (is_possible : K → Type 0) (is_case_of : K → C → Type 0) (choices : List K) (cases : List C) : Type 0 where
  pub of_choice : AllByRecursion (λ c. AnyByRecursion (λ choice. is_case_of choice c) choices) cases
  pub covered : AllByRecursion (λ choice. is_possible choice → AnyByRecursion (is_case_of choice) cases) choices
  pub once : (choice : K) (i j : ℕ) → MatchOption (slice_get cases i) ⊥ (is_case_of choice) → MatchOption (slice_get cases j) ⊥ (is_case_of choice) → i ≡ j

-- Coverage: for each ground instance of the scope and each derivation of the subject there is exactly one written case and one ground instance of it that
-- fit.
abbrev pub CasesCover : Type 0
CasesCover =
    (th : Theory) (scope : Names) (subject : JudgmentScheme) (reaches : ℕ → ℕ → Bool) (cases : List CheckedCase) →
    IsSubject th scope subject → TestsReach th.sig reaches →
    Covers (IsPossible th.sig) (IsCaseOf th scope) (choices reaches th scope subject) cases →
    (inst : Instance) (d : Derivation) → FitsScope th.sig scope inst → Derives th d → IsInstance inst subject (judgment d) →
    HasOneCase (FitsCase th scope inst d) cases

-- the same for terms
abbrev pub TermCasesCover : Type 0
TermCasesCover =
    (th : Theory) (scope : Names) (ctx : SchemeContext) (subject : SchemeTree) (cat : ℕ) (reaches : ℕ → ℕ → Bool) (cases : List CheckedTermCase) →
    IsSyntaxSubject th scope ctx subject cat → TestsReach th.sig reaches →
    Covers (IsPossibleTerm th.sig) (IsTermCaseOf th scope (length ctx.entries)) (syntax_choices reaches th.sig scope ctx subject cat) cases →
    (inst : Instance) → FitsScope th.sig scope inst →
    HasOneCase (FitsTermCase th scope (length ctx.entries) inst (instance_of inst (length ctx.entries) subject)) cases
