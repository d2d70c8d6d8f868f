-- The choices for what a block analyses: those for a judgment or for a term. To be held against docs/notation.md, 'Choices'.
use Rattle.std.specs.Prelude.{◌≡◌, ℕ, Bool, List, [], ◌∷◌, ◌++◌, unwrap_or}
use Rattle.std.specs.List.{AllByRecursion}
use Rattle.binding_terms.specs.Numbered.{AnyByRecursion}
use Rattle.binding_terms.specs.Signature.{Signature}
use Rattle.scheme_terms.specs.SchemeTree.{SchemeTree}
use Rattle.scheme_terms.specs.Forms.{SchemeContext, Names}
use Rattle.rule_schemes.specs.Rules.{JudgmentScheme, Theory}
use Rattle.rule_schemes.specs.Raising.{TestsReach}
use Rattle.pattern_unify.specs.Equations.{SchemeEquation}
use Rattle.pattern_unify.specs.Answers.{IsOutside}
use Rattle.case_split.specs.declared.choice.Place.{Place}
use Rattle.case_split.specs.Choice.{JudgmentChoice, SyntaxChoice, IsPossible, IsPossibleTerm}
use Rattle.case_split.specs.Choices.{choices}
use Rattle.case_split.specs.SyntaxChoices.{syntax_choices}
use Rattle.case_split.specs.Answers.{IsSubject, IsSyntaxSubject}

-- what a block analyses: a judgment, or a scheme of a category in a context
pub data SubjectForm : Type 0 where
  on_judgment : JudgmentScheme → SubjectForm
  on_scheme : SchemeContext → SchemeTree → (cat : ℕ) → SubjectForm

-- what its choices ask of it
abbrev pub IsSubjectOf : Theory → Names → SubjectForm → Type 0
IsSubjectOf th scope (on_judgment j) = IsSubject th scope j
IsSubjectOf th scope (on_scheme ctx s cat) = IsSyntaxSubject th scope ctx s cat

-- a choice for it
abbrev pub ChoiceOf : SubjectForm → Type 0
ChoiceOf (on_judgment j) = JudgmentChoice
ChoiceOf (on_scheme ctx s cat) = SyntaxChoice

-- all choices for it, in order
abbrev pub choices_of : (ℕ → ℕ → Bool) → Theory → Names → (subject : SubjectForm) → List (ChoiceOf subject)
choices_of reaches th scope (on_judgment j) = choices reaches th scope j
choices_of reaches th scope (on_scheme ctx s cat) = syntax_choices reaches th.sig scope ctx s cat

-- how a block names a choice: by the number of its rule or production, 0 where it has none, and its place
abbrev pub named_as : (subject : SubjectForm) → ChoiceOf subject → ℕ × Place
named_as (on_judgment j) choice = (choice.rule, choice.place)
named_as (on_scheme ctx s cat) choice = (unwrap_or choice.prod 0, choice.place)

-- the scope with a choice's new names
abbrev pub names_of : (subject : SubjectForm) → ChoiceOf subject → Names
names_of (on_judgment j) choice = choice.names
names_of (on_scheme ctx s cat) choice = choice.names

-- its system
abbrev pub system_of : (subject : SubjectForm) → ChoiceOf subject → List SchemeEquation
system_of (on_judgment j) choice = choice.equations
system_of (on_scheme ctx s cat) choice = choice.equations

-- the choice is possible
abbrev pub IsPossibleChoice : Signature → (subject : SubjectForm) → ChoiceOf subject → Type 0
IsPossibleChoice sig (on_judgment j) choice = IsPossible sig choice
IsPossibleChoice sig (on_scheme ctx s cat) choice = IsPossibleTerm sig choice

-- one of the choices, which has this number and place
abbrev pub IsChoiceFor : Theory → Names → (subject : SubjectForm) → (number : ℕ) → Place → ChoiceOf subject → Type 0
IsChoiceFor th scope subject n place choice =
    (named_as subject choice ≡ (n, place))
    × ((reaches : ℕ → ℕ → Bool) × TestsReach th.sig reaches × AnyByRecursion (λ c. c ≡ choice) (choices_of reaches th scope subject))

-- the written run of the choice's system ends stuck, with these equations
abbrev pub IsStuckChoice : Theory → Names → (subject : SubjectForm) → (number : ℕ) → Place → (left : List SchemeEquation) → Type 0
IsStuckChoice th scope subject n place left =
    (choice : ChoiceOf subject) × IsChoiceFor th scope subject n place choice × IsOutside th.sig (names_of subject choice) (system_of subject choice) left

-- one choice stands before another
pub record StandsBefore (th : Theory) (scope : Names) (subject : SubjectForm) (one other : ℕ × Place) : Type 0 where
  pub reaches : ℕ → ℕ → Bool
  pub tests : TestsReach th.sig reaches
  pub earlier : List (ChoiceOf subject)
  pub choice : ChoiceOf subject
  pub later : List (ChoiceOf subject)
  pub all : choices_of reaches th scope subject ≡ earlier ++ (choice ∷ later)
  pub is_other : named_as subject choice ≡ other
  pub is_earlier : AnyByRecursion (λ c. named_as subject c ≡ one) earlier

-- no choice stands twice
abbrev pub AreDifferentChoices : List (ℕ × Place) → Type 0
AreDifferentChoices [] = Unit {0}
AreDifferentChoices (c ∷ cs) = AllByRecursion (λ other. c ≡ other → ⊥) cs × AreDifferentChoices cs

-- each possible choice is named
abbrev pub IsCovered : Theory → Names → SubjectForm → (named : List (ℕ × Place)) → Type 0
IsCovered th scope subject named =
    (n : ℕ) (place : Place) (choice : ChoiceOf subject) → IsChoiceFor th scope subject n place choice → IsPossibleChoice th.sig subject choice →
    AnyByRecursion (λ c. c ≡ (n, place)) named
