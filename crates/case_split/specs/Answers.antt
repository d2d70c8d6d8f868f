-- What the answers of `splits` and `term_splits` say. To be held against docs/notation.md, 'Choices'.
use Rattle.std.specs.Prelude.{◌≡◌, ℕ, Bool, Option, List, [], ◌∷◌, ◌++◌, map, option_map}
use Rattle.std.specs.List.{AllZip}
use Rattle.binding_terms.specs.Signature.{Signature}
use Rattle.scheme_terms.specs.SchemeTree.{SchemeTree}
use Rattle.scheme_terms.specs.Forms.{Names, Substitution, SchemeContext}
use Rattle.scheme_terms.specs.SchemeScope.{IsScheme, IsSchemeContext, KnownsFit, StandsWith}
use Rattle.scheme_terms.specs.View.{substitution}
use Rattle.rule_schemes.specs.Rules.{JudgmentScheme, Theory, IsSystem, IsJudgmentScheme}
use Rattle.rule_schemes.specs.Raising.{TestsReach}
use Rattle.rule_schemes.specs.Placed.{applied_judgment, locals_of}
use Rattle.rule_schemes.specs.View.{judgment_scheme}
use Rattle.pattern_unify.specs.Equations.{SchemeEquation}
use Rattle.pattern_unify.specs.Answers.{IsOutside}
use Rattle.pattern_unify.specs.CommonInstance.{HaveCommonInstance}
use Rattle.pattern_unify.specs.MostGeneral.{IsMostGeneral}
use Rattle.pattern_unify.specs.Run.{IsWithinFragment}
use Rattle.case_split.specs.declared.choice.Place.{Place}
use Rattle.case_split.specs.declared.choice.Outcome.{Outcome}
use Rattle.case_split.specs.declared.choice.Outcome.TheVariants.{Impossible, Possible}
use Rattle.case_split.specs.declared.choice.Choice.{Choice}
use Rattle.case_split.specs.declared.choice.TermChoice.{TermChoice}
use Rattle.case_split.specs.Choice.{JudgmentChoice, SyntaxChoice}
use Rattle.case_split.specs.Choices.{choices}
use Rattle.case_split.specs.SyntaxChoices.{syntax_choices}

-- what the caller of `splits` owes
pub record IsSubject (th : Theory) (scope : Names) (subject : JudgmentScheme) : Type 0 where
  pub system : IsSystem th
  pub knowns : KnownsFit th.sig scope
  pub form : IsJudgmentScheme th scope subject
  pub root : StandsWith scope.root subject.context.root

-- What the caller of `term_splits` owes. Of the context the choices read the productions of its entries alone, so it may be over other metavariables, as those
-- of a goal.
pub record IsSyntaxSubject (th : Theory) (scope : Names) (ctx : SchemeContext) (subject : SchemeTree) (cat : ℕ) : Type 0 where
  pub system : IsSystem th
  pub knowns : KnownsFit th.sig scope
  pub over : Names
  pub over_root : over.root ≡ scope.root
  pub over_knowns : over.knowns ≡ scope.knowns
  pub context : IsSchemeContext th.sig over ctx
  pub root : StandsWith scope.root ctx.root
  pub term : IsScheme th.sig scope (locals_of th.sig ctx.entries) cat subject

-- A refinement: a most general common instance of the system over the same root, and the premises under it.
pub record IsRefinement (sig : Signature) (names : Names) (eqs : List SchemeEquation) (premises : List JudgmentScheme)
    (refine : Substitution) (refined : List JudgmentScheme) : Type 0 where
  pub root : refine.into.root ≡ names.root
  pub most_general : IsMostGeneral sig names eqs refine
  pub premises_are : map (applied_judgment refine) premises ≡ refined

-- impossible stands exactly where there is no common instance; where there is one, the refinement is most general
abbrev pub IsOutcome : Signature → Names → List SchemeEquation → (premises : List JudgmentScheme) → Outcome → Type 0
IsOutcome sig names eqs premises Impossible = HaveCommonInstance sig names eqs → ⊥
IsOutcome sig names eqs premises (Possible refine refined) =
    IsRefinement sig names eqs premises (substitution refine) (map judgment_scheme refined)

-- the answer for a choice of a judgment, whose run does not end stuck
pub record IsJudged (sig : Signature) (choice : JudgmentChoice) (answer : Choice) : Type 0 where
  pub rule : answer.rule.0 ≡ choice.rule
  pub place : answer.place ≡ choice.place
  pub outcome : IsOutcome sig choice.names choice.equations choice.premises answer.outcome
  pub within : IsWithinFragment sig choice.names choice.equations

-- the answer for a choice of a term, whose run does not end stuck
pub record IsTermJudged (sig : Signature) (choice : SyntaxChoice) (answer : TermChoice) : Type 0 where
  pub prod : option_map (λ p. p.0) answer.prod ≡ choice.prod
  pub place : answer.place ≡ choice.place
  pub outcome : IsOutcome sig choice.names choice.equations [] answer.outcome
  pub within : IsWithinFragment sig choice.names choice.equations

-- The answer of `splits`: all choices in order, each judged.
pub record AreSplits (th : Theory) (scope : Names) (subject : JudgmentScheme) (answers : List Choice) : Type 0 where
  pub reaches : ℕ → ℕ → Bool
  pub tests : TestsReach th.sig reaches
  pub judged : AllZip (IsJudged th.sig) (choices reaches th scope subject) answers

pub record AreTermSplits (th : Theory) (scope : Names) (ctx : SchemeContext) (subject : SchemeTree) (cat : ℕ) (answers : List TermChoice) : Type 0 where
  pub reaches : ℕ → ℕ → Bool
  pub tests : TestsReach th.sig reaches
  pub judged : AllZip (IsTermJudged th.sig) (syntax_choices reaches th.sig scope ctx subject cat) answers

-- The first stuck choice: those before it are judged, and its own run ends stuck with this system.
pub record IsStuckSplit (th : Theory) (scope : Names) (subject : JudgmentScheme) (before : List Choice) (rule : ℕ) (place : Place)
    (system : List SchemeEquation) : Type 0 where
  pub reaches : ℕ → ℕ → Bool
  pub tests : TestsReach th.sig reaches
  pub earlier : List JudgmentChoice
  pub choice : JudgmentChoice
  pub later : List JudgmentChoice
  pub all : choices reaches th scope subject ≡ earlier ++ choice ∷ later
  pub judged : AllZip (IsJudged th.sig) earlier before
  pub rule_is : choice.rule ≡ rule
  pub place_is : choice.place ≡ place
  pub stuck : IsOutside th.sig choice.names choice.equations system

pub record IsStuckTermSplit (th : Theory) (scope : Names) (ctx : SchemeContext) (subject : SchemeTree) (cat : ℕ) (before : List TermChoice)
    (prod : Option ℕ) (place : Place) (system : List SchemeEquation) : Type 0 where
  pub reaches : ℕ → ℕ → Bool
  pub tests : TestsReach th.sig reaches
  pub earlier : List SyntaxChoice
  pub choice : SyntaxChoice
  pub later : List SyntaxChoice
  pub all : syntax_choices reaches th.sig scope ctx subject cat ≡ earlier ++ choice ∷ later
  pub judged : AllZip (IsTermJudged th.sig) earlier before
  pub prod_is : choice.prod ≡ prod
  pub place_is : choice.place ≡ place
  pub stuck : IsOutside th.sig choice.names choice.equations system
