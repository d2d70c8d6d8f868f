-- What right steps keep.
use Rattle.std.specs.Prelude.{◌≡◌, ℕ, List, [], Option, Some, slice_get, MatchOption}
use Rattle.std.specs.List.{AllByRecursion, AllZip}
use Rattle.scheme_terms.specs.Forms.{Names, Instance}
use Rattle.scheme_terms.specs.Instance.{FitsScope}
use Rattle.scheme_terms.specs.declared.scheme.Root.TheVariants.{Closed}
use Rattle.rule_schemes.specs.Rules.{JudgmentScheme, Rule, Theory, IsInstance, IsJudgmentScheme, judgment_instance, rule_names}
use Rattle.rule_schemes.specs.Derivation.{Derivation, judgment, node, Derives}
use Rattle.proof_trees.specs.RuleStep.{IsRuleInstance}
use Rattle.rule_schemes.specs.Statement.{Theorem}
use Rattle.core_proofs.specs.Step.{Step}
use Rattle.core_proofs.specs.Proof.{IsStepForm, HasGoal, Standing, within, Leads}
use Rattle.proof_trees.specs.Value.{subtrees}
use Rattle.core_proofs.specs.Value.{Makes}

-- Without contexts, the instance of a right step by a rule is a derivation of the form's instance, over derivations of the instances of the
-- cited forms.
abbrev pub RuleStepDerives : Type 0
RuleStepDerives =
    (th : Theory) (scope : Names) (inst : Instance) (r : ℕ) (rule : Rule) (form : JudgmentScheme) (cited : List JudgmentScheme) (ds : List Derivation) →
    scope.root ≡ Closed → scope.knowns ≡ [] → FitsScope th.sig scope inst →
    slice_get th.rules r ≡ Some rule → rule.conclusion.context.root ≡ Closed → AllByRecursion (λ p. p.context.root ≡ Closed) rule.premises →
    IsJudgmentScheme th (rule_names rule) rule.conclusion → AllByRecursion (IsJudgmentScheme th (rule_names rule)) rule.premises →
    IsStepForm th scope form → IsRuleInstance th scope form cited rule →
    AllZip (λ j d. Derives th d × IsInstance inst j (judgment d)) cited ds →
    Derives th (node r (judgment_instance inst form) (subtrees ds)) × IsInstance inst form (judgment_instance inst form)

-- no rule of the theory speaks of a context, and its forms are over its names
abbrev pub SpeaksOfNoContext : Theory → Type 0
SpeaksOfNoContext th =
    AllByRecursion (λ rule. (rule.conclusion.context.root ≡ Closed) × AllByRecursion (λ p. p.context.root ≡ Closed) rule.premises
    × IsJudgmentScheme th (rule_names rule) rule.conclusion × AllByRecursion (IsJudgmentScheme th (rule_names rule)) rule.premises) th.rules

-- derivations of the instances of forms, one for each
abbrev pub AreDerived : Theory → Instance → List JudgmentScheme → List Derivation → Type 0
AreDerived th inst = AllZip (λ j d. Derives th d × IsInstance inst j (judgment d))

-- the derivation of the last step, where there is one, is that of an instance of the last step's form
abbrev pub LastIsDerived : Theory → Instance → (last : Option JudgmentScheme) → Option Derivation → Type 0
LastIsDerived th inst last made = MatchOption made (Unit {0}) (λ d. MatchOption last ⊥ (λ form. Derives th d × IsInstance inst form (judgment d)))

-- a derivation of an instance of a form that has the goal
pub record DerivesGoal (th : Theory) (st : Theorem) (scope : Names) (inst : Instance) (made : Derivation) : Type 0 where
  pub form : JudgmentScheme
  pub goal : HasGoal th st scope form
  pub derives : Derives th made
  pub is_instance : IsInstance inst form (judgment made)

-- Without contexts, what right steps make of derivations derives the goal.
abbrev pub MakesDerives : Type 0
MakesDerives =
    (th : Theory) (statements : List Theorem) (k : ℕ) (st : Theorem) (scope : Names) (inst : Instance) (scoped : List JudgmentScheme)
    (last : Option JudgmentScheme) (ds : List Derivation) (last_made : Option Derivation) (steps : List Step) (to : Standing) (made : Derivation) →
    SpeaksOfNoContext th → slice_get statements k ≡ Some st → scope.root ≡ Closed → scope.knowns ≡ [] → FitsScope th.sig scope inst →
    LastIsDerived th inst last last_made → AreDerived th inst scoped ds →
    Leads th statements (within k scope scoped last) steps to → Makes th inst ds last_made steps made → DerivesGoal th st scope inst made

-- Right steps lead to one standing only.
abbrev pub LeadsToOne : Type 0
LeadsToOne =
    (th : Theory) (statements : List Theorem) (steps : List Step) (at to other : Standing) →
    Leads th statements at steps to → Leads th statements at steps other → to ≡ other
