-- What holds of choices: each derivation of an instance of the subject is an instance of one of them. To be held against docs/notation.md, 'Choices'.
use Rattle.std.specs.Prelude.{◌≡◌, ◌<◌, ℕ, Bool, length, slice_get}
use Rattle.std.specs.List.{AllByRecursion}
use Rattle.binding_terms.specs.Numbered.{AnyByRecursion}
use Rattle.scheme_terms.specs.Forms.{Names, Instance}
use Rattle.scheme_terms.specs.Instance.{FitsScope}
use Rattle.rule_schemes.specs.Rules.{JudgmentScheme, Theory, IsInstance}
use Rattle.rule_schemes.specs.Derivation.{Derivation, node, leaf, Subtrees, no_more, judgment, Derives, AreInstances}
use Rattle.rule_schemes.specs.Raising.{TestsReach}
use Rattle.pattern_unify.specs.Equations.{AreToUnify}
use Rattle.pattern_unify.specs.CommonInstance.{IsCommonGroundInstance}
use Rattle.case_split.specs.Choice.{JudgmentChoice}
use Rattle.case_split.specs.Choices.{choices}
use Rattle.case_split.specs.Answers.{IsSubject}

-- the second instance gives the names of the scope the values that the first one gives them
pub record Extends (scope : Names) (inst more : Instance) : Type 0 where
  pub root : more.root ≡ inst.root
  pub metas : (m : ℕ) → m < length scope.metas → slice_get more.metas m ≡ slice_get inst.metas m
  pub knowns : (k : ℕ) → k < length scope.knowns → slice_get more.knowns k ≡ slice_get inst.knowns k

-- the rule of the derivation's last step, and its premises
abbrev pub last_rule : Derivation → ℕ
last_rule (node r j ds) = r
last_rule (leaf r j place) = r

abbrev pub last_premises : Derivation → Subtrees
last_premises (node r j ds) = ds
last_premises (leaf r j place) = no_more

-- an instance of the choice's system, over an instance of the outer scope, gives the derivation's last step
pub record IsStepOf (th : Theory) (scope : Names) (inst : Instance) (d : Derivation) (choice : JudgmentChoice) : Type 0 where
  pub rule : choice.rule ≡ last_rule d
  pub more : Instance
  pub extends : Extends scope inst more
  pub common : IsCommonGroundInstance th.sig choice.names choice.equations more
  pub conclusion : IsInstance more choice.conclusion (judgment d)
  pub premises : AreInstances more choice.premises (last_premises d)

-- each derivation of a ground instance of the subject is a step of one of the choices
abbrev pub ChoicesAreComplete : Type 0
ChoicesAreComplete =
    (th : Theory) (scope : Names) (subject : JudgmentScheme) (reaches : ℕ → ℕ → Bool) (inst : Instance) (d : Derivation) →
    IsSubject th scope subject → TestsReach th.sig reaches → FitsScope th.sig scope inst → Derives th d → IsInstance inst subject (judgment d) →
    AnyByRecursion (IsStepOf th scope inst d) (choices reaches th scope subject)

-- the system of each choice is one that can be unified
abbrev pub ChoicesAreToUnify : Type 0
ChoicesAreToUnify =
    (th : Theory) (scope : Names) (subject : JudgmentScheme) (reaches : ℕ → ℕ → Bool) →
    IsSubject th scope subject → TestsReach th.sig reaches →
    AllByRecursion (λ choice. AreToUnify th.sig choice.names choice.equations) (choices reaches th scope subject)
