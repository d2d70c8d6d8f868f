-- The first form without a context that may not stand under a root, as it is told of rules and of statements. To be held against 'Rules
-- and statements' of docs/notation.md.
use Rattle.std.specs.Prelude.{◌≡◌, ℕ, List, ◌∷◌, ◌++◌, Some, slice_get}
use Rattle.std.specs.List.{AllByRecursion}
use Rattle.scheme_terms.specs.declared.scheme.Root.{Root}
use Rattle.rule_schemes.specs.Rules.{JudgmentScheme, Theory, MayStand}
use Rattle.rule_schemes.specs.declared.rule.Judgment.{Judgment}

-- a form may stand under the root, by the rule on judgments without a context
abbrev pub IsPlaced : Theory → Root → JudgmentScheme → Type 0
IsPlaced th root j = MayStand th root j.context.root j.judgment

-- the first of the forms that may not stand under the root is of the judgment with this name
pub record IsFirstMisplaced (th : Theory) (root : Root) (forms : List JudgmentScheme) (name : List ℕ) : Type 0 where
  pub front : List JudgmentScheme
  pub form : JudgmentScheme
  pub rest : List JudgmentScheme
  pub judgment : Judgment
  pub split : forms ≡ front ++ form ∷ rest
  pub placed_before : AllByRecursion (IsPlaced th root) front
  pub misplaced : IsPlaced th root form → ⊥
  pub declared : slice_get th.judgments form.judgment ≡ Some judgment
  pub same : name ≡ judgment.name
