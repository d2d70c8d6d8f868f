-- Which metavariables stand in what was read over them.
use Rattle.std.specs.Prelude.{◌≡◌, ◌⊎◌, ℕ, suc, List, [], ◌∷◌}
use Rattle.binding_terms.specs.Numbered.{AnyByRecursion}
use Rattle.scheme_terms.specs.declared.scheme.MetaDecl.{MetaDecl}
use Rattle.rule_schemes.specs.Rules.{JudgmentScheme}
use Rattle.rule_schemes.specs.Statement.{OccursInJudgment}

-- one of the metavariables, numbered from n on, has this name and stands in the judgment
abbrev pub IsReadFrom : (n : ℕ) → List MetaDecl → List ℕ → JudgmentScheme → Type 0
IsReadFrom n [] w j = ⊥
IsReadFrom n (d ∷ metas) w j = ((d.name ≡ w) × OccursInJudgment n j) ⊎ IsReadFrom (suc n) metas w j

-- the metavariable with this name stands in one of the judgments
abbrev pub IsRead : List MetaDecl → List JudgmentScheme → List ℕ → Type 0
IsRead metas js w = AnyByRecursion (IsReadFrom 0 metas w) js

-- The metavariables with a name of which the first is so, in the same order, where of each other name the second is so.
abbrev pub AreKept : (Kept Other : List ℕ → Type 0) → (metas those : List MetaDecl) → Type 0
AreKept Kept Other [] those = those ≡ []
AreKept Kept Other (d ∷ metas) those =
    (Kept d.name × ((rest : List MetaDecl) × (those ≡ d ∷ rest) × AreKept Kept Other metas rest))
    ⊎ (Other d.name × AreKept Kept Other metas those)

-- those that stand in one of the judgments, and those that stand in none
abbrev pub AreReadOf : List MetaDecl → List JudgmentScheme → (metas those : List MetaDecl) → Type 0
AreReadOf over js = AreKept (IsRead over js) (λ w. IsRead over js w → ⊥)

abbrev pub AreUnreadOf : List MetaDecl → List JudgmentScheme → (metas those : List MetaDecl) → Type 0
AreUnreadOf over js = AreKept (λ w. IsRead over js w → ⊥) (IsRead over js)
