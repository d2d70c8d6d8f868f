-- The names of a grammar and their spellings. To be held against the first point of 'Grammar' of docs/notation.md.
use Rattle.std.specs.Prelude.{◌≡◌, ◌≢◌, ℕ, List, [], ◌∷◌, ◌++◌, map, flat_map, Option, None, Some}
use Rattle.std.specs.List.{AllByRecursion}
use Rattle.binding_terms.specs.Numbered.{AnyByRecursion}
use Rattle.binding_terms.specs.declared.grammar.Cat.{Cat}
use Rattle.rule_schemes.specs.Reading.{IsSpelling}

abbrev pub names_if : Option (List ℕ) → List (List ℕ)
names_if None = []
names_if (Some name) = name ∷ []

-- the names of the categories, and those of the variables
abbrev pub category_names : List Cat → List (List ℕ)
category_names cats = map (λ cat. cat.name) cats

abbrev pub variable_names : List Cat → List (List ℕ)
variable_names cats = flat_map (λ cat. names_if cat.var) cats

abbrev pub names : List Cat → List (List ℕ)
names cats = category_names cats ++ variable_names cats

-- the text is one of these
abbrev pub IsAmong : List (List ℕ) → List ℕ → Type 0
IsAmong texts text = AnyByRecursion (λ one. one ≡ text) texts

-- the word is a spelling of none of the names
abbrev pub IsNoSpelling : List (List ℕ) → List ℕ → Type 0
IsNoSpelling names word = AllByRecursion (λ name. IsSpelling name word → ⊥) names

-- two names have no common spelling
pub record AreApart (one other : List ℕ) : Type 0 where
  pub nothing_common : (word : List ℕ) → IsSpelling one word → IsSpelling other word → ⊥

-- no two of the names have one
abbrev pub AllApart : List (List ℕ) → Type 0
AllApart [] = Unit {0}
AllApart (name ∷ names) = AllByRecursion (AreApart name) names × AllApart names

-- no text stands twice
abbrev pub AllDiffer : List (List ℕ) → Type 0
AllDiffer [] = Unit {0}
AllDiffer (text ∷ texts) = AllByRecursion (λ other. text ≢ other) texts × AllDiffer texts

-- No two categories or variables have a common spelling, no listed terminal is one of their spellings, and none is listed twice.
pub record HaveNoCommonSpelling (names listed : List (List ℕ)) : Type 0 where
  pub apart : AllApart names
  pub no_spellings : AllByRecursion (IsNoSpelling names) listed
  pub different : AllDiffer listed
