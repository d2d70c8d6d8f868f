-- What stands behind the word `syntax`. To be held against the rows 'syntax' and 'category' in 'Outline' of docs/notation.md.
use Rattle.std.specs.Prelude.{◌≢◌, ℕ, List, [], ◌∷◌}
use Rattle.sy_base.specs.Tokens.{PlainToken}
use Rattle.outline_reader.specs.Plain.{PlainPortion, syntax_word, category, HasPortions}

-- a category comes first, and its name stands on another line than the word
abbrev pub BeginsWithCategory : PlainToken → List PlainPortion → Type 0
BeginsWithCategory word (category name mark productions ∷ rest) = word.line ≢ name.line
BeginsWithCategory word _ = ⊥

-- behind each word `syntax` comes a category, on another line
abbrev pub CategoriesFollow : List PlainPortion → Type 0
CategoriesFollow [] = Unit {0}
CategoriesFollow (syntax_word word ∷ rest) = BeginsWithCategory word rest × CategoriesFollow rest
CategoriesFollow (_ ∷ rest) = CategoriesFollow rest

-- each syntax part of a source has a category
abbrev pub SyntaxHasCategories : Type 0
SyntaxHasCategories = (source : List ℕ) (portions : List PlainPortion) → HasPortions source portions → CategoriesFollow portions
