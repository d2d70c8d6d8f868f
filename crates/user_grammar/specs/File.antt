-- What the portions of a file say of its grammar: the listed terminals, the written categories, and the names behind `assumes`.
-- To be held against 'Outline' and 'Grammar' of docs/notation.md.
use Rattle.std.specs.Prelude.{List, [], ◌∷◌, ℕ, Option, None, Some, map, flat_map}
use Rattle.sy_base.specs.Tokens.{PlainToken}
use Rattle.outline_reader.specs.Plain.{PlainPortion, terminals, category, judgment_of, theorem_of}

-- a category as it is written: its name, its `::=`, and the form of each production
pub record WrittenCategory : Type 0 where
  pub name : PlainToken
  pub mark : PlainToken
  pub forms : List (List PlainToken)

abbrev pub texts_if : Option PlainToken → List (List ℕ)
texts_if None = []
texts_if (Some token) = token.text ∷ []

-- the terminals that a portion lists
abbrev pub listed_in : PlainPortion → List (List ℕ)
listed_in (terminals first tokens) = map (λ token. token.text) tokens
listed_in _ = []

-- the category that a portion is
abbrev pub category_in : PlainPortion → List WrittenCategory
category_in (category name mark forms) = record { name = name; mark = mark; forms = forms } ∷ []
category_in _ = []

-- the name that a portion has behind `assumes`
abbrev pub assumed_in : PlainPortion → List (List ℕ)
assumed_in (judgment_of first name form assumes) = texts_if assumes
assumed_in (theorem_of first joined kind name assumes inputs outputs targets) = texts_if assumes
assumed_in _ = []

-- the listed terminals of a file, in text order
abbrev pub listed : List PlainPortion → List (List ℕ)
listed portions = flat_map listed_in portions

-- its categories, in text order
abbrev pub categories : List PlainPortion → List WrittenCategory
categories portions = flat_map category_in portions

-- the names behind `assumes`, of judgments and of theorems
abbrev pub assumed : List PlainPortion → List (List ℕ)
assumed portions = flat_map assumed_in portions
