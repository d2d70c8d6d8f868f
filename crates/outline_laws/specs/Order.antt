-- In which parts of a file categories and rules stand. To be held against the rows 'syntax' and 'judgment' in 'Outline' of docs/notation.md.
use Rattle.std.specs.Prelude.{◌≡◌, ℕ, List, [], ◌∷◌}
use Rattle.outline_reader.specs.Plain.{PlainPortion, syntax_word, category, judgment_of, rule_of, HasPortions}

-- directly behind the word `syntax` or a category, directly behind a judgment or a rule, or at another place
pub data Place : Type 0 where
  in_syntax : Place
  in_judgment : Place
  elsewhere : Place

-- from this place on, a category comes only in a syntax part, and a rule only in a judgment part
abbrev pub AreOrdered : Place → List PlainPortion → Type 0
AreOrdered place [] = Unit {0}
AreOrdered place (syntax_word first ∷ rest) = AreOrdered in_syntax rest
AreOrdered place (category name mark productions ∷ rest) = (place ≡ in_syntax) × AreOrdered in_syntax rest
AreOrdered place (judgment_of first name form assumes ∷ rest) = AreOrdered in_judgment rest
AreOrdered place (rule_of premises name conclusion ∷ rest) = (place ≡ in_judgment) × AreOrdered in_judgment rest
AreOrdered place (_ ∷ rest) = AreOrdered elsewhere rest

-- the portions of a source are ordered so
abbrev pub PortionsAreOrdered : Type 0
PortionsAreOrdered = (source : List ℕ) (portions : List PlainPortion) → HasPortions source portions → AreOrdered elsewhere portions
