-- The chart of a form: which ranges of its tokens may read as a term of which category. It only tells where none can. Held against
-- `ReadsTerm` of rule_schemes/specs/Reading.antt.
use Rattle.std.specs.Prelude.{◌≡◌, ◌<◌, ◌⊎◌, ◌+◌, ◌*◌, ◌%◌, ◌^◌, ℕ, false, List, Some, slice_get, slice_range}
use Rattle.std.specs.List.{AllByRecursion}
use Rattle.binding_terms.specs.Numbered.{AnyByRecursion}
use Rattle.binding_terms.specs.Signature.{Signature}
use Rattle.binding_terms.specs.declared.grammar.CatId.{CatId}
use Rattle.binding_terms.specs.declared.text.Text.{Text}
use Rattle.scheme_terms.specs.SchemeTree.{SchemeTree}
use Rattle.scheme_terms.specs.declared.scheme.MetaDecl.{MetaDecl}
use Rattle.rule_schemes.specs.Reading.{Token, Variable, IsVariableWord, ReadsTerm}
use Rattle.term_reader.specs.declared.chart.Boxes.{Boxes}
use Rattle.term_reader.specs.declared.chart.Chart.{Chart}

-- the word stands among these with the category
abbrev pub IsAmong : List (Text × CatId) → (cat : ℕ) → (w : List ℕ) → Type 0
IsAmong base c w = AnyByRecursion (λ b. (b.0 ≡ w) × (b.1.0 ≡ c)) base

-- the word is one of these of the category, or a spelling of the category's variable
abbrev pub MayBeVariable : Signature → List (Text × CatId) → (cat : ℕ) → (w : List ℕ) → Type 0
MayBeVariable sig base c w = IsAmong base c w ⊎ IsVariableWord sig c w

-- variables each of which is one of these, or is spelled as a variable of its category
abbrev pub AreAllowed : Signature → List (Text × CatId) → List Variable → Type 0
AreAllowed sig base vars = AllByRecursion (λ v. MayBeVariable sig base v.cat v.word) vars

-- with no such variables in scope the tokens of the range read as a term of the category
abbrev pub MayNot : Signature → List MetaDecl → List (Text × CatId) → List Token → (cat from to : ℕ) → Type 0
MayNot sig metas base ts c from to =
    (vars : List Variable) (s : SchemeTree) → AreAllowed sig base vars → ReadsTerm sig metas vars c (slice_range ts from to) s → ⊥

-- the place of a box in the list of all
abbrev pub place : Boxes → (layer row column : ℕ) → ℕ
place boxes a b c = ((((a * boxes.rows) % (2 ^ 64) + b) % (2 ^ 64) * boxes.columns) % (2 ^ 64) + c) % (2 ^ 64)

-- the box is there, and is closed
abbrev pub IsClosed : Boxes → (layer row column : ℕ) → Type 0
IsClosed boxes a b c =
    (a < boxes.layers) × (b < boxes.rows) × (c < boxes.columns) × (slice_get boxes.marks (place boxes a b c) ≡ Some false)

-- the chart says no for the category and the range
abbrev pub SaysNo : Chart → (cat from to : ℕ) → Type 0
SaysNo chart c from to = (from < to) × IsClosed chart.terms c from to

-- where the chart says no, the tokens of the range cannot read as a term of the category
abbrev pub IsChart : Signature → List MetaDecl → List (Text × CatId) → List Token → Chart → Type 0
IsChart sig metas base ts chart = (c from to : ℕ) → SaysNo chart c from to → MayNot sig metas base ts c from to
