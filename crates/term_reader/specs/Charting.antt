-- How a chart is made: what is known while its boxes are filled, those of the ranges that end sooner first, and of these the shorter
-- ones first. Held against nothing outside.
use Rattle.std.specs.Prelude.{◌≡◌, ◌<◌, ◌≤◌, ◌⊎◌, ◌+◌, ◌∷◌, ◌++◌, [], ℕ, List, length, drop, map, Some, slice_get, slice_range}
use Rattle.binding_terms.specs.Signature.{Signature, Fits}
use Rattle.binding_terms.specs.declared.grammar.CatId.{CatId}
use Rattle.binding_terms.specs.declared.grammar.Item.{Item}
use Rattle.binding_terms.specs.declared.grammar.Prod.{Prod}
use Rattle.binding_terms.specs.declared.text.Text.{Text}
use Rattle.scheme_terms.specs.SchemeTree.{SchemeTree, Values, Parts}
use Rattle.scheme_terms.specs.declared.scheme.MetaDecl.{MetaDecl}
use Rattle.rule_schemes.specs.Reading.{Token, Variable, word, punctuation, ReadsTerm, ReadsBrackets, ReadsItems}
use Rattle.term_reader.specs.Chart.{MayBeVariable, AreAllowed, MayNot, IsClosed}
use Rattle.term_reader.specs.View.{token}
use Rattle.term_reader.specs.declared.chart.Boxes.{Boxes}
use Rattle.term_reader.specs.declared.chart.Form.{Form}

-- what a chart is made for: the tokens, and the names that may stand in them
pub record Charted : Type 0 where
  pub sig : Signature
  pub metas : List MetaDecl
  pub base : List (Text × CatId)
  pub tokens : List Token

abbrev pub charted : Form → Charted
charted f = record { sig = f.sig.now; metas = f.metas.now; base = f.words.now; tokens = map token f.tokens.now }

-- the range cannot read as a term of the category
abbrev pub CannotRead : Charted → (cat from to : ℕ) → Type 0
CannotRead f c from to = MayNot f.sig f.metas f.base f.tokens c from to

-- it cannot do so in parentheses
abbrev pub CannotGroup : Charted → (cat from to : ℕ) → Type 0
CannotGroup f c from to = (vars : List Variable) (inner : List Token) (s : SchemeTree) → AreAllowed f.sig f.base vars
    → slice_range f.tokens from to ≡ punctuation 40 ∷ (inner ++ punctuation 41 ∷ []) → ReadsTerm f.sig f.metas vars c inner s → ⊥

-- nor as a metavariable with its brackets
abbrev pub CannotName : Charted → (cat from to : ℕ) → Type 0
CannotName f c from to = (vars : List Variable) (m : ℕ) (decl : MetaDecl) (rest : List Token) (vs : Values)
    → slice_range f.tokens from to ≡ word decl.name ∷ rest → slice_get f.metas m ≡ Some decl → decl.cat.0 ≡ c
    → ReadsBrackets f.sig f.metas vars (map (λ p. p.0) decl.params) rest vs → ⊥

-- nor as a variable
abbrev pub CannotVary : Charted → (cat from to : ℕ) → Type 0
CannotVary f c from to = (w : List ℕ) → slice_range f.tokens from to ≡ word w ∷ [] → MayBeVariable f.sig f.base c w → ⊥

-- it cannot read without a production
pub record CannotStand (f : Charted) (cat from to : ℕ) : Type 0 where
  pub no_group : CannotGroup f cat from to
  pub no_name : CannotName f cat from to
  pub no_variable : CannotVary f cat from to

-- the items cannot take the range
abbrev pub CannotTake : Charted → List Item → (from to : ℕ) → Type 0
CannotTake f items from to = (vars own : List Variable) (words : List (List ℕ)) (xs : Parts) → AreAllowed f.sig f.base vars
    → AreAllowed f.sig f.base own → ReadsItems f.sig f.metas vars own words items (slice_range f.tokens from to) xs → ⊥

-- the items of that production from one on cannot take the range
abbrev pub CannotGoOn : Charted → (prod item from to : ℕ) → Type 0
CannotGoOn f p k from to = (prod : Prod) → slice_get f.sig.prods p ≡ Some prod → k < length prod.items → CannotTake f (drop k prod.items) from to

-- no production of the category can take the range
abbrev pub CannotProduce : Charted → (cat from to : ℕ) → Type 0
CannotProduce f c from to = (p : ℕ) (prod : Prod) → slice_get f.sig.prods p ≡ Some prod → prod.cat.0 ≡ c → CannotTake f prod.items from to

-- the boxes tell the truth of all ranges that end before one place, or that end there and begin at another or later
abbrev pub IsKnown : Charted → Boxes → (from to : ℕ) → Type 0
IsKnown f boxes from to = (c a b : ℕ) → a < b → (b < to) ⊎ ((b ≡ to) × (from ≤ a)) → IsClosed boxes c a b → CannotRead f c a b

-- the boxes of the items, but for the first ones of all, tell the truth of the ranges that end at one place and begin at another or later
abbrev pub AreTailsKnown : Charted → Boxes → (from to : ℕ) → Type 0
AreTailsKnown f tails from to = (p k a : ℕ) → 0 < k → from ≤ a → a < to → IsClosed tails p k a → CannotGoOn f p k a to

-- all that a range's own boxes rest on
pub record IsReady (f : Charted) (terms tails : Boxes) (from to : ℕ) : Type 0 where
  pub fits : Fits f.sig
  pub known : IsKnown f terms (from + 1) to
  pub tails_known : AreTailsKnown f tails (from + 1) to
