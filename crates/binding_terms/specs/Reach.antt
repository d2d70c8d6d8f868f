-- What the columns of the reach table say: one for each category, with a mark for each category that reaches it.
use Rattle.std.specs.Prelude.{◌≡◌, ◌↔◌, ℕ, Bool, true, List, Some, slice_get, MatchOption}
use Rattle.std.specs.List.{AllByRecursion}
use Rattle.binding_terms.specs.Numbered.{AnyByRecursion}
use Rattle.binding_terms.specs.Signature.{Signature, Reaches, slots}
use Rattle.binding_terms.specs.declared.grammar.Prod.{Prod}
use Rattle.binding_terms.specs.declared.grammar.Item.{Item}

-- the category with this number is marked
abbrev pub IsMarked : List Bool → ℕ → Type 0
IsMarked marks cat = slice_get marks cat ≡ Some true

-- one of the slots is of a marked category
abbrev pub HasMarkedSlot : List Bool → List Item → Type 0
HasMarkedSlot marks items = AnyByRecursion (λ s. IsMarked marks s.cat) (slots items)

-- each production with a marked slot is of a marked category
abbrev pub IsClosed : List Bool → List Prod → Type 0
IsClosed marks prods = AllByRecursion (λ p. HasMarkedSlot marks p.items → IsMarked marks p.cat.0) prods

-- some production of the category has a marked slot
abbrev pub Follows : List Bool → List Prod → ℕ → Type 0
Follows marks prods cat = AnyByRecursion (λ p. (p.cat.0 ≡ cat) × HasMarkedSlot marks p.items) prods

-- the marked categories are those that reach the one
abbrev pub IsColumn : Signature → (to : ℕ) → List Bool → Type 0
IsColumn sig to marks = (from : ℕ) → IsMarked marks from ↔ Reaches sig from to

-- the columns tell which categories reach which
abbrev pub IsReachTable : Signature → List (List Bool) → Type 0
IsReachTable sig columns = (from to : ℕ) → MatchOption (slice_get columns to) ⊥ (λ marks. IsMarked marks from) ↔ Reaches sig from to
