-- The first two of what is read in several ways, each with its front: the places that count before all others in the reading order.
-- Held against `IsBefore` of rule_schemes/specs/Said.antt.
use Rattle.std.specs.Prelude.{◌≡◌, ◌≢◌, ◌⊎◌, List, [], ◌∷◌, Option, Some, None}
use Rattle.rule_schemes.specs.Said.{Ways}
use Rattle.term_reader.specs.PlaceView.{places}
use Rattle.notation_parser.specs.Ordered.{WrittenForm}
use Rattle.notation_parser.specs.View.{outcome}
use Rattle.notation_parser.specs.declared.merging.Placed.{Placed}

-- it has the property at a place behind its front, and all else has it at later places
abbrev pub IsLeastAt : {F K A : Type 0} → (K → K → Type 0) → (F → K → A → Type 0) → A × F → Type 0
IsLeastAt {F} {K} {A} Before P a =
    (k : K) × P a.1 k a.0 × ((g : F) (l : K) (x : A) → P g l x → Before k l ⊎ ((k ≡ l) × (x ≡ a.0)))

-- the first one that is not this, or none where all are this
abbrev pub IsNext : {F K A : Type 0} → (K → K → Type 0) → (F → K → A → Type 0) → A → Option (A × F) → Type 0
IsNext {F} {K} {A} Before P a None = (g : F) (l : K) (x : A) → P g l x → x ≡ a
IsNext Before P a (Some b) = IsLeastAt Before (λ g l x. P g l x × (x ≢ a)) b

-- in the order of the places where they have a property, with their fronts: none, the only one, or the first and the first that is another
abbrev pub AreFirstAt : {F K A : Type 0} → (K → K → Type 0) → (F → K → A → Type 0) → List (A × F) → Type 0
AreFirstAt {F} {K} {A} Before P [] = (f : F) (k : K) (x : A) → P f k x → ⊥
AreFirstAt Before P (a ∷ []) = IsLeastAt Before P a × IsNext Before P a.0 None
AreFirstAt Before P (a ∷ (b ∷ [])) = IsLeastAt Before P a × IsNext Before P a.0 (Some b)
AreFirstAt Before P _ = ⊥

-- the one whose front comes first, and the first of the two where none does
abbrev pub IsEarlier : {F A : Type 0} → (F → F → Type 0) → (first second chosen : Option (A × F)) → Type 0
IsEarlier Before None c z = z ≡ c
IsEarlier Before (Some a) None z = z ≡ Some a
IsEarlier Before (Some a) (Some c) z = (Before c.1 a.1 × (z ≡ Some c)) ⊎ ((Before c.1 a.1 → ⊥) × (z ≡ Some a))

-- the first of these two that is not this
abbrev pub IsOther : {F A : Type 0} → A → (first : A × F) → (second chosen : Option (A × F)) → Type 0
IsOther x a b z = ((a.0 ≡ x) × (z ≡ b)) ⊎ ((a.0 ≢ x) × (z ≡ Some a))

-- one, and the next one where there is one
abbrev pub then_next : {A : Type 0} → A → Option A → List A
then_next a None = a ∷ []
then_next a (Some b) = a ∷ b ∷ []

-- the first of a list
abbrev pub first_of : {A : Type 0} → List A → Option A
first_of [] = None
first_of (a ∷ xs) = Some a

-- the first two of what stands in one list or in another, neither of which is empty
abbrev pub AreTwoMerged : {F A : Type 0} → (F → F → Type 0) → (a : A × F) → (b : Option (A × F)) → (c : A × F) → (d : Option (A × F)) → (merged : List (A × F)) → Type 0
AreTwoMerged {F} {A} Before a b c d zs =
    (Before c.1 a.1 × ((rest : Option (A × F)) × (next : Option (A × F)) × IsOther c.0 a b rest × IsEarlier Before rest d next × (zs ≡ then_next c next)))
    ⊎ ((Before c.1 a.1 → ⊥) × ((rest : Option (A × F)) × (next : Option (A × F)) × IsOther a.0 c d rest × IsEarlier Before b rest next × (zs ≡ then_next a next)))

-- the first two of what stands in the first list or in the second: by their fronts, and where none comes first by the list
abbrev pub AreMerged : {F A : Type 0} → (F → F → Type 0) → (first second merged : List (A × F)) → Type 0
AreMerged Before [] ys zs = zs ≡ ys
AreMerged Before (a ∷ xs) [] zs = zs ≡ a ∷ xs
AreMerged Before (a ∷ xs) (c ∷ ys) zs = AreTwoMerged Before a (first_of xs) c (first_of ys) zs

-- each of the first list tells the one at its place in the second
abbrev pub AreTold : {A B : Type 0} → (A → B → Type 0) → List A → List B → Type 0
AreTold T [] [] = Unit {0}
AreTold T (a ∷ xs) (b ∷ ys) = T a b × AreTold T xs ys
AreTold T _ _ = ⊥

-- what contracts see of a reading with its front
abbrev pub placed : Placed → WrittenForm × Ways
placed p = (outcome p.outcome, places p.front)

abbrev pub next_placed : Option Placed → Option (WrittenForm × Ways)
next_placed None = None
next_placed (Some p) = Some (placed p)
