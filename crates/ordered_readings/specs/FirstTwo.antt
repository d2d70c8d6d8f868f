-- The first two things that have a property, each with its place in an order, or fewer where there are fewer. Held against
-- docs/notation.md on the reading order.
use Rattle.std.specs.Prelude.{◌≡◌, ◌≢◌, ◌⊎◌, List, [], ◌∷◌, ◌++◌, map}

-- one of those that are listed
abbrev pub IsOneOf : {E : Type 0} → E → List E → Type 0
IsOneOf e [] = ⊥
IsOneOf e (d ∷ ds) = (e ≡ d) ⊎ IsOneOf e ds

-- with the one after the other
abbrev pub pairs : {D E F : Type 0} → (D → E → F) → List D → List E → List F
pairs f [] es = []
pairs f (d ∷ ds) es = map (f d) es ++ pairs f ds es

-- at this place or before it
abbrev pub IsBy : {K : Type 0} → (K → K → Type 0) → K → K → Type 0
IsBy Before k l = Before k l ⊎ (k ≡ l)

module _ {K A : Type 0} (Before : K → K → Type 0) where
  -- none, one, or two different ones, the first before the second
  abbrev pub AreInOrder : List (K × A) → Type 0
  AreInOrder [] = Unit {0}
  AreInOrder (d ∷ []) = Unit {0}
  AreInOrder (d ∷ (e ∷ [])) = Before d.0 e.0 × (d.1 ≢ e.1)
  AreInOrder _ = ⊥

  -- the same thing is listed at this place or before it
  abbrev pub IsListed : List (K × A) → K → A → Type 0
  IsListed xs l y = (k : K) × IsOneOf (k, y) xs × IsBy Before k l

  -- two different things are listed before this place
  abbrev pub ComesAfterTwo : List (K × A) → K → Type 0
  ComesAfterTwo xs l = (d : K × A) × (e : K × A) × IsOneOf d xs × IsOneOf e xs × (d.1 ≢ e.1) × Before d.0 l × Before e.0 l

  -- what is listed has the property and is in order, and all else that has it is listed before, or comes after two
  pub record AreFirst (P : K → A → Type 0) (xs : List (K × A)) : Type 0 where
    pub have : (k : K) (a : A) → IsOneOf (k, a) xs → P k a
    pub in_order : AreInOrder xs
    pub all : (k : K) (a : A) → P k a → IsListed xs k a ⊎ ComesAfterTwo xs k

  -- of any two, one is before the other, or they are the same
  abbrev pub AreComparable : List (K × A) → Type 0
  AreComparable xs = (d e : K × A) → IsOneOf d xs → IsOneOf e xs → Before d.0 e.0 ⊎ ((d ≡ e) ⊎ Before e.0 d.0)

  -- the first two of those that are listed
  abbrev pub AreFirstOf : List (K × A) → List (K × A) → Type 0
  AreFirstOf xs = AreFirst (λ k a. IsOneOf (k, a) xs)
