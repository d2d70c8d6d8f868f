-- A scheme beside a part of another, and which locals stand at the same places. To be held against docs/notation.md, 'Order'.
use Rattle.std.specs.Prelude.{◌≡◌, ◌↔◌, ◌<◌, ◌≤◌, ◌+◌, ◌⊎◌, ℕ}
use Rattle.scheme_terms.specs.SchemeTree.{SchemeTree, meta, known, local, con, Values, no_values, value, Parts, no_parts, part}
use Rattle.induction_order.specs.Order.{IsRenaming, renamed}

-- the scheme is the part, with the variables that are bound around it renamed
abbrev pub IsRenamed : (binders : ℕ) (arg inner : SchemeTree) → Type 0
IsRenamed d arg s = (to : ℕ → ℕ) × IsRenaming d to s × (arg ≡ renamed d to s)

-- the scheme is a renamed part of the other, which itself stands under so many binders
abbrev mutual
  pub HasRenamed : (binders : ℕ) (arg whole : SchemeTree) → Type 0
  HasRenamed d arg (meta m vs) = ⊥
  HasRenamed d arg (known k) = ⊥
  HasRenamed d arg (local i) = ⊥
  HasRenamed d arg (con p xs) = HasRenamedAmong d arg xs

  pub HasRenamedAmong : (binders : ℕ) (arg : SchemeTree) → Parts → Type 0
  HasRenamedAmong d arg no_parts = ⊥
  HasRenamedAmong d arg (part n t xs) = (IsRenamed (d + n) arg t ⊎ HasRenamed (d + n) arg t) ⊎ HasRenamedAmong d arg xs

-- the same in a part, with how many variables it binds
abbrev pub HasRenamedIn : (binders : ℕ) (arg : SchemeTree) → (x : ℕ × SchemeTree) → Type 0
HasRenamedIn d arg x = IsRenamed (d + x.0) arg x.1 ⊎ HasRenamed (d + x.0) arg x.1

-- Two locals at the same place of the scheme and of the part, where so many binders stand around the part and so many more inside it: bound
-- inside both, free of both, or one that is bound around the part and one that stands for it.
abbrev pub IsPairOfLocals : (ℕ → ℕ → Type 0) → (outer inner : ℕ) → (a i : ℕ) → Type 0
IsPairOfLocals P d b a i =
    ((i < b) × (a ≡ i)) ⊎ (((b + d ≤ i) × (a + d ≡ i)) ⊎
    ((x : ℕ) × (y : ℕ) × (y < d) × (a ≡ x + b) × (i ≡ y + b) × P x y))

-- the scheme is the part but for the variables that are bound around it, and what stands for one of them has the relation to it
abbrev mutual
  pub IsLike : (ℕ → ℕ → Type 0) → (outer inner : ℕ) → (arg s : SchemeTree) → Type 0
  IsLike P d b (meta m vs) (meta n ws) = (m ≡ n) × AreLike P d b vs ws
  IsLike P d b (known k) (known l) = k ≡ l
  IsLike P d b (local a) (local i) = IsPairOfLocals P d b a i
  IsLike P d b (con p xs) (con q ys) = (p ≡ q) × PartsLike P d b xs ys
  IsLike P d b _ _ = ⊥

  pub AreLike : (ℕ → ℕ → Type 0) → (outer inner : ℕ) → Values → Values → Type 0
  AreLike P d b no_values no_values = Unit {0}
  AreLike P d b (value s vs) (value t ws) = IsLike P d b s t × AreLike P d b vs ws
  AreLike P d b _ _ = ⊥

  pub PartsLike : (ℕ → ℕ → Type 0) → (outer inner : ℕ) → Parts → Parts → Type 0
  PartsLike P d b no_parts no_parts = Unit {0}
  PartsLike P d b (part m s xs) (part n t ys) = ((m ≡ n) × IsLike P d (b + n) s t) × PartsLike P d b xs ys
  PartsLike P d b _ _ = ⊥

-- the same of a part of each, with how many variables it binds
abbrev pub IsPartLike : (ℕ → ℕ → Type 0) → (outer inner : ℕ) → (x y : ℕ × SchemeTree) → Type 0
IsPartLike P d b x y = (x.0 ≡ y.0) × IsLike P d (b + y.0) x.1 y.1

-- the one pair of locals has the same first as the other exactly where it has the same second
abbrev pub Agrees : (x y u v : ℕ) → Type 0
Agrees x y u v = (x ≡ u) ↔ (y ≡ v)

-- each pair of locals of the scheme and the part agrees with this one
abbrev pub IsConsistent : (outer : ℕ) (arg s : SchemeTree) → (x y : ℕ) → Type 0
IsConsistent d arg s x y = IsLike (Agrees x y) d 0 arg s
