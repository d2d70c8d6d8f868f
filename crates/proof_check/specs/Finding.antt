-- What an exact answer says, and lists that begin with what was found so far. They speak of no concept of the notation.
use Rattle.std.specs.Prelude.{◌≡◌, List, ◌++◌, Option, Some, None}

-- what is found is the one thing that is so, and nothing is found where there is none
abbrev pub Finds : {A : Type 0} → (A → Type 0) → Option A → Type 0
Finds {A} P None = (a : A) → P a → ⊥
Finds {A} P (Some a) = P a × ((b : A) → P b → b ≡ a)

-- the lists that are so begin with these items, and are so exactly where what follows the items is so in the second sense
pub record Begins {A : Type 0} (P Q : List A → Type 0) (front : List A) : Type 0 where
  pub sound : (rest : List A) → Q rest → P (front ++ rest)
  pub complete : (all : List A) → P all → (rest : List A) × (all ≡ front ++ rest) × Q rest

-- a list grew by the items with which the lists begin
abbrev pub Adds : {A : Type 0} → (old new : List A) → (P Q : List A → Type 0) → Type 0
Adds {A} old new P Q = (front : List A) × (new ≡ old ++ front) × Begins P Q front
