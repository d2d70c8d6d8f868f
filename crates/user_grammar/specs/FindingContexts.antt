-- What is found of context categories.
use Rattle.std.specs.Prelude.{◌≡◌, ◌⊎◌, ◌<◌, ◌++◌, ℕ, List, [], ◌∷◌, length}
use Rattle.std.specs.List.{AllByRecursion}
use Rattle.sy_base.specs.Tokens.{PlainToken}
use Rattle.user_grammar.specs.Production.{IsMark}
use Rattle.outline_reader.specs.Plain.{PlainPortion}
use Rattle.user_grammar.specs.File.{WrittenCategory}
use Rattle.user_grammar.specs.Fault.{Place, outside, behind_slot, before_word, behind_word, IsOutside, IsPlaceBehind, IsWordOf}

-- exactly one is so, by recursion
abbrev pub One : {A : Type 0} → (A → Type 0) → List A → Type 0
One P [] = ⊥
One P (x ∷ xs) = (P x × AllByRecursion (λ y. P y → ⊥) xs) ⊎ ((P x → ⊥) × One P xs)

-- the token opens the brackets of a slot
abbrev pub OpensAt : Place → PlainToken → Type 0
OpensAt outside token = ⊥
OpensAt (behind_slot named) token = IsMark 91 token
OpensAt (before_word named) token = ⊥
OpensAt (behind_word named) token = ⊥

-- all tokens before the n-th are so, with what stands before them and their place
pub record AllPoints (portions : List PlainPortion) (Q : List PlainToken → Place → PlainToken → Type 0) (form : List PlainToken) (n : ℕ) : Type 0 where
  pub all : (front rest : List PlainToken) (place : Place) (token : PlainToken) → form ≡ front ++ token ∷ rest → IsPlaceBehind portions front place → length front < n → Q front place token

-- the token opens no brackets
abbrev pub OpensNone : List PlainToken → Place → PlainToken → Type 0
OpensNone front place token = OpensAt place token → ⊥

-- a slot of the category here stands at the front, and in a production of the other category, which has its name
abbrev pub IsInFront : List PlainPortion → (written other : WrittenCategory) → List PlainToken → Place → PlainToken → Type 0
IsInFront portions written other front place token =
    IsOutside place token → IsWordOf portions written token → (other.name.text ≡ written.name.text) × (front ≡ [])

-- the other category has slots of the category only so
abbrev pub KeepsFront : List PlainPortion → (written other : WrittenCategory) → Type 0
KeepsFront portions written other = AllByRecursion (λ form. AllPoints portions (IsInFront portions written other) form (length form)) other.forms
