-- The place of a token in a production is one.
use Rattle.std.proofs.Common.{◌≡◌, ◌⊎◌, ◌++◌, ℕ, List, [], ◌∷◌, refl, ap, ◌∙◌, sym, subst, inl, inr}
use Rattle.sy_base.specs.Tokens.{PlainToken}
use Rattle.outline_reader.specs.Plain.{PlainPortion}
use Rattle.user_grammar.specs.Production.{IsMark}
use Rattle.user_grammar.specs.Fault.{Place, outside, behind_slot, before_word, behind_word, IsOutside, IsSlotWord, Follows, slot, item, opens, in_brackets, separator, closes, closes_behind, IsPlaceBehind, at_start, behind_one_more}

module _ (portions : List PlainPortion) where
  -- behind a token outside brackets
  abbrev pub SlotOrNot : PlainToken → Place → Type 0
  SlotOrNot t next = (IsSlotWord portions t × (next ≡ behind_slot [])) ⊎ ((IsSlotWord portions t → ⊥) × (next ≡ outside))

  -- what follows a place, by cases on it
  abbrev pub Outcome : Place → PlainToken → Place → Type 0
  Outcome outside t next = SlotOrNot t next
  Outcome (behind_slot named) t next = (IsMark 91 t × (next ≡ before_word named)) ⊎ ((IsMark 91 t → ⊥) × SlotOrNot t next)
  Outcome (before_word named) t next = (IsMark 93 t × (next ≡ behind_slot named)) ⊎ ((IsMark 93 t → ⊥) × (next ≡ behind_word (t.text ∷ named)))
  Outcome (behind_word named) t next = (IsMark 93 t × (next ≡ behind_slot named)) ⊎ ((IsMark 93 t → ⊥) × (next ≡ before_word named))

  slot_outcome : (place : Place) (t : PlainToken) → IsOutside place t → IsSlotWord portions t → Outcome place t (behind_slot [])
  slot_outcome outside t is slot_word = inl (slot_word, refl)
  slot_outcome (behind_slot named) t is slot_word = inr (is, inl (slot_word, refl))
  slot_outcome (before_word named) t is slot_word = absurd is
  slot_outcome (behind_word named) t is slot_word = absurd is

  item_outcome : (place : Place) (t : PlainToken) → IsOutside place t → (IsSlotWord portions t → ⊥) → Outcome place t outside
  item_outcome outside t is none = inr (none, refl)
  item_outcome (behind_slot named) t is none = inr (is, inr (none, refl))
  item_outcome (before_word named) t is none = absurd is
  item_outcome (behind_word named) t is none = absurd is

  pub outcome : {place next : Place} {t : PlainToken} → Follows portions place t next → Outcome place t next
  outcome (slot {place = place} {token = token} is slot_word) = slot_outcome place token is slot_word
  outcome (item {place = place} {token = token} is none) = item_outcome place token is none
  outcome (opens mark) = inl (mark, refl)
  outcome (in_brackets none) = inr (none, refl)
  outcome (separator none) = inr (none, refl)
  outcome (closes mark) = inl (mark, refl)
  outcome (closes_behind mark) = inl (mark, refl)

  one_slot_or_not : (t : PlainToken) (n m : Place) → SlotOrNot t n → SlotOrNot t m → n ≡ m
  one_slot_or_not t n m (inl a) (inl b) = a.1 ∙ sym b.1
  one_slot_or_not t n m (inl a) (inr b) = absurd (b.0 a.0)
  one_slot_or_not t n m (inr a) (inl b) = absurd (a.0 b.0)
  one_slot_or_not t n m (inr a) (inr b) = a.1 ∙ sym b.1

  one_of_cases : {P : Type 0} (a b n m : Place) → (P × (n ≡ a)) ⊎ ((P → ⊥) × (n ≡ b)) → (P × (m ≡ a)) ⊎ ((P → ⊥) × (m ≡ b)) → n ≡ m
  one_of_cases a b n m (inl x) (inl y) = x.1 ∙ sym y.1
  one_of_cases a b n m (inl x) (inr y) = absurd (y.0 x.0)
  one_of_cases a b n m (inr x) (inl y) = absurd (x.0 y.0)
  one_of_cases a b n m (inr x) (inr y) = x.1 ∙ sym y.1

  one_behind : (named : List (List ℕ)) (t : PlainToken) (n m : Place) → Outcome (behind_slot named) t n → Outcome (behind_slot named) t m → n ≡ m
  one_behind named t n m (inl x) (inl y) = x.1 ∙ sym y.1
  one_behind named t n m (inl x) (inr y) = absurd (y.0 x.0)
  one_behind named t n m (inr x) (inl y) = absurd (x.0 y.0)
  one_behind named t n m (inr x) (inr y) = one_slot_or_not t n m x.1 y.1

  pub outcome_once : (place : Place) (t : PlainToken) (n m : Place) → Outcome place t n → Outcome place t m → n ≡ m
  outcome_once outside t n m a b = one_slot_or_not t n m a b
  outcome_once (behind_slot named) t n m a b = one_behind named t n m a b
  outcome_once (before_word named) t n m a b = one_of_cases (behind_slot named) (behind_word (t.text ∷ named)) n m a b
  outcome_once (behind_word named) t n m a b = one_of_cases (behind_slot named) (before_word named) n m a b

  nothing_more : {A : Type 0} (xs : List A) (x : A) → [] ≡ xs ++ x ∷ [] → ⊥
  nothing_more [] x e = cc
  nothing_more (y ∷ xs) x e = cc

  pub snoc_same : {A : Type 0} (xs : List A) (x : A) (ys : List A) (y : A) → xs ++ x ∷ [] ≡ ys ++ y ∷ [] → (xs ≡ ys) × (x ≡ y)
  snoc_same [] x [] y e = (refl, cc)
  snoc_same [] x (z ∷ ys) y e = absurd (nothing_more ys y (let tail : [] ≡ ys ++ y ∷ [] = cc in tail))
  snoc_same (z ∷ xs) x [] y e = absurd (nothing_more xs x (let tail : [] ≡ xs ++ x ∷ [] = cc in tail))
  snoc_same (z ∷ xs) x (w ∷ ys) y e =
      let head : z ≡ w = cc in let tail : xs ++ x ∷ [] ≡ ys ++ y ∷ [] = cc in
      let more = snoc_same xs x ys y tail in (ap (λ v. v ∷ xs) head ∙ ap (λ vs. w ∷ vs) more.0, more.1)

  start_place : {front : List PlainToken} {place : Place} → IsPlaceBehind portions front place → front ≡ [] → place ≡ outside
  start_place at_start e = refl
  start_place (behind_one_more {front = front} {token = token} is follows) e = absurd (nothing_more front token (sym e))

  last_place : {behind : List PlainToken} {next : Place} → IsPlaceBehind portions behind next → (front : List PlainToken) (t : PlainToken) → behind ≡ front ++ t ∷ []
      → (place : Place) × IsPlaceBehind portions front place × Follows portions place t next
  last_place at_start front t e = absurd (nothing_more front t e)
  last_place (behind_one_more {front = own} {place = place} {next = next} {token = token} is follows) front t e =
      let same = snoc_same own token front t e in
      (place, subst (λ ts. IsPlaceBehind portions ts place) same.0 is, subst (λ s. Follows portions place s next) same.1 follows)

  -- the place behind the first tokens of a production is one
  pub place_once : {front : List PlainToken} {place other : Place} → IsPlaceBehind portions front place → IsPlaceBehind portions front other → place ≡ other
  place_once at_start also = sym (start_place also refl)
  place_once {other = other} (behind_one_more {front = front} {place = place} {next = next} {token = token} is follows) also =
      let last = last_place also front token refl in
      let same : place ≡ last.0 = place_once is last.1 in
      outcome_once place token next other (outcome follows) (outcome (subst (λ p. Follows portions p token other) (sym same) last.2))
