-- The first place at which something has a property, found from the places of other properties.
use Rattle.std.proofs.Common.{◌≡◌, ◌⊎◌, inl, inr, Option, Some, None}
use Rattle.term_reader.specs.FirstPlace.{IsFirstPlace}

module _ {K A : Type 0} (Before : K → K → Type 0) where
  -- of a property that the same places have, and only that value
  pub first_same : {B L : Type 0} (P : K → A → Type 0) (Q : K → B → Type 0) (wanted : B) (view : L → K) (found : Option L)
      → ((k : K) (a : A) → P k a → Q k wanted) → ((k : K) (b : B) → Q k b → (b ≡ wanted) × ((a : A) × P k a))
      → IsFirstPlace Before P view found → IsFirstPlace Before Q view found
  first_same P Q wanted view None there back h = λ k b q. (let p = (back k b q).1 in h k p.0 p.1)
  first_same {B} P Q wanted view (Some l) there back h = (wanted, (there (view l) h.0 h.1.0, λ k b q. later k b (back k b q)))
    where
      later : (k : K) (b : B) → (b ≡ wanted) × ((a : A) × P k a) → Before (view l) k ⊎ ((view l ≡ k) × (b ≡ wanted))
      later k b r = elim (h.1.1 k r.1.0 r.1.1) [ inl e ↦ inl e | inr e ↦ inr (e.0, r.0) ]

  -- of one of two properties, where all that has the first stands before all that has the second
  pub first_of_two : {L : Type 0} (P Q : K → A → Type 0) (view : L → K) (l : L) → ((k m : K) (a b : A) → P k a → Q m b → Before k m)
      → IsFirstPlace Before P view (Some l) → IsFirstPlace Before (λ k a. P k a ⊎ Q k a) view (Some l)
  first_of_two P Q view l apart h =
      (h.0, (inl h.1.0, λ k a s. elim s [ inl p ↦ h.1.1 k a p | inr q ↦ inl (apart (view l) k h.0 a h.1.0 q) ]))

  pub second_of_two : {L M : Type 0} (P Q : K → A → Type 0) (view : L → K) (other : M → K) (found : Option L) → IsFirstPlace Before P other None
      → IsFirstPlace Before Q view found → IsFirstPlace Before (λ k a. P k a ⊎ Q k a) view found
  second_of_two P Q view other None none h = λ k a s. elim s [ inl p ↦ none k a p | inr q ↦ h k a q ]
  second_of_two P Q view other (Some l) none h =
      (h.0, (inr h.1.0, λ k a s. elim s [ inl p ↦ absurd (none k a p) | inr q ↦ h.1.1 k a q ]))
