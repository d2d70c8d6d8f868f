-- The first two of what is told by the first two of something else.
use Rattle.std.proofs.Common.{◌≡◌, ◌≢◌, ◌⊎◌, List, [], ◌∷◌, inl, inr, subst}
use Rattle.term_reader.specs.Firsts.{AreFirst, IsLeast}
use Rattle.notation_parser.specs.Fronts.{AreTold}

module _ {K A B : Type 0} (Before : K → K → Type 0) (T : A → B → Type 0) (once : (a : A) (b c : B) → T a b → T a c → b ≡ c) where
  least_told : (P : K → A → Type 0) (Q : K → B → Type 0) (there : (k : K) (a : A) (b : B) → P k a → T a b → Q k b) (back : (k : K) (b : B) → Q k b → (a : A) × P k a × T a b)
      (k : K) (a : A) (b : B) → T a b → IsLeast Before P k a → IsLeast Before Q k b
  least_told P Q there back k a b t h = (there k a b h.0 t, λ l y q. (let z = back l y q in go l y z (h.1 l z.0 z.1)))
    where
      go : (l : K) (y : B) (z : (x : A) × P l x × T x y) → Before k l ⊎ ((k ≡ l) × (z.0 ≡ a)) → Before k l ⊎ ((k ≡ l) × (y ≡ b))
      go l y z (inl before) = inl before
      go l y z (inr same) = inr (same.0, once a y b (subst (λ x. T x y) same.1 z.2) t)

  -- where different things tell different ones, the first two tell the first two
  pub first_told : (P : K → A → Type 0) (Q : K → B → Type 0) (there : (k : K) (a : A) (b : B) → P k a → T a b → Q k b) (back : (k : K) (b : B) → Q k b → (a : A) × P k a × T a b)
      (apart : (k l : K) (a c : A) (b : B) → P k a → P l c → T a b → T c b → a ≡ c) (xs : List A) (ys : List B) → AreTold T xs ys → AreFirst Before P xs → AreFirst Before Q ys
  first_told P Q there back apart [] [] t f = λ k b q. (let z = back k b q in f k z.0 z.1)
  first_told P Q there back apart [] (b ∷ ys) t f = absurd t
  first_told P Q there back apart (a ∷ xs) [] t f = absurd t
  first_told P Q there back apart (a ∷ []) (b ∷ []) t f = (
    (f.0.0, least_told P Q there back f.0.0 a b t.0 f.0.1),
    λ l y q. (let z = back l y q in once a y b (subst (λ x. T x y) (f.1 l z.0 z.1) z.2) t.0),
  )
  first_told P Q there back apart (a ∷ []) (b ∷ (d ∷ ys)) t f = absurd t.1
  first_told P Q there back apart (a ∷ (c ∷ xs)) (b ∷ []) t f = absurd t.1
  first_told P Q there back apart (a ∷ (c ∷ [])) (b ∷ (d ∷ [])) t f = (
    (f.0.0, least_told P Q there back f.0.0 a b t.0 f.0.1),
    (
      f.1.0,
      least_told (λ l x. P l x × (x ≢ a)) (λ l y. Q l y × (y ≢ b))
          (λ k x y p s. (there k x y p.0 s, λ e. p.1 (apart k f.0.0 x a b p.0 f.0.1.0 (subst (T x) e s) t.0)))
          (λ k y q. (let z = back k y q.0 in (z.0, (z.1, λ e. q.1 (once a y b (subst (λ x. T x y) e z.2) t.0)), z.2))) f.1.0 c d t.1.0 f.1.1,
    ),
  )
  first_told P Q there back apart (a ∷ (c ∷ [])) (b ∷ (d ∷ (e ∷ ys))) t f = absurd t.1.1
  first_told P Q there back apart (a ∷ (c ∷ (x ∷ xs))) ys t f = absurd f
