-- The first two with one more.
use Rattle.std.proofs.Common.{◌≡◌, ◌≢◌, ◌⊎◌, List, [], ◌∷◌, inl, inr, refl, ap, ◌∙◌, sym, subst}
use Rattle.ordered_readings.specs.FirstTwo.{IsOneOf, IsBy, AreInOrder, IsListed, ComesAfterTwo, AreComparable, AreFirstOf}
use Rattle.ordered_readings.proofs.FirstTwo.{first_of_list}

of_one : {E : Type 0} (T : E → Type 0) (d : E) → T d → (e : E) → IsOneOf e (d ∷ []) → T e
of_one T d t e (inl h) = subst T (sym h) t
of_one T d t e (inr h) = absurd h

of_two : {E : Type 0} (T : E → Type 0) (d a : E) → T d → T a → (e : E) → IsOneOf e (d ∷ a ∷ []) → T e
of_two T d a t u e (inl h) = subst T (sym h) t
of_two T d a t u e (inr h) = of_one T a u e h

of_three : {E : Type 0} (T : E → Type 0) (d a b : E) → T d → T a → T b → (e : E) → IsOneOf e (d ∷ a ∷ b ∷ []) → T e
of_three T d a b t u v e (inl h) = subst T (sym h) t
of_three T d a b t u v e (inr h) = of_two T a b u v e h

module _ {K A : Type 0} (Before : K → K → Type 0) (trans : (k l m : K) → Before k l → Before l m → Before k m) where
  abbrev Told : List (K × A) → K × A → Type 0
  Told xs e = IsListed Before xs e.0 e.1 ⊎ ComesAfterTwo Before xs e.0

  -- by the first that is listed, and by the second
  by_first : (d e : K × A) (zs : List (K × A)) → d.1 ≡ e.1 → IsBy Before d.0 e.0 → Told (d ∷ zs) e
  by_first d e zs same by = inl (d.0, subst (λ a. IsOneOf (d.0, a) (d ∷ zs)) same (inl refl), by)

  first_told : (d : K × A) (zs : List (K × A)) → Told (d ∷ zs) d
  first_told d zs = by_first d d zs refl (inr refl)

  second_told : (d a : K × A) (zs : List (K × A)) → Told (d ∷ a ∷ zs) a
  second_told d a zs = inl (a.0, inr (inl refl), inr refl)

  told_after : (d f e : K × A) → d.1 ≢ f.1 → Before d.0 e.0 → Before f.0 e.0 → Told (d ∷ f ∷ []) e
  told_after d f e other b c = inr (d, f, inl refl, inr (inl refl), other, b, c)

  first_of : (xs zs : List (K × A)) → ((e : K × A) → IsOneOf e zs → IsOneOf e xs) → AreInOrder Before zs → ((e : K × A) → IsOneOf e xs → Told zs e) → AreFirstOf Before xs zs
  first_of xs zs have order all = record { have = λ k a i. have (k, a) i; in_order = order; all = λ k a i. all (k, a) i }

  abbrev Compared : K × A → K × A → Type 0
  Compared d e = Before d.0 e.0 ⊎ ((d ≡ e) ⊎ Before e.0 d.0)

  not_sooner : (d a : K × A) → Compared d a → (Before d.0 a.0 → ⊥) → IsBy Before a.0 d.0
  not_sooner d a (inl b) h = absurd (h b)
  not_sooner d a (inr (inl e)) h = inr (ap (λ (x : K × A). x.0) (sym e))
  not_sooner d a (inr (inr b)) h = inl b

  later : (d a : K × A) → Compared d a → (Before d.0 a.0 → ⊥) → (d.1 ≡ a.1 → ⊥) → Before a.0 d.0
  later d a (inl b) h k = absurd (h b)
  later d a (inr (inl e)) h k = absurd (k (ap (λ (x : K × A). x.1) e))
  later d a (inr (inr b)) h k = b

  pub alone : (d : K × A) → AreFirstOf Before (d ∷ []) (d ∷ [])
  alone d = first_of (d ∷ []) (d ∷ []) (λ e i. i) tt (of_one (Told (d ∷ [])) d (first_told d []))

  module _ (d a : K × A) (comparable : AreComparable Before (d ∷ a ∷ [])) where
    told : Compared d a
    told = comparable d a (inl refl) (inr (inl refl))

    pub one_sooner : d.1 ≡ a.1 → Before d.0 a.0 → AreFirstOf Before (d ∷ a ∷ []) (d ∷ [])
    one_sooner same b = first_of (d ∷ a ∷ []) (d ∷ []) (of_one (λ e. IsOneOf e (d ∷ a ∷ [])) d (inl refl)) tt
        (of_two (Told (d ∷ [])) d a (first_told d []) (by_first d a [] same (inl b)))

    pub one_kept : d.1 ≡ a.1 → (Before d.0 a.0 → ⊥) → AreFirstOf Before (d ∷ a ∷ []) (a ∷ [])
    one_kept same b = first_of (d ∷ a ∷ []) (a ∷ []) (of_one (λ e. IsOneOf e (d ∷ a ∷ [])) a (inr (inl refl))) tt
        (of_two (Told (a ∷ [])) d a (by_first a d [] (sym same) (not_sooner d a told b)) (first_told a []))

    pub one_first : (d.1 ≡ a.1 → ⊥) → Before d.0 a.0 → AreFirstOf Before (d ∷ a ∷ []) (d ∷ a ∷ [])
    one_first other b = first_of (d ∷ a ∷ []) (d ∷ a ∷ []) (λ e i. i) (b, other)
        (of_two (Told (d ∷ a ∷ [])) d a (first_told d (a ∷ [])) (second_told d a []))

    pub one_second : (d.1 ≡ a.1 → ⊥) → (Before d.0 a.0 → ⊥) → AreFirstOf Before (d ∷ a ∷ []) (a ∷ d ∷ [])
    one_second other b = first_of (d ∷ a ∷ []) (a ∷ d ∷ []) (of_two (λ e. IsOneOf e (d ∷ a ∷ [])) a d (inr (inl refl)) (inl refl)) (later d a told b other, λ e. other (sym e))
        (of_two (Told (a ∷ d ∷ [])) d a (second_told a d []) (first_told a (d ∷ [])))

  module _ (d a b : K × A) (order : AreInOrder Before (a ∷ b ∷ [])) (comparable : AreComparable Before (d ∷ a ∷ b ∷ [])) where
    abbrev Wanted : List (K × A) → Type 0
    Wanted = AreFirstOf Before (d ∷ a ∷ b ∷ [])

    with_first : Compared d a
    with_first = comparable d a (inl refl) (inr (inl refl))

    with_second : Compared d b
    with_second = comparable d b (inl refl) (inr (inr (inl refl)))

    pub two_sooner : d.1 ≡ a.1 → Before d.0 a.0 → Wanted (d ∷ b ∷ [])
    two_sooner same c = first_of (d ∷ a ∷ b ∷ []) (d ∷ b ∷ []) (of_two (λ e. IsOneOf e (d ∷ a ∷ b ∷ [])) d b (inl refl) (inr (inr (inl refl))))
        (trans d.0 a.0 b.0 c order.0, λ e. order.1 (sym same ∙ e))
        (of_three (Told (d ∷ b ∷ [])) d a b (first_told d (b ∷ [])) (by_first d a (b ∷ []) same (inl c)) (second_told d b []))

    pub two_kept : d.1 ≡ a.1 → (Before d.0 a.0 → ⊥) → Wanted (a ∷ b ∷ [])
    two_kept same c = first_of (d ∷ a ∷ b ∷ []) (a ∷ b ∷ []) (λ e i. inr i) order
        (of_three (Told (a ∷ b ∷ [])) d a b (by_first a d (b ∷ []) (sym same) (not_sooner d a with_first c)) (first_told a (b ∷ [])) (second_told a b []))

    pub two_first : (d.1 ≡ a.1 → ⊥) → Before d.0 a.0 → Wanted (d ∷ a ∷ [])
    two_first other c = first_of (d ∷ a ∷ b ∷ []) (d ∷ a ∷ []) (of_two (λ e. IsOneOf e (d ∷ a ∷ b ∷ [])) d a (inl refl) (inr (inl refl))) (c, other)
        (of_three (Told (d ∷ a ∷ [])) d a b (first_told d (a ∷ [])) (second_told d a [])
        (told_after d a b other (trans d.0 a.0 b.0 c order.0) order.0))

    pub two_second : (d.1 ≡ a.1 → ⊥) → (Before d.0 a.0 → ⊥) → Before d.0 b.0 → Wanted (a ∷ d ∷ [])
    two_second other c before = first_of (d ∷ a ∷ b ∷ []) (a ∷ d ∷ []) (of_two (λ e. IsOneOf e (d ∷ a ∷ b ∷ [])) a d (inr (inl refl)) (inl refl))
        (later d a with_first c other, λ e. other (sym e))
        (of_three (Told (a ∷ d ∷ [])) d a b (second_told a d []) (first_told a (d ∷ []))
        (told_after a d b (λ e. other (sym e)) order.0 before))

    pub two_third : (Before d.0 b.0 → ⊥) → Wanted (a ∷ b ∷ [])
    two_third c = first_of (d ∷ a ∷ b ∷ []) (a ∷ b ∷ []) (λ e i. inr i) order
        (of_three (Told (a ∷ b ∷ [])) d a b (third with_second) (first_told a (b ∷ [])) (second_told a b []))
      where
        third : Compared d b → Told (a ∷ b ∷ []) d
        third (inl h) = absurd (c h)
        third (inr (inl e)) = subst (Told (a ∷ b ∷ [])) (sym e) (second_told a b [])
        third (inr (inr h)) = told_after a b d order.1 (trans a.0 b.0 d.0 order.0 h) h

  pub already : (xs : List (K × A)) → AreInOrder Before xs → AreFirstOf Before xs xs
  already xs order = first_of xs xs (λ e i. i) order (λ e i. inl (e.0, i, inr refl))

  pub comparable_part : (xs ys : List (K × A)) → ((e : K × A) → IsOneOf e ys → IsOneOf e xs) → AreComparable Before xs → AreComparable Before ys
  comparable_part xs ys part h = λ d e i j. h d e (part d i) (part e j)

  -- one more after the first two of others
  pub one_more : (d : K × A) (xs ys : List (K × A)) → AreComparable Before (d ∷ xs) → AreFirstOf Before xs ys → AreComparable Before (d ∷ ys)
  one_more d xs ys h f = comparable_part (d ∷ xs) (d ∷ ys) part h
    where
      part : (e : K × A) → IsOneOf e (d ∷ ys) → IsOneOf e (d ∷ xs)
      part e (inl i) = inl i
      part e (inr i) = inr (f.have e.0 e.1 i)

  pub added_after : (d : K × A) (xs ys zs : List (K × A)) → AreFirstOf Before xs ys → AreFirstOf Before (d ∷ ys) zs → AreFirstOf Before (d ∷ xs) zs
  added_after d xs ys zs f g = first_of_list Before trans (λ k a. IsOneOf (k, a) (d ∷ xs)) (d ∷ ys) zs have all g
    where
      have : (k : K) (a : A) → IsOneOf {E = K × A} (k, a) (d ∷ ys) → IsOneOf {E = K × A} (k, a) (d ∷ xs)
      have k a (inl i) = inl i
      have k a (inr i) = inr (f.have k a i)

      all : (k : K) (a : A) → IsOneOf {E = K × A} (k, a) (d ∷ xs) → Told (d ∷ ys) (k, a)
      all k a (inl i) = inl (k, inl i, inr refl)
      all k a (inr i) = elim (f.all k a i) [
        | inl h ↦ inl (h.0, inr h.1, h.2)
        | inr h ↦ inr (h.0, h.1, inr h.2, inr h.3, h.4, h.5, h.6)
      ]
