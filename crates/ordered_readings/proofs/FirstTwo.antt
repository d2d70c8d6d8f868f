-- The first two of unions, products and images.
use Rattle.std.proofs.Common.{◌≡◌, ◌≢◌, ◌⊎◌, ◌↔◌, List, [], ◌∷◌, ◌++◌, map, inl, inr, refl, ap, sym, subst}
use Rattle.ordered_readings.specs.FirstTwo.{IsOneOf, pairs, IsBy, IsListed, ComesAfterTwo, AreFirst, AreFirstOf}

pub in_first : {E : Type 0} (e : E) (xs ys : List E) → IsOneOf e xs → IsOneOf e (xs ++ ys)
in_first e [] ys h = absurd h
in_first e (x ∷ xs) ys (inl h) = inl h
in_first e (x ∷ xs) ys (inr h) = inr (in_first e xs ys h)

pub in_second : {E : Type 0} (e : E) (xs ys : List E) → IsOneOf e ys → IsOneOf e (xs ++ ys)
in_second e [] ys h = h
in_second e (x ∷ xs) ys h = inr (in_second e xs ys h)

pub in_either : {E : Type 0} (e : E) (xs ys : List E) → IsOneOf e (xs ++ ys) → IsOneOf e xs ⊎ IsOneOf e ys
in_either e [] ys h = inr h
in_either e (x ∷ xs) ys (inl h) = inl (inl h)
in_either e (x ∷ xs) ys (inr h) = elim (in_either e xs ys h) [ inl k ↦ inl (inr k) | inr k ↦ inr k ]

pub in_map : {D E : Type 0} (f : D → E) (d : D) (ds : List D) → IsOneOf d ds → IsOneOf (f d) (map f ds)
in_map f d [] h = absurd h
in_map f d (x ∷ ds) (inl h) = inl (ap f h)
in_map f d (x ∷ ds) (inr h) = inr (in_map f d ds h)

pub of_map : {D E : Type 0} (f : D → E) (e : E) (ds : List D) → IsOneOf e (map f ds) → (d : D) × IsOneOf d ds × (e ≡ f d)
of_map f e [] h = absurd h
of_map f e (x ∷ ds) (inl h) = (x, inl refl, h)
of_map f e (x ∷ ds) (inr h) = let r = of_map f e ds h in (r.0, inr r.1, r.2)

pub in_pairs : {D E F : Type 0} (f : D → E → F) (d : D) (e : E) (ds : List D) (es : List E) → IsOneOf d ds → IsOneOf e es → IsOneOf (f d e) (pairs f ds es)
in_pairs f d e [] es h k = absurd h
in_pairs f d e (x ∷ ds) es (inl h) k = in_first (f d e) (map (f x) es) (pairs f ds es) (subst (λ y. IsOneOf (f y e) (map (f x) es)) (sym h) (in_map (f x) e es k))
in_pairs f d e (x ∷ ds) es (inr h) k = in_second (f d e) (map (f x) es) (pairs f ds es) (in_pairs f d e ds es h k)

pub of_pairs : {D E F : Type 0} (f : D → E → F) (c : F) (ds : List D) (es : List E) → IsOneOf c (pairs f ds es) → (d : D) × (e : E) × IsOneOf d ds × IsOneOf e es × (c ≡ f d e)
of_pairs f c [] es h = absurd h
of_pairs f c (x ∷ ds) es h = elim (in_either c (map (f x) es) (pairs f ds es) h) [
  | inl k ↦ (let r = of_map (f x) c es k in (x, r.0, inl refl, r.1, r.2))
  | inr k ↦ (let r = of_pairs f c ds es k in (r.0, r.1, inr r.2, r.3, r.4))
]

module _ {K : Type 0} (Before : K → K → Type 0) (trans : (k l m : K) → Before k l → Before l m → Before k m) where
  by_before : (k l m : K) → IsBy Before k l → Before l m → Before k m
  by_before k l m (inl b) c = trans k l m b c
  by_before k l m (inr e) c = subst (λ j. Before j m) (sym e) c

  before_by : (k l m : K) → Before k l → IsBy Before l m → Before k m
  before_by k l m b (inl c) = trans k l m b c
  before_by k l m b (inr e) = subst (Before k) e b

  by_by : (k l m : K) → IsBy Before k l → IsBy Before l m → IsBy Before k m
  by_by k l m (inl b) c = inl (before_by k l m b c)
  by_by k l m (inr e) c = subst (λ j. IsBy Before j m) (sym e) c

module _ {K A : Type 0} (Before : K → K → Type 0) (trans : (k l m : K) → Before k l → Before l m → Before k m) where
  abbrev Told : List (K × A) → K → A → Type 0
  Told xs k a = IsListed Before xs k a ⊎ ComesAfterTwo Before xs k

  -- what comes after something that is told is told
  told_later : (zs : List (K × A)) (k l : K) (a : A) → Told zs k a → IsBy Before k l → Told zs l a
  told_later zs k l a (inl h) b = inl (h.0, h.1, by_by Before trans h.0 k l h.2 b)
  told_later zs k l a (inr h) b = inr (h.0, h.1, h.2, h.3, h.4, before_by Before trans h.0.0 k l h.5 b, before_by Before trans h.1.0 k l h.6 b)

  after_told : (zs : List (K × A)) (l : K) (d e : K × A) → d.1 ≢ e.1 → Before d.0 l → Before e.0 l → Told zs d.0 d.1 → Told zs e.0 e.1 → ComesAfterTwo Before zs l
  after_told zs l d e other b c (inr h) t = (h.0, h.1, h.2, h.3, h.4, trans _ _ _ h.5 b, trans _ _ _ h.6 b)
  after_told zs l d e other b c (inl g) (inr h) = (h.0, h.1, h.2, h.3, h.4, trans _ _ _ h.5 c, trans _ _ _ h.6 c)
  after_told zs l d e other b c (inl g) (inl h) =
      ((g.0, d.1), (h.0, e.1), g.1, h.1, other, by_before Before trans g.0 d.0 l g.2 b, by_before Before trans h.0 e.0 l h.2 c)

  -- what is told by a list is told by one that tells all of it
  told_through : (xs zs : List (K × A)) (l : K) (a : A) → Told xs l a → ((k : K) (b : A) → IsOneOf (k, b) xs → Told zs k b) → Told zs l a
  told_through xs zs l a (inl h) all = told_later zs h.0 l a (all h.0 a h.1) h.2
  told_through xs zs l a (inr h) all =
      inr (after_told zs l h.0 h.1 h.4 h.5 h.6 (all h.0.0 h.0.1 h.2) (all h.1.0 h.1.1 h.3))

  -- of a property that the same things have at the same places
  pub first_same : (P Q : K → A → Type 0) (zs : List (K × A)) → ((k : K) (a : A) → P k a ↔ Q k a) → AreFirst Before P zs → AreFirst Before Q zs
  first_same P Q zs h f = record { have = λ k a i. (h k a).0 (f.have k a i); in_order = f.in_order; all = λ k a q. f.all k a ((h k a).1 q) }

  -- of a property from a list that tells all of it
  pub first_of_list : (P : K → A → Type 0) (xs zs : List (K × A)) → ((k : K) (a : A) → IsOneOf (k, a) xs → P k a)
      → ((k : K) (a : A) → P k a → Told xs k a) → AreFirstOf Before xs zs → AreFirst Before P zs
  first_of_list P xs zs have all f =
      record { have = λ k a i. have k a (f.have k a i); in_order = f.in_order; all = λ k a p. told_through xs zs k a (all k a p) f.all }

  told_more : (xs zs : List (K × A)) (l : K) (a : A) → ((e : K × A) → IsOneOf e xs → IsOneOf e zs) → Told xs l a → Told zs l a
  told_more xs zs l a more (inl h) = inl (h.0, more (h.0, a) h.1, h.2)
  told_more xs zs l a more (inr h) = inr (h.0, h.1, more h.0 h.2, more h.1 h.3, h.4, h.5, h.6)

  -- of what has one property or the other
  pub first_union : (P Q : K → A → Type 0) (xs ys zs : List (K × A)) → AreFirst Before P xs → AreFirst Before Q ys
      → AreFirstOf Before (ys ++ xs) zs → AreFirst Before (λ k a. P k a ⊎ Q k a) zs
  first_union P Q xs ys zs f g h = first_of_list (λ k a. P k a ⊎ Q k a) (ys ++ xs) zs have all h
    where
      have : (k : K) (a : A) → IsOneOf (k, a) (ys ++ xs) → P k a ⊎ Q k a
      have k a i = elim (in_either (k, a) ys xs i) [ inl j ↦ inr (g.have k a j) | inr j ↦ inl (f.have k a j) ]

      all : (k : K) (a : A) → P k a ⊎ Q k a → Told (ys ++ xs) k a
      all k a (inl p) = told_more xs (ys ++ xs) k a (λ e i. in_second e ys xs i) (f.all k a p)
      all k a (inr q) = told_more ys (ys ++ xs) k a (λ e i. in_first e ys xs i) (g.all k a q)

  -- of nothing, and of one thing
  pub first_none : (P : K → A → Type 0) → ((k : K) (a : A) → P k a → ⊥) → AreFirst Before P []
  first_none P none = record { have = λ k a i. absurd i; in_order = tt; all = λ k a p. absurd (none k a p) }

  pub first_one : (P : K → A → Type 0) (k : K) (a : A) → P k a → ((l : K) (b : A) → P l b → (k ≡ l) × (a ≡ b)) → AreFirst Before P ((k, a) ∷ [])
  first_one P k a p only = record { have = have; in_order = tt; all = λ l b q. inl (k, inl (ap (with_value k) (sym (only l b q).1)), inr (only l b q).0) }
    where
      with_value : K → A → K × A
      with_value l b = (l, b)

      have : (l : K) (b : A) → IsOneOf {E = K × A} (l, b) ((k, a) ∷ []) → P l b
      have l b (inl e) = subst (λ (d : K × A). P d.0 d.1) (sym e) p
      have l b (inr e) = absurd e

-- of what is made of one thing and another, where both places and values tell the parts
module _ {K L M A B C : Type 0} (First : K → K → Type 0) (Second : L → L → Type 0) (Before : M → M → Type 0)
    (trans : (k l m : M) → Before k l → Before l m → Before k m) (P : K → A → Type 0) (Q : L → B → Type 0)
    (at : K → L → M) (build : A → B → C)
    (first_tells : (k k' : K) (l : L) → First k k' → Before (at k l) (at k' l))
    (second_tells : (k : K) (l l' : L) → Second l l' → Before (at k l) (at k l'))
    (apart : (k k' : K) (l l' : L) (a a' : A) (b b' : B) → P k a → P k' a' → Q l b → Q l' b' → build a b ≡ build a' b' → (a ≡ a') × (b ≡ b'))
  where
    abbrev Made : M → C → Type 0
    Made m c = (k : K) × (a : A) × (l : L) × (b : B) × P k a × Q l b × (m ≡ at k l) × (c ≡ build a b)

    abbrev both : K × A → L × B → M × C
    both d e = (at d.0 e.0, build d.1 e.1)

    module _ (xs : List (K × A)) (ys : List (L × B)) (f : AreFirst First P xs) (g : AreFirst Second Q ys) where
      abbrev all_pairs : List (M × C)
      all_pairs = pairs both xs ys

      second_by : (k : K) (l l' : L) → IsBy Second l l' → IsBy Before (at k l) (at k l')
      second_by k l l' (inl b) = inl (second_tells k l l' b)
      second_by k l l' (inr e) = inr (ap (at k) e)

      at_by : (k k' : K) (l l' : L) → IsBy First k k' → IsBy Second l l' → IsBy Before (at k l) (at k' l')
      at_by k k' l l' (inl b) c = inl (before_by Before trans _ _ _ (first_tells k k' l b) (second_by k' l l' c))
      at_by k k' l l' (inr e) c = subst (λ j. IsBy Before (at k l) (at j l')) e (second_by k l l' c)

      first_before : (k k' : K) (l l' : L) → First k k' → IsBy Second l l' → Before (at k l) (at k' l')
      first_before k k' l l' b c = before_by Before trans _ _ _ (first_tells k k' l b) (second_by k' l l' c)

      second_before : (k k' : K) (l l' : L) → IsBy First k k' → Second l l' → Before (at k l) (at k' l')
      second_before k k' l l' (inl b) c = trans _ _ _ (first_tells k k' l b) (second_tells k' l l' c)
      second_before k k' l l' (inr e) c = subst (λ j. Before (at k l) (at j l')) e (second_tells k l l' c)

      in_all : (d : K × A) (e : L × B) → IsOneOf d xs → IsOneOf e ys → IsOneOf (both d e) all_pairs
      in_all d e i j = in_pairs both d e xs ys i j

      -- two different first parts with one second, and one first with two different seconds
      two_firsts : (d d' : K × A) (e : L × B) (k : K) (l : L) → IsOneOf d xs → IsOneOf d' xs → IsOneOf e ys → d.1 ≢ d'.1 → First d.0 k → First d'.0 k
          → IsBy Second e.0 l → ComesAfterTwo Before all_pairs (at k l)
      two_firsts d d' e k l i i' j other b b' c = (
        both d e,
        both d' e,
        in_all d e i j,
        in_all d' e i' j,
        λ same. other (apart d.0 d'.0 e.0 e.0 d.1 d'.1 e.1 e.1 (f.have d.0 d.1 i) (f.have d'.0 d'.1 i') (g.have e.0 e.1 j) (g.have e.0 e.1 j) same).0,
        first_before d.0 k e.0 l b c,
        first_before d'.0 k e.0 l b' c,
      )

      two_seconds : (d : K × A) (e e' : L × B) (k : K) (l : L) → IsOneOf d xs → IsOneOf e ys → IsOneOf e' ys → e.1 ≢ e'.1 → IsBy First d.0 k
          → Second e.0 l → Second e'.0 l → ComesAfterTwo Before all_pairs (at k l)
      two_seconds d e e' k l i j j' other b c c' = (
        both d e,
        both d e',
        in_all d e i j,
        in_all d e' i j',
        λ same. other (apart d.0 d.0 e.0 e'.0 d.1 d.1 e.1 e'.1 (f.have d.0 d.1 i) (f.have d.0 d.1 i) (g.have e.0 e.1 j) (g.have e'.0 e'.1 j') same).1,
        second_before d.0 k e.0 l b c,
        second_before d.0 k e'.0 l b c',
      )

      told_pair : (k : K) (a : A) (l : L) (b : B) → IsListed First xs k a ⊎ ComesAfterTwo First xs k → IsListed Second ys l b ⊎ ComesAfterTwo Second ys l
          → IsListed Before all_pairs (at k l) (build a b) ⊎ ComesAfterTwo Before all_pairs (at k l)
      told_pair k a l b (inl h) (inl i) = inl (at h.0 i.0, in_all (h.0, a) (i.0, b) h.1 i.1, at_by h.0 k i.0 l h.2 i.2)
      told_pair k a l b (inr h) (inl i) = inr (two_firsts h.0 h.1 (i.0, b) k l h.2 h.3 i.1 h.4 h.5 h.6 i.2)
      told_pair k a l b (inl h) (inr i) = inr (two_seconds (h.0, a) i.0 i.1 k l h.1 i.2 i.3 i.4 h.2 i.5 i.6)
      told_pair k a l b (inr h) (inr i) = inr (two_firsts h.0 h.1 i.0 k l h.2 h.3 i.2 h.4 h.5 h.6 (inl i.5))

      pub first_product : (zs : List (M × C)) → AreFirstOf Before all_pairs zs → AreFirst Before Made zs
      first_product zs h = first_of_list Before trans Made all_pairs zs have all h
        where
          have : (m : M) (c : C) → IsOneOf (m, c) all_pairs → Made m c
          have m c i =
              let r = of_pairs both (m, c) xs ys i in
              (r.0.0, r.0.1, r.1.0, r.1.1, f.have r.0.0 r.0.1 r.2, g.have r.1.0 r.1.1 r.3, ap (λ (x : M × C). x.0) r.4, ap (λ (x : M × C). x.1) r.4)

          all : (m : M) (c : C) → Made m c → IsListed Before all_pairs m c ⊎ ComesAfterTwo Before all_pairs m
          all m c r =
              let told = told_pair r.0 r.1 r.2 r.3 (f.all r.0 r.1 r.4) (g.all r.2 r.3 r.5) in
              subst (λ n. IsListed Before all_pairs n c ⊎ ComesAfterTwo Before all_pairs n) (sym r.6)
              (subst (λ x. IsListed Before all_pairs (at r.0 r.2) x ⊎ ComesAfterTwo Before all_pairs (at r.0 r.2)) (sym r.7) told)
