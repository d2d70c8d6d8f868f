-- The first two of what has a property, put together.
use Rattle.std.proofs.Common.{◌≡◌, ◌≢◌, ◌⊎◌, ◌↔◌, List, [], ◌∷◌, map, inl, inr, refl, ap, ◌∙◌, sym, subst}
use Rattle.term_reader.specs.Firsts.{listed, IsLeast, AreFirst, AreJoined, paired, IsFull}
use Rattle.term_reader.specs.Splitting.{IsMapped}
use Rattle.term_reader.specs.declared.firsts.Firsts.{Firsts}
use Rattle.term_reader.specs.declared.firsts.Firsts.TheVariants.{Nothing, One, Two}

module _ {K A : Type 0} (Before : K → K → Type 0) where
  IsLeast-same : (P Q : K → A → Type 0) (k : K) (a : A) → ((l : K) (x : A) → P l x ↔ Q l x) → IsLeast Before P k a → IsLeast Before Q k a
  IsLeast-same P Q k a h f = ((h k a).0 f.0, λ l x q. f.1 l x ((h l x).1 q))

  -- of a property that says the same
  pub AreFirst-same : (P Q : K → A → Type 0) (xs : List A) → ((k : K) (x : A) → P k x ↔ Q k x) → AreFirst Before P xs → AreFirst Before Q xs
  AreFirst-same P Q [] h f = λ k x q. f k x ((h k x).1 q)
  AreFirst-same P Q (a ∷ []) h f = ((f.0.0, IsLeast-same P Q f.0.0 a h f.0.1), λ k x q. f.1 k x ((h k x).1 q))
  AreFirst-same P Q (a ∷ (b ∷ [])) h f = (
    (f.0.0, IsLeast-same P Q f.0.0 a h f.0.1),
    (f.1.0, IsLeast-same (λ l x. P l x × (x ≢ a)) (λ l x. Q l x × (x ≢ a)) f.1.0 b (λ l x. (λ p. ((h l x).0 p.0, p.1), λ q. ((h l x).1 q.0, q.1))) f.1.1),
  )
  AreFirst-same P Q (a ∷ (b ∷ (c ∷ xs))) h f = absurd f

  -- the first of one property stays it where all of another stands later
  least_first : (P Q : K → A → Type 0) (k : K) (a : A) → ((k l : K) (a x : A) → P k a → Q l x → Before k l) → IsLeast Before P k a
      → IsLeast Before (λ l x. P l x ⊎ Q l x) k a
  least_first P Q k a apart f = (inl f.0, λ l x s. elim s [ inl p ↦ f.1 l x p | inr q ↦ inl (apart k l a x f.0 q) ])

  -- of two properties, after the two lists are joined
  pub AreFirst-joined : (P Q : K → A → Type 0) (xs ys zs : List A) → ((k l : K) (a x : A) → P k a → Q l x → Before k l) → AreJoined xs ys zs
      → AreFirst Before P xs → AreFirst Before Q ys → AreFirst Before (λ k x. P k x ⊎ Q k x) zs
  AreFirst-joined P Q [] ys zs apart j f g =
      subst (AreFirst Before (λ k x. P k x ⊎ Q k x)) (sym j)
      (AreFirst-same Q (λ k x. P k x ⊎ Q k x) ys (λ k x. (λ q. inr q, λ s. elim s [ inl p ↦ absurd (f k x p) | inr q ↦ q ])) g)
  AreFirst-joined P Q (a ∷ []) [] zs apart j f g =
      subst (AreFirst Before (λ k x. P k x ⊎ Q k x)) (sym j)
      ((f.0.0, least_first P Q f.0.0 a apart f.0.1), λ k x s. elim s [ inl p ↦ f.1 k x p | inr q ↦ absurd (g k x q) ])
  AreFirst-joined P Q (a ∷ []) (b ∷ []) zs apart j f g = go j
    where
      go : ((a ≡ b) × (zs ≡ a ∷ [])) ⊎ ((a ≢ b) × (zs ≡ a ∷ b ∷ [])) → AreFirst Before (λ k x. P k x ⊎ Q k x) zs
      go (inl e) =
          subst (AreFirst Before (λ k x. P k x ⊎ Q k x)) (sym e.1)
          ((f.0.0, least_first P Q f.0.0 a apart f.0.1), λ k x s. elim s [ inl p ↦ f.1 k x p | inr q ↦ g.1 k x q ∙ sym e.0 ])
      go (inr e) =
          subst (AreFirst Before (λ k x. P k x ⊎ Q k x)) (sym e.1)
          ((f.0.0, least_first P Q f.0.0 a apart f.0.1), (g.0.0, ((inr g.0.1.0, λ k. e.0 (sym k)), λ l x s. another s.1 s.0)))
        where
          another : {l : K} {x : A} → x ≢ a → P l x ⊎ Q l x → Before g.0.0 l ⊎ ((g.0.0 ≡ l) × (x ≡ b))
          another {l} {x} ne (inl p) = absurd (ne (f.1 l x p))
          another {l} {x} ne (inr q) = g.0.1.1 l x q
  AreFirst-joined P Q (a ∷ []) (b ∷ (c ∷ [])) zs apart j f g = go j
    where
      go : ((a ≡ b) × (zs ≡ a ∷ c ∷ [])) ⊎ ((a ≢ b) × (zs ≡ a ∷ b ∷ [])) → AreFirst Before (λ k x. P k x ⊎ Q k x) zs
      go (inl e) =
          subst (AreFirst Before (λ k x. P k x ⊎ Q k x)) (sym e.1)
          ((f.0.0, least_first P Q f.0.0 a apart f.0.1), (g.1.0, ((inr g.1.1.0.0, λ k. g.1.1.0.1 (k ∙ e.0)), λ l x s. another s.1 s.0)))
        where
          another : {l : K} {x : A} → x ≢ a → P l x ⊎ Q l x → Before g.1.0 l ⊎ ((g.1.0 ≡ l) × (x ≡ c))
          another {l} {x} ne (inl p) = absurd (ne (f.1 l x p))
          another {l} {x} ne (inr q) = g.1.1.1 l x (q, λ k. ne (k ∙ sym e.0))
      go (inr e) =
          subst (AreFirst Before (λ k x. P k x ⊎ Q k x)) (sym e.1)
          ((f.0.0, least_first P Q f.0.0 a apart f.0.1), (g.0.0, ((inr g.0.1.0, λ k. e.0 (sym k)), λ l x s. another s.1 s.0)))
        where
          another : {l : K} {x : A} → x ≢ a → P l x ⊎ Q l x → Before g.0.0 l ⊎ ((g.0.0 ≡ l) × (x ≡ b))
          another {l} {x} ne (inl p) = absurd (ne (f.1 l x p))
          another {l} {x} ne (inr q) = g.0.1.1 l x q
  AreFirst-joined P Q (a ∷ []) (b ∷ (c ∷ (d ∷ ys))) zs apart j f g = absurd g
  AreFirst-joined P Q (a ∷ (b ∷ [])) ys zs apart j f g =
      subst (AreFirst Before (λ k x. P k x ⊎ Q k x)) (sym j)
      ((f.0.0, least_first P Q f.0.0 a apart f.0.1), (f.1.0, ((inl f.1.1.0.0, f.1.1.0.1), λ l x s. another s.1 s.0)))
    where
      another : {l : K} {x : A} → x ≢ a → P l x ⊎ Q l x → Before f.1.0 l ⊎ ((f.1.0 ≡ l) × (x ≡ b))
      another {l} {x} ne (inl p) = f.1.1.1 l x (p, ne)
      another {l} {x} ne (inr q) = inl (apart f.1.0 l b x f.1.1.0.0 q)
  AreFirst-joined P Q (a ∷ (b ∷ (c ∷ xs))) ys zs apart j f g = absurd f

  -- two are enough where all else stands later
  pub AreFirst-full : {B : Type 0} (f : B → A) (P Q : K → A → Type 0) (found : Firsts B) → IsFull found
      → ((k l : K) (a x : A) → P k a → Q l x → Before k l) → AreFirst Before P (listed f found) → AreFirst Before (λ k x. P k x ⊎ Q k x) (listed f found)
  AreFirst-full f P Q Nothing full apart k = absurd full
  AreFirst-full f P Q (One a) full apart k = absurd full
  AreFirst-full {B} f P Q (Two a b) full apart k =
      ((k.0.0, least_first P Q k.0.0 (f a) apart k.0.1), (k.1.0, ((inl k.1.1.0.0, k.1.1.0.1), λ l x s. another s.1 s.0)))
    where
      another : {l : K} {x : A} → x ≢ f a → P l x ⊎ Q l x → Before k.1.0 l ⊎ ((k.1.0 ≡ l) × (x ≡ f b))
      another {l} {x} ne (inl p) = k.1.1.1 l x (p, ne)
      another {l} {x} ne (inr q) = inl (apart k.1.0 l (f b) x k.1.1.0.0 q)

pub AreFirst-map : {K L A B : Type 0} (BeforeK : K → K → Type 0) (BeforeL : L → L → Type 0) (g : K → L) (f : A → B) (P : K → A → Type 0) (xs : List A)
    → ((k l : K) → BeforeK k l → BeforeL (g k) (g l)) → ((k l : K) (a b : A) → P k a → P l b → f a ≡ f b → a ≡ b) → AreFirst BeforeK P xs
    → AreFirst BeforeL (IsMapped g f P) (map f xs)
AreFirst-map BeforeK BeforeL g f P [] keeps apart h = λ l y s. h s.0 s.1 s.4
AreFirst-map {K} {L} {A} {B} BeforeK BeforeL g f P (a ∷ []) keeps apart h =
    ((g h.0.0, ((h.0.0, a, refl, refl, h.0.1.0), λ l y s. later l y s (h.0.1.1 s.0 s.1 s.4))), λ l y s. s.3 ∙ ap f (h.1 s.0 s.1 s.4))
  where
    later : (l : L) (y : B) → (s : IsMapped g f P l y) → BeforeK h.0.0 s.0 ⊎ ((h.0.0 ≡ s.0) × (s.1 ≡ a)) → BeforeL (g h.0.0) l ⊎ ((g h.0.0 ≡ l) × (y ≡ f a))
    later l y s (inl b) = inl (subst (BeforeL (g h.0.0)) (sym s.2) (keeps h.0.0 s.0 b))
    later l y s (inr e) = inr (ap g e.0 ∙ sym s.2, s.3 ∙ ap f e.1)
AreFirst-map {K} {L} {A} {B} BeforeK BeforeL g f P (a ∷ (b ∷ [])) keeps apart h = (
  (g h.0.0, ((h.0.0, a, refl, refl, h.0.1.0), λ l y s. later l y s (h.0.1.1 s.0 s.1 s.4))),
  (
    g h.1.0,
    (
      ((h.1.0, b, refl, refl, h.1.1.0.0), λ e. h.1.1.0.1 (apart h.1.0 h.0.0 b a h.1.1.0.0 h.0.1.0 e)),
      λ l y s. another l y s.0 (h.1.1.1 s.0.0 s.0.1 (s.0.4, λ e. s.1 (s.0.3 ∙ ap f e))),
    ),
  ),
)
  where
    later : (l : L) (y : B) → (s : IsMapped g f P l y) → BeforeK h.0.0 s.0 ⊎ ((h.0.0 ≡ s.0) × (s.1 ≡ a)) → BeforeL (g h.0.0) l ⊎ ((g h.0.0 ≡ l) × (y ≡ f a))
    later l y s (inl b) = inl (subst (BeforeL (g h.0.0)) (sym s.2) (keeps h.0.0 s.0 b))
    later l y s (inr e) = inr (ap g e.0 ∙ sym s.2, s.3 ∙ ap f e.1)

    another : (l : L) (y : B) → (s : IsMapped g f P l y) → BeforeK h.1.0 s.0 ⊎ ((h.1.0 ≡ s.0) × (s.1 ≡ b)) → BeforeL (g h.1.0) l ⊎ ((g h.1.0 ≡ l) × (y ≡ f b))
    another l y s (inl b) = inl (subst (BeforeL (g h.1.0)) (sym s.2) (keeps h.1.0 s.0 b))
    another l y s (inr e) = inr (ap g e.0 ∙ sym s.2, s.3 ∙ ap f e.1)
AreFirst-map BeforeK BeforeL g f P (a ∷ (b ∷ (c ∷ xs))) keeps apart h = absurd h

-- a pair, at the place that is made of the places of its parts
abbrev pub IsPair : {K L M A B C : Type 0} → (K → L → M) → (A → B → C) → (K → A → Type 0) → (L → B → Type 0) → M → C → Type 0
IsPair {K} {L} {M} {A} {B} {C} g f P Q m z = (k : K) × (l : L) × (a : A) × (b : B) × (m ≡ g k l) × (z ≡ f a b) × P k a × Q l b

module _ {K L M A B C : Type 0} (BeforeK : K → K → Type 0) (BeforeL : L → L → Type 0) (BeforeM : M → M → Type 0) (g : K → L → M) (f : A → B → C)
    (P : K → A → Type 0) (Q : L → B → Type 0) (left : (k i : K) (l j : L) → BeforeK k i → BeforeM (g k l) (g i j))
    (right : (k i : K) (l j : L) → k ≡ i → BeforeL l j → BeforeM (g k l) (g i j)) (apart : (a b : A) (c d : B) → f a c ≡ f b d → (a ≡ b) × (c ≡ d)) where
  -- how a pair stands to another, by how their parts stand
  by_parts : (k : K) (l : L) (a : A) (c : B) (m : M) (z : C) (s : IsPair g f P Q m z) → BeforeK k s.0 ⊎ ((k ≡ s.0) × (s.2 ≡ a))
      → (s.2 ≡ a → BeforeL l s.1 ⊎ ((l ≡ s.1) × (s.3 ≡ c))) → BeforeM (g k l) m ⊎ ((g k l ≡ m) × (z ≡ f a c))
  by_parts k l a c m z s (inl b) h = inl (subst (BeforeM (g k l)) (sym s.4) (left k s.0 l s.1 b))
  by_parts k l a c m z s (inr e) h = go (h e.1)
    where
      go : BeforeL l s.1 ⊎ ((l ≡ s.1) × (s.3 ≡ c)) → BeforeM (g k l) m ⊎ ((g k l ≡ m) × (z ≡ f a c))
      go (inl b) = inl (subst (BeforeM (g k l)) (sym s.4) (right k s.0 l s.1 e.0 b))
      go (inr d) = inr (ap (λ x. g x l) e.0 ∙ ap (g s.0) d.0 ∙ sym s.4, s.5 ∙ ap (λ x. f x s.3) e.1 ∙ ap (f a) d.1)

  least_pair : (k : K) (l : L) (a : A) (c : B) → IsLeast BeforeK P k a → IsLeast BeforeL Q l c → IsLeast BeforeM (IsPair g f P Q) (g k l) (f a c)
  least_pair k l a c p q = ((k, l, a, c, refl, refl, p.0, q.0), λ m z s. by_parts k l a c m z s (p.1 s.0 s.2 s.6) (λ _. q.1 s.1 s.3 s.7))

  -- the second, where the second part has another
  second_right : (k : K) (l : L) (a : A) (c d : B) → IsLeast BeforeK P k a → IsLeast BeforeL (λ j y. Q j y × (y ≢ c)) l d
      → IsLeast BeforeM (λ m z. IsPair g f P Q m z × (z ≢ f a c)) (g k l) (f a d)
  second_right k l a c d p q = (
    ((k, l, a, d, refl, refl, p.0, q.0.0), λ e. q.0.1 ((apart a a d c e).1)),
    λ m z s. by_parts k l a d m z s.0 (p.1 s.0.0 s.0.2 s.0.6)
        (λ same. q.1 s.0.1 s.0.3 (s.0.7, λ e. s.1 (s.0.5 ∙ ap (λ x. f x s.0.3) same ∙ ap (f a) e))),
  )

  -- the second, where the first part alone has another
  second_left : (k : K) (l : L) (a b : A) (c : B) → IsLeast BeforeK (λ i x. P i x × (x ≢ a)) k b → IsLeast BeforeL Q l c
      → ((j : L) (y : B) → Q j y → y ≡ c) → IsLeast BeforeM (λ m z. IsPair g f P Q m z × (z ≢ f a c)) (g k l) (f b c)
  second_left k l a b c p q only = (
    ((k, l, b, c, refl, refl, p.0.0, q.0), λ e. p.0.1 ((apart b a c c e).0)),
    λ m z s. by_parts k l b c m z s.0
        (p.1 s.0.0 s.0.2 (s.0.6, λ e. s.1 (s.0.5 ∙ ap (λ x. f x s.0.3) e ∙ ap (f a) (only s.0.1 s.0.3 s.0.7)))) (λ _. q.1 s.0.1 s.0.3 s.0.7),
  )

  pub AreFirst-paired : (xs : List A) (ys : List B) → AreFirst BeforeK P xs → AreFirst BeforeL Q ys → AreFirst BeforeM (IsPair g f P Q) (paired f xs ys)
  AreFirst-paired [] ys p q = λ m z s. p s.0 s.2 s.6
  AreFirst-paired (a ∷ xs) [] p q = λ m z s. q s.1 s.3 s.7
  AreFirst-paired (a ∷ []) (c ∷ []) p q =
      ((g p.0.0 q.0.0, least_pair p.0.0 q.0.0 a c p.0.1 q.0.1), λ m z s. s.5 ∙ ap (λ x. f x s.3) (p.1 s.0 s.2 s.6) ∙ ap (f a) (q.1 s.1 s.3 s.7))
  AreFirst-paired (a ∷ (b ∷ [])) (c ∷ []) p q =
      ((g p.0.0 q.0.0, least_pair p.0.0 q.0.0 a c p.0.1 q.0.1), (g p.1.0 q.0.0, second_left p.1.0 q.0.0 a b c p.1.1 q.0.1 q.1))
  AreFirst-paired (a ∷ (b ∷ (d ∷ xs))) (c ∷ []) p q = absurd p
  AreFirst-paired (a ∷ []) (c ∷ (d ∷ [])) p q =
      ((g p.0.0 q.0.0, least_pair p.0.0 q.0.0 a c p.0.1 q.0.1), (g p.0.0 q.1.0, second_right p.0.0 q.1.0 a c d p.0.1 q.1.1))
  AreFirst-paired (a ∷ (b ∷ [])) (c ∷ (d ∷ [])) p q =
      ((g p.0.0 q.0.0, least_pair p.0.0 q.0.0 a c p.0.1 q.0.1), (g p.0.0 q.1.0, second_right p.0.0 q.1.0 a c d p.0.1 q.1.1))
  AreFirst-paired (a ∷ (b ∷ (e ∷ xs))) (c ∷ (d ∷ [])) p q = absurd p
  AreFirst-paired (a ∷ xs) (c ∷ (d ∷ (e ∷ ys))) p q = absurd q
