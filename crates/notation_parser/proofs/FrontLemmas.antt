-- The first two of what has fronts: of two properties put together, and of what is told with its front.
use Rattle.std.proofs.Common.{◌≡◌, ◌≢◌, ◌⊎◌, ◌↔◌, List, [], ◌∷◌, map, inl, inr, refl, ap, ◌∙◌, sym, subst, Option, Some, None}
use Rattle.term_reader.specs.Firsts.{AreFirst, IsLeast}
use Rattle.notation_parser.specs.Fronts.{IsLeastAt, IsNext, AreFirstAt, IsEarlier, IsOther, then_next, first_of, AreTwoMerged, AreMerged, AreTold}

-- one property or the other
abbrev pub Either : {F K A : Type 0} → (P Q : F → K → A → Type 0) → F → K → A → Type 0
Either P Q f k x = P f k x ⊎ Q f k x

-- of two readings the one stands first whose front does, and that of the first property where the second's does not
pub record AreRanked {F K A : Type 0} (BeforeF : F → F → Type 0) (Before : K → K → Type 0) (P Q : F → K → A → Type 0) : Type 0 where
  pub by_front : (f g : F) (k l : K) (a x : A) → P f k a → Q g l x → BeforeF g f → Before l k
  pub else_first : (f g : F) (k l : K) (a x : A) → P f k a → Q g l x → (BeforeF g f → ⊥) → Before k l

module _ {F K A : Type 0} (Before : K → K → Type 0) where
  least_same : (P Q : F → K → A → Type 0) (a : A × F) → ((f : F) (k : K) (x : A) → P f k x ↔ Q f k x) → IsLeastAt Before P a → IsLeastAt Before Q a
  least_same P Q a h p = (p.0, (h a.1 p.0 a.0).0 p.1, λ f k x q. p.2 f k x ((h f k x).1 q))

  next_same : (P Q : F → K → A → Type 0) (a : A) (b : Option (A × F)) → ((f : F) (k : K) (x : A) → P f k x ↔ Q f k x) → IsNext Before P a b → IsNext Before Q a b
  next_same P Q a None h n = λ f k x q. n f k x ((h f k x).1 q)
  next_same P Q a (Some b) h n =
      least_same (λ f k x. P f k x × (x ≢ a)) (λ f k x. Q f k x × (x ≢ a)) b (λ f k x. (λ p. ((h f k x).0 p.0, p.1), λ q. ((h f k x).1 q.0, q.1))) n

  -- of a property that says the same
  pub first_same : (P Q : F → K → A → Type 0) (xs : List (A × F)) → ((f : F) (k : K) (x : A) → P f k x ↔ Q f k x) → AreFirstAt Before P xs → AreFirstAt Before Q xs
  first_same P Q [] h p = λ f k x q. p f k x ((h f k x).1 q)
  first_same P Q (a ∷ []) h p = (least_same P Q a h p.0, next_same P Q a.0 None h p.1)
  first_same P Q (a ∷ (b ∷ [])) h p = (least_same P Q a h p.0, next_same P Q a.0 (Some b) h p.1)
  first_same P Q (a ∷ (b ∷ (c ∷ xs))) h p = absurd p

  -- the first two without their fronts
  pub first_alone : (P : F → K → A → Type 0) (xs : List (A × F)) → AreFirstAt Before P xs → AreFirst Before (λ k x. (f : F) × P f k x) (map (λ a. a.0) xs)
  first_alone P [] p = λ k x h. p h.0 k x h.1
  first_alone P (a ∷ []) p = ((p.0.0, ((a.1, p.0.1), λ l x h. p.0.2 h.0 l x h.1)), λ l x h. p.1 h.0 l x h.1)
  first_alone P (a ∷ (b ∷ [])) p = (
    (p.0.0, ((a.1, p.0.1), λ l x h. p.0.2 h.0 l x h.1)),
    (p.1.0, (((b.1, p.1.1.0), p.1.1.1), λ l x h. p.1.2 h.0.0 l x (h.0.1, h.1))),
  )
  first_alone P (a ∷ (b ∷ (c ∷ xs))) p = absurd p

  first_next : (P : F → K → A → Type 0) (a : A × F) (b : Option (A × F)) → IsLeastAt Before P a → IsNext Before P a.0 b → AreFirstAt Before P (then_next a b)
  first_next P a None p n = (p, n)
  first_next P a (Some b) p n = (p, n)

  parts_of : (P : F → K → A → Type 0) (a : A × F) (xs : List (A × F)) → AreFirstAt Before P (a ∷ xs) → IsLeastAt Before P a × IsNext Before P a.0 (first_of xs)
  parts_of P a [] p = p
  parts_of P a (b ∷ []) p = p
  parts_of P a (b ∷ (c ∷ xs)) p = absurd p

  -- two are enough where all else stands later
  pub first_enough : (P Q : F → K → A → Type 0) (a b : A × F) → ((f g : F) (k l : K) (x y : A) → P f k x → Q g l y → Before k l)
      → AreFirstAt Before P (a ∷ (b ∷ [])) → AreFirstAt Before (Either P Q) (a ∷ (b ∷ []))
  first_enough P Q a b apart p = (
    (p.0.0, inl p.0.1, λ g l x s. elim s [ inl h ↦ p.0.2 g l x h | inr h ↦ inl (apart a.1 g p.0.0 l a.0 x p.0.1 h) ]),
    (p.1.0, (inl p.1.1.0, p.1.1.1), λ g l x s. another g l x s.1 s.0),
  )
    where
      another : (g : F) (l : K) (x : A) → x ≢ a.0 → Either P Q g l x → Before p.1.0 l ⊎ ((p.1.0 ≡ l) × (x ≡ b.0))
      another g l x ne (inl h) = p.1.2 g l x (h, ne)
      another g l x ne (inr h) = inl (apart b.1 g p.1.0 l b.0 x p.1.1.0 h)

module _ {F K A : Type 0} (BeforeF : F → F → Type 0) (Before : K → K → Type 0) (trans : (j k l : K) → Before j k → Before k l → Before j l) where
  -- behind the least of the other property all of it stands
  behind_least : (Q : F → K → A → Type 0) (c : A × F) (k l : K) (x : A) (g : F) (q : IsLeastAt Before Q c) → Before k q.0 → Q g l x → Before k l
  behind_least Q c k l x g q before h = go (q.2 g l x h)
    where
      go : Before q.0 l ⊎ ((q.0 ≡ l) × (x ≡ c.0)) → Before k l
      go (inl b) = trans k q.0 l before b
      go (inr e) = subst (Before k) e.0 before

  least_first : (P Q : F → K → A → Type 0) (a c : A × F) → AreRanked BeforeF Before P Q → IsLeastAt Before P a → IsLeastAt Before Q c → (BeforeF c.1 a.1 → ⊥)
      → IsLeastAt Before (Either P Q) a
  least_first P Q a c ranked p q none =
      let first : Before p.0 q.0 = ranked.else_first a.1 c.1 p.0 q.0 a.0 c.0 p.1 q.1 none in
      (p.0, inl p.1, λ g l x s. elim s [ inl h ↦ p.2 g l x h | inr h ↦ inl (behind_least Q c p.0 l x g q first h) ])

  least_second : (P Q : F → K → A → Type 0) (a c : A × F) → AreRanked BeforeF Before P Q → IsLeastAt Before P a → IsLeastAt Before Q c → BeforeF c.1 a.1
      → IsLeastAt Before (Either P Q) c
  least_second P Q a c ranked p q front =
      let first : Before q.0 p.0 = ranked.by_front a.1 c.1 p.0 q.0 a.0 c.0 p.1 q.1 front in
      (q.0, inr q.1, λ g l x s. elim s [ inl h ↦ inl (behind_least P a q.0 l x g p first h) | inr h ↦ q.2 g l x h ])

  -- what is not the one, of either property
  without : (P Q : F → K → A → Type 0) (a : A) (f : F) (k : K) (x : A)
      → Either (λ f k x. P f k x × (x ≢ a)) (λ f k x. Q f k x × (x ≢ a)) f k x ↔ (Either P Q f k x × (x ≢ a))
  without P Q a f k x = (λ s. elim s [ inl h ↦ (inl h.0, h.1) | inr h ↦ (inr h.0, h.1) ], λ s. elim s.0 [ inl h ↦ inl (h, s.1) | inr h ↦ inr (h, s.1) ])

  ranked_without : (P Q : F → K → A → Type 0) (a : A) → AreRanked BeforeF Before P Q
      → AreRanked BeforeF Before (λ f k x. P f k x × (x ≢ a)) (λ f k x. Q f k x × (x ≢ a))
  ranked_without P Q a ranked = record {
    by_front = λ f g k l x y p q. ranked.by_front f g k l x y p.0 q.0;
    else_first = λ f g k l x y p q. ranked.else_first f g k l x y p.0 q.0;
  }

  -- the next one of two properties is the earlier one of theirs
  next_both : (P Q : F → K → A → Type 0) (a : A) (b d z : Option (A × F)) → AreRanked BeforeF Before P Q → IsNext Before P a b → IsNext Before Q a d
      → IsEarlier BeforeF b d z → IsNext Before (Either P Q) a z
  next_both P Q a None None z ranked p q e =
      subst (IsNext Before (Either P Q) a) (sym e) (λ f k x s. elim s [ inl h ↦ p f k x h | inr h ↦ q f k x h ])
  next_both P Q a None (Some d) z ranked p q e =
      subst (IsNext Before (Either P Q) a) (sym e)
      (q.0, (inr q.1.0, q.1.1), λ f k x s. elim s.0 [ inl h ↦ absurd (s.1 (p f k x h)) | inr h ↦ q.2 f k x (h, s.1) ])
  next_both P Q a (Some b) None z ranked p q e =
      subst (IsNext Before (Either P Q) a) (sym e)
      (p.0, (inl p.1.0, p.1.1), λ f k x s. elim s.0 [ inl h ↦ p.2 f k x (h, s.1) | inr h ↦ absurd (s.1 (q f k x h)) ])
  next_both P Q a (Some b) (Some d) z ranked p q (inl e) =
      subst (IsNext Before (Either P Q) a) (sym e.1)
      (least_same Before _ (λ f k x. Either P Q f k x × (x ≢ a)) d (without P Q a)
      (least_second (λ f k x. P f k x × (x ≢ a)) (λ f k x. Q f k x × (x ≢ a)) b d (ranked_without P Q a ranked) p q e.0))
  next_both P Q a (Some b) (Some d) z ranked p q (inr e) =
      subst (IsNext Before (Either P Q) a) (sym e.1)
      (least_same Before _ (λ f k x. Either P Q f k x × (x ≢ a)) b (without P Q a)
      (least_first (λ f k x. P f k x × (x ≢ a)) (λ f k x. Q f k x × (x ≢ a)) b d (ranked_without P Q a ranked) p q e.0))

  -- the first of two that is not this is the next one after this
  other_next : (Q : F → K → A → Type 0) (x : A) (c : A × F) (d z : Option (A × F)) → IsLeastAt Before Q c → IsNext Before Q c.0 d → IsOther x c d z → IsNext Before Q x z
  other_next Q x c d z q n (inl e) = subst (IsNext Before Q x) (sym e.1) (subst (λ y. IsNext Before Q y d) e.0 n)
  other_next Q x c d z q n (inr e) = subst (IsNext Before Q x) (sym e.1) (q.0, (q.1, e.0), λ f k y h. q.2 f k y h.0)

  two_merged : (P Q : F → K → A → Type 0) (a c : A × F) (b d : Option (A × F)) (zs : List (A × F)) → AreRanked BeforeF Before P Q
      → IsLeastAt Before P a → IsNext Before P a.0 b → IsLeastAt Before Q c → IsNext Before Q c.0 d → AreTwoMerged BeforeF a b c d zs → AreFirstAt Before (Either P Q) zs
  two_merged P Q a c b d zs ranked p m q n (inl (front, (rest, next, other, chosen, e))) =
      subst (AreFirstAt Before (Either P Q)) (sym e)
      (first_next Before (Either P Q) c next (least_second P Q a c ranked p q front)
      (next_both P Q c.0 rest d next ranked (other_next P c.0 a b rest p m other) n chosen))
  two_merged P Q a c b d zs ranked p m q n (inr (none, (rest, next, other, chosen, e))) =
      subst (AreFirstAt Before (Either P Q)) (sym e)
      (first_next Before (Either P Q) a next (least_first P Q a c ranked p q none)
      (next_both P Q a.0 b rest next ranked m (other_next Q a.0 c d rest q n other) chosen))

  -- of two properties, after the two lists are merged
  pub first_merged : (P Q : F → K → A → Type 0) (xs ys zs : List (A × F)) → AreRanked BeforeF Before P Q → AreFirstAt Before P xs → AreFirstAt Before Q ys
      → AreMerged BeforeF xs ys zs → AreFirstAt Before (Either P Q) zs
  first_merged P Q [] ys zs ranked p q e =
      subst (AreFirstAt Before (Either P Q)) (sym e)
      (first_same Before Q (Either P Q) ys (λ f k x. (λ h. inr h, λ s. elim s [ inl h ↦ absurd (p f k x h) | inr h ↦ h ])) q)
  first_merged P Q (a ∷ xs) [] zs ranked p q e =
      subst (AreFirstAt Before (Either P Q)) (sym e)
      (first_same Before P (Either P Q) (a ∷ xs) (λ f k x. (λ h. inl h, λ s. elim s [ inl h ↦ h | inr h ↦ absurd (q f k x h) ])) p)
  first_merged P Q (a ∷ xs) (c ∷ ys) zs ranked p q e =
      let m = parts_of Before P a xs p in
      let n = parts_of Before Q c ys q in
      two_merged P Q a c (first_of xs) (first_of ys) zs ranked m.0 m.1 n.0 n.1 e

pub told_as : {T B : Type 0} (S U : T → B → Type 0) (ts : List T) (xs : List B) → ((t : T) (x : B) → S t x → U t x) → AreTold S ts xs → AreTold U ts xs
told_as S U [] [] h s = tt
told_as S U [] (x ∷ xs) h s = absurd s
told_as S U (t ∷ ts) [] h s = absurd s
told_as S U (t ∷ ts) (x ∷ xs) h s = (h t x s.0, told_as S U ts xs h s.1)

-- What is told of the first two of something, with the first front of each.
module _ {F K T A : Type 0} (Before : K → K → Type 0) (trans : (j k l : K) → Before j k → Before k l → Before j l) (tell : T → A) (R : F → K → T → Type 0)
    (once : (f g : F) (k l : K) (t u : T) → R f k t → R g l u → tell t ≡ tell u → t ≡ u) where
  abbrev pub IsTold : F → K → A → Type 0
  IsTold f k x = (t : T) × (x ≡ tell t) × R f k t

  -- for each place of it there is one with this front that is not later
  abbrev pub IsItsFront : T → F → Type 0
  IsItsFront t f = (g : F) (l : K) → R g l t → (k : K) × R f k t × (Before k l ⊎ (k ≡ l))

  abbrev Reads : K → T → Type 0
  Reads k t = (f : F) × R f k t

  -- how a place stands to another, by the least
  behind : (j k l : K) (t u : T) (x : A) → Before j k ⊎ (j ≡ k) → x ≡ tell u → Before k l ⊎ ((k ≡ l) × (u ≡ t)) → Before j l ⊎ ((j ≡ l) × (x ≡ tell t))
  behind j k l t u x (inl b) e (inl d) = inl (trans j k l b d)
  behind j k l t u x (inr c) e (inl d) = inl (subst (λ y. Before y l) (sym c) d)
  behind j k l t u x (inl b) e (inr d) = inl (subst (Before j) d.0 b)
  behind j k l t u x (inr c) e (inr d) = inr (c ∙ d.0, e ∙ ap tell d.1)

  least_told : (t : T) (f : F) → (k : K) × IsLeast Before Reads k t → IsItsFront t f → IsLeastAt Before IsTold (tell t, f)
  least_told t f p front =
      let here = front p.1.0.0 p.0 p.1.0.1 in
      (here.0, (t, refl, here.1), λ g l x s. behind here.0 p.0 l t s.0 x here.2 s.1 (p.1.1 l s.0 (g, s.2)))

  next_told : (t b : T) (k : K) (f g : F) → R g k t → (m : K) × IsLeast Before (λ l x. Reads l x × (x ≢ t)) m b → IsItsFront b f
      → IsLeastAt Before (λ g l x. IsTold g l x × (x ≢ tell t)) (tell b, f)
  next_told t b k f g r p front =
      let least = p.1.0.0 in
      let here = front least.0 p.0 least.1 in (
        here.0,
        ((b, refl, here.1), λ e. p.1.0.1 (once f g here.0 k b t here.1 r e)),
        λ h l x s. behind here.0 p.0 l b s.0.0 x here.2 s.0.1 (p.1.1 l s.0.0 ((h, s.0.2), λ e. s.1 (s.0.1 ∙ ap tell e))),
      )

  pub first_placed : (ts : List T) (xs : List (A × F)) → AreFirst Before Reads ts → AreTold (λ t x. (x.0 ≡ tell t) × IsItsFront t x.1) ts xs → AreFirstAt Before IsTold xs
  first_placed [] [] p s = λ f k x h. p k h.0 (f, h.2)
  first_placed [] (x ∷ xs) p s = absurd s
  first_placed (t ∷ ts) [] p s = absurd s
  first_placed (t ∷ []) (x ∷ []) p s =
      subst (λ y. IsLeastAt Before IsTold (y, x.1) × IsNext Before IsTold y None) (sym s.0.0)
      (least_told t x.1 p.0 s.0.1, λ f k y h. h.1 ∙ ap tell (p.1 k h.0 (f, h.2)))
  first_placed (t ∷ []) (x ∷ (y ∷ xs)) p s = absurd s.1
  first_placed (t ∷ (b ∷ ts)) (x ∷ []) p s = absurd s.1
  first_placed (t ∷ (b ∷ [])) (x ∷ (y ∷ [])) p s =
      let least = p.0.1.0 in
      subst (λ z. IsLeastAt Before IsTold (z, x.1) × IsNext Before IsTold z (Some y)) (sym s.0.0) (
        least_told t x.1 p.0 s.0.1,
        subst (λ z. IsLeastAt Before (λ g l u. IsTold g l u × (u ≢ tell t)) (z, y.1)) (sym s.1.0.0) (next_told t b p.0.0 y.1 least.0 least.1 p.1 s.1.0.1),
      )
  first_placed (t ∷ (b ∷ [])) (x ∷ (y ∷ (z ∷ xs))) p s = absurd s.1.1
  first_placed (t ∷ (b ∷ (c ∷ ts))) xs p s = absurd p
