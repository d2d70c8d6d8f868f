-- The first fault of a family is one, and is found family by family.
use Rattle.std.proofs.Common.{Bool, true, false, IsTrue, ◌↔◌, ◌≡◌, ◌⊎◌, ◌<◌, ◌≤◌, ◌+◌, ◌++◌, ℕ, List, [], ◌∷◌, map, length, get_or, take, refl, ap, ◌∙◌, sym, subst, inl, inr, Option, None, Some, arith}
use Rattle.std.proofs.lemmas.List.{take_more, map-append}
use Rattle.binding_terms.proofs.Lists.{any_back, any_front, any_split}
use Rattle.sy_base.specs.FirstFault.{AreTold, ByPlace, Either, Faults, IsBefore, IsEarlierOf, IsFaultless, IsFirst, IsFirstFault, IsFirstFound, IsFoundAt, IsOneOf, IsToldFirst, OfCode, OfSome, Says, Then}
use Rattle.sy_base.specs.Rank.{rank}
use Rattle.sy_base.specs.declared.fault.Code.{Code}
use Rattle.sy_base.specs.declared.fault.Fault.{Fault}
use Rattle.sy_base.specs.declared.first_fault.Found.{Found}
use Rattle.sy_base.specs.declared.first_fault.Place.{Place}
use Rattle.sy_base.proofs.RankLemmas.{ranks_are_different}

-- ---- the order, by line, rank and place

abbrev Within : ℕ → ℕ → ℕ → ℕ → Type 0
Within r f s g = (r < s) ⊎ ((r ≡ s) × (f ≤ g))

within_trans : (r f s g t h : ℕ) → Within r f s g → Within s g t h → Within r f t h
within_trans r f s g t h (inl a) (inl b) = inl (omega (arith, a, b))
within_trans r f s g t h (inl a) (inr b) = inl (omega (arith, a, b.0))
within_trans r f s g t h (inr a) (inl b) = inl (omega (arith, a.0, b))
within_trans r f s g t h (inr a) (inr b) = inr (a.0 ∙ b.0, omega (arith, a.1, b.1))

abbrev Told : ℕ → ℕ → ℕ → ℕ → ℕ → ℕ → Type 0
Told k r f l s g = (k < l) ⊎ ((k ≡ l) × Within r f s g)

told_by_numbers : (k r f l s g m t h : ℕ) → Told k r f l s g → Told l s g m t h → Told k r f m t h
told_by_numbers k r f l s g m t h (inl a) (inl b) = inl (omega (arith, a, b))
told_by_numbers k r f l s g m t h (inl a) (inr b) = inl (omega (arith, a, b.0))
told_by_numbers k r f l s g m t h (inr a) (inl b) = inl (omega (arith, a.0, b))
told_by_numbers k r f l s g m t h (inr a) (inr b) = inr (a.0 ∙ b.0, within_trans r f s g t h a.1 b.1)

within_both : (r f s g : ℕ) → Within r f s g → Within s g r f → (r ≡ s) × (f ≡ g)
within_both r f s g (inl a) (inl b) = absurd (omega (arith, a, b))
within_both r f s g (inl a) (inr b) = absurd (omega (arith, a, b.0))
within_both r f s g (inr a) (inl b) = absurd (omega (arith, a.0, b))
within_both r f s g (inr a) (inr b) = (a.0, omega (arith, a.1, b.1))

told_both : (k r f l s g : ℕ) → Told k r f l s g → Told l s g k r f → (k ≡ l) × (r ≡ s) × (f ≡ g)
told_both k r f l s g (inl a) (inl b) = absurd (omega (arith, a, b))
told_both k r f l s g (inl a) (inr b) = absurd (omega (arith, a, b.0))
told_both k r f l s g (inr a) (inl b) = absurd (omega (arith, a.0, b))
told_both k r f l s g (inr a) (inr b) = let same = within_both r f s g a.1 b.1 in (a.0, same.0, same.1)

other_told : (k r f l s g : ℕ) → (Told k r f l s g → ⊥) → Told l s g k r f
other_told k r f l s g none = grind (arith, none)

pub IsToldFirst-trans : (a b c : Code) (p q r : Place) → IsToldFirst a p b q → IsToldFirst b q c r → IsToldFirst a p c r
IsToldFirst-trans a b c p q r one two = told_by_numbers p.counts_on (rank a) p.from q.counts_on (rank b) q.from r.counts_on (rank c) r.from one two

-- of two faults one is told first
pub IsToldFirst-other : (a b : Code) (p q : Place) → (IsToldFirst a p b q → ⊥) → IsToldFirst b q a p
IsToldFirst-other a b p q none = other_told p.counts_on (rank a) p.from q.counts_on (rank b) q.from none

pub told_or_other : (a b : Code) (p q : Place) (r : Bool) → (IsTrue r ↔ IsToldFirst a p b q) → r ≡ false → IsToldFirst b q a p
told_or_other a b p q r is none = IsToldFirst-other a b p q (λ told. (let never : r ≡ true = is.1 told in cc))

-- two that are told before each other have one code, and stand at one place
pub IsToldFirst-both : (a b : Code) (p q : Place) → IsToldFirst a p b q → IsToldFirst b q a p → (a ≡ b) × (p.counts_on ≡ q.counts_on) × (p.from ≡ q.from)
IsToldFirst-both a b p q one two =
    let same = told_both p.counts_on (rank a) p.from q.counts_on (rank b) q.from one two in (ranks_are_different a b same.1, same.0, same.2)

pub IsToldFirst-same : (a b : Code) (p q : Place) → a ≡ b → p ≡ q → IsToldFirst a p b q
IsToldFirst-same a b p q code place =
    inr (ap (λ (x : Place). x.counts_on) place, inr (ap rank code, omega (arith, ap (λ (x : Place). x.from) place)))

-- ---- the first is one

module _ {P : Type 0} (place_of : P → Place) where
  -- a family has one first fault at most, where what is told of its faults is told by code and place
  pub first_is_one : (faults : Faults P) → AreTold place_of faults → (line other : ℕ) (code also : Code) (detail words : List ℕ) → IsFirstFault place_of faults line code detail
      → IsFirstFault place_of faults other also words → (line ≡ other) × (code ≡ also) × (detail ≡ words)
  first_is_one faults told line other code also detail words one two =
      let same = IsToldFirst-both code also (place_of one.point) (place_of two.point)
      (one.is_first.first also two.point words two.is_first.stands) (two.is_first.first code one.point detail one.is_first.stands) in
      let is = told code one.point two.point detail words one.is_first.stands (subst (λ c. faults c two.point words) (sym same.0) two.is_first.stands) same.1 same.2 in
      (one.line_is ∙ is.0 ∙ sym two.line_is, same.0, is.1)

  -- a first fault is none of a right phase
  pub first_stands : (faults : Faults P) (line : ℕ) (code : Code) (detail : List ℕ) → IsFirstFault place_of faults line code detail → IsFaultless faults → ⊥
  first_stands faults line code detail one none = none code one.point detail one.is_first.stands

  -- the same faults have the same first one
  pub first_of_same : (faults others : Faults P) → ((c : Code) (p : P) (d : List ℕ) → faults c p d → others c p d) → ((c : Code) (p : P) (d : List ℕ) → others c p d → faults c p d)
      → (code : Code) (point : P) (detail : List ℕ) → IsFirst place_of faults code point detail → IsFirst place_of others code point detail
  first_of_same faults others there back code point detail is = record {
    stands = there code point detail is.stands;
    first = λ c p d x. is.first c p d (back c p d x);
  }

  -- the first by the places alone
  pub first_by_place : (faults : Faults P) (code : Code) (point : P) (detail : List ℕ) → IsFirst place_of faults code point detail
      → IsFirst (λ place. place) (ByPlace place_of faults) code (place_of point) detail
  first_by_place faults code point detail is = record {
    stands = record { point = point; there = refl; stands = is.stands };
    first = λ c p d x. subst (λ q. IsToldFirst code (place_of point) c q) (sym x.there) (is.first c x.point d x.stands);
  }

  -- ---- of two phases

  pub first_of_first : (one other : Faults P) (code : Code) (point : P) (detail : List ℕ) → IsFirst place_of one code point detail → IsFirst place_of (Then one other) code point detail
  first_of_first one other code point detail is = record {
    stands = inl is.stands;
    first = λ c p d x. elim x [ inl y ↦ is.first c p d y | inr y ↦ absurd (y.0 code point detail is.stands) ];
  }

  pub first_of_second : (one other : Faults P) → IsFaultless one → (code : Code) (point : P) (detail : List ℕ) → IsFirst place_of other code point detail
      → IsFirst place_of (Then one other) code point detail
  first_of_second one other none code point detail is = record {
    stands = inr (none, is.stands);
    first = λ c p d x. elim x [ inl y ↦ absurd (none c p d y) | inr y ↦ is.first c p d y.1 ];
  }

  -- which of two phases it is
  pub first_of_phases : (one other : Faults P) (code : Code) (point : P) (detail : List ℕ) → IsFirst place_of (Then one other) code point detail
      → IsFirst place_of one code point detail ⊎ (IsFaultless one × IsFirst place_of other code point detail)
  first_of_phases one other code point detail is = by_stands is.stands
    where
      by_stands : Then one other code point detail → IsFirst place_of one code point detail ⊎ (IsFaultless one × IsFirst place_of other code point detail)
      by_stands (inl stands) = inl (record { stands = stands; first = λ c p d x. is.first c p d (inl x) })
      by_stands (inr stands) = inr (stands.0, record { stands = stands.1; first = λ c p d x. is.first c p d (inr (stands.0, x)) })

  pub right_phases : (one other : Faults P) → IsFaultless one → IsFaultless other → IsFaultless (Then one other)
  right_phases one other none also c p d x = elim x [ inl y ↦ none c p d y | inr y ↦ also c p d y.1 ]

-- ---- what was found

module _ {D P : Type 0} (place_of : P → Place) (words_of : D → List ℕ) where
  abbrev pub IsLeast : Faults P → Option (Found D) → Type 0
  IsLeast faults found = IsFirstFound place_of words_of faults found

  -- what is told of the first that was found
  pub found_is_told : (faults : Faults P) (found : Found D) → IsLeast faults (Some found) → IsFirstFault place_of faults found.place.line found.code (words_of found.detail)
  found_is_told faults found is = record {
    point = is.is.point;
    line_is = ap (λ (x : Place). x.line) is.is.there;
    is_first = is.is.is_first;
  }

  -- a fault that says so is the first one of the family
  pub told_is_first : (faults : Faults P) (found : Found D) (fault : Fault) → IsLeast faults (Some found) → Says fault found.place.line found.code (words_of found.detail)
      → IsFirstFault place_of faults fault.line fault.code fault.detail
  told_is_first faults found fault is says =
      subst (λ l. IsFirstFault place_of faults l fault.code fault.detail) (sym says.0)
      (subst (λ c. IsFirstFault place_of faults found.place.line c fault.detail) (sym says.1)
      (subst (IsFirstFault place_of faults found.place.line found.code) (sym says.2) (found_is_told faults found is)))

  -- a family without faults has no first
  pub none_found : (faults : Faults P) → IsFaultless faults → IsLeast faults None
  none_found faults none = record { is = none }

  -- what is first of a family is so of another with the same faults
  pub found_same : (F G : Faults P) (r : Option (Found D)) → ((c : Code) (t : P) (d : List ℕ) → F c t d → G c t d)
      → ((c : Code) (t : P) (d : List ℕ) → G c t d → F c t d) → IsLeast F r → IsLeast G r
  found_same F G None there back f = record { is = λ o t w x. f.is o t w (back o t w x) }
  found_same F G (Some a) there back f = record {
    is = record { point = f.is.point; there = f.is.there; is_first = first_of_same place_of F G there back a.code f.is.point (words_of a.detail) f.is.is_first };
  }

  -- ---- of two families

  -- the first of a family stays the first where those of another one are told later
  pub found_stays : (F G : Faults P) (a : Found D) → IsLeast F (Some a) → ((c : Code) (t : P) (d : List ℕ) → G c t d → IsToldFirst a.code a.place c (place_of t))
      → IsLeast (Either F G) (Some a)
  found_stays F G a f later = record {
    is = record {
      point = f.is.point;
      there = f.is.there;
      is_first = record {
        stands = inl f.is.is_first.stands;
        first = λ c t d x. elim x [ inl y ↦ f.is.is_first.first c t d y | inr y ↦ subst (λ q. IsToldFirst a.code q c (place_of t)) f.is.there (later c t d y) ];
      };
    };
  }

  pub found_turned : (F G : Faults P) (r : Option (Found D)) → IsLeast (Either F G) r → IsLeast (Either G F) r
  found_turned F G r is = found_same (Either F G) (Either G F) r (λ c t d x. elim x [ inl y ↦ inr y | inr y ↦ inl y ]) (λ c t d x. elim x [ inl y ↦ inr y | inr y ↦ inl y ]) is

  both_none : (F G : Faults P) → IsLeast F None → IsLeast G None → IsLeast (Either F G) None
  both_none F G f g = record { is = λ c t d x. elim x [ inl y ↦ f.is c t d y | inr y ↦ g.is c t d y ] }

  one_alone : (F G : Faults P) (a : Found D) → IsLeast F (Some a) → IsLeast G None → IsLeast (Either F G) (Some a)
  one_alone F G a f g = found_stays F G a f (λ c t d x. absurd (g.is c t d x))

  one_before : (F G : Faults P) (a b : Found D) → IsLeast F (Some a) → IsLeast G (Some b) → IsBefore a b → IsLeast (Either F G) (Some a)
  one_before F G a b f g before = found_stays F G a f
      (λ c t d x. IsToldFirst-trans a.code b.code c a.place b.place (place_of t) before.told
      (subst (λ q. IsToldFirst b.code q c (place_of t)) (sym g.is.there) (g.is.is_first.first c t d x)))

  one_of_two : (F G : Faults P) (a b r : Found D) → IsOneOf a b r → IsLeast F (Some a) → IsLeast G (Some b) → IsLeast (Either F G) (Some r)
  one_of_two F G a b r (inl is) f g = subst (λ x. IsLeast (Either F G) (Some x)) (sym is.0) (one_before F G a b f g is.1)
  one_of_two F G a b r (inr is) f g = subst (λ x. IsLeast (Either F G) (Some x)) (sym is.0) (found_turned G F (Some b) (one_before G F b a g f is.1))

  -- the earlier of the first of two families is the first of both
  pub found_of_two : (F G : Faults P) (a b r : Option (Found D)) → IsEarlierOf a b r → IsLeast F a → IsLeast G b → IsLeast (Either F G) r
  found_of_two F G None None r is f g = subst (IsLeast (Either F G)) (sym is) (both_none F G f g)
  found_of_two F G None (Some b) r is f g = subst (IsLeast (Either F G)) (sym is) (found_turned G F (Some b) (one_alone G F b g f))
  found_of_two F G (Some a) None r is f g = subst (IsLeast (Either F G)) (sym is) (one_alone F G a f g)
  found_of_two F G (Some a) (Some b) None is f g = absurd is
  found_of_two F G (Some a) (Some b) (Some r) is f g = one_of_two F G a b r is f g

  -- ---- of two phases

  pub found_in_first : (F G : Faults P) (a : Found D) → IsLeast F (Some a) → IsLeast (Then F G) (Some a)
  found_in_first F G a f = record {
    is = record { point = f.is.point; there = f.is.there; is_first = first_of_first place_of F G a.code f.is.point (words_of a.detail) f.is.is_first };
  }

  pub found_in_second : (F G : Faults P) (r : Option (Found D)) → IsLeast F None → IsLeast G r → IsLeast (Then F G) r
  found_in_second F G None f g = record { is = right_phases place_of F G f.is g.is }
  found_in_second F G (Some b) f g = record {
    is = record { point = g.is.point; there = g.is.there; is_first = first_of_second place_of F G f.is b.code g.is.point (words_of b.detail) g.is.is_first };
  }

  -- ---- of some members of a list

  module _ {A : Type 0} (F : A → Faults P) where
    pub none_of_none : IsLeast (OfSome F []) None
    none_of_none = none_found (OfSome F []) (λ c t d x. x.some)

    -- one member more is looked at
    pub found_push : (xs : List A) (x : A) (a b r : Option (Found D)) → IsEarlierOf a b r → IsLeast (OfSome F xs) a → IsLeast (F x) b → IsLeast (OfSome F (xs ++ x ∷ [])) r
    found_push xs x a b r is all one = found_same (Either (OfSome F xs) (F x)) (OfSome F (xs ++ x ∷ [])) r
        (λ c t d f. record { some = elim f [ inl l ↦ any_front (λ m. F m c t d) xs (x ∷ []) l.some | inr y ↦ any_back (λ m. F m c t d) xs (x ∷ []) (inl y) ] })
        (λ c t d f. elim (any_split (λ m. F m c t d) xs (x ∷ []) f.some) [ inl l ↦ inl (record { some = l }) | inr m ↦ elim m [ inl y ↦ inr y | inr never ↦ absurd never ] ])
        (found_of_two (OfSome F xs) (F x) a b r is all one)

    -- as in a loop over what is seen as the members
    pub found_more : {X : Type 0} (view : X → A) (xs : List X) (i : ℕ) (d : X) (a b r : Option (Found D)) → i < length xs → IsEarlierOf a b r
        → IsLeast (OfSome F (map view (take i xs))) a → IsLeast (F (view (get_or xs i d))) b → IsLeast (OfSome F (map view (take (i + 1) xs))) r
    found_more view xs i d a b r lt is all one =
        let more : map view (take i xs) ++ view (get_or xs i d) ∷ [] ≡ map view (take (i + 1) xs) =
        sym (map-append view (take i xs) (get_or xs i d ∷ [])) ∙ ap (map view) (sym (take_more xs i d lt)) in
        subst (λ ys. IsLeast (OfSome F ys) r) more (found_push (map view (take i xs)) (view (get_or xs i d)) a b r is all one)

    -- the same, of a member that owns memory
    pub found_more_item : {X : Type 0} (view : X → A) (xs : List X) (i : ℕ) (x : X) (a b r : Option (Found D)) → i < length xs → x ≡ get_or xs i x → IsEarlierOf a b r
        → IsLeast (OfSome F (map view (take i xs))) a → IsLeast (F (view x)) b → IsLeast (OfSome F (map view (take (i + 1) xs))) r
    found_more_item view xs i x a b r lt at is all one = found_more view xs i x a b r lt is all (subst (λ y. IsLeast (F (view y)) b) at one)

    -- the same, where members are seen twice over
    pub found_more_seen : {X W : Type 0} (f : W → A) (g : X → W) (xs : List X) (i : ℕ) (d : X) (a b r : Option (Found D)) → i < length xs → IsEarlierOf a b r
        → IsLeast (OfSome F (map f (map g (take i xs)))) a → IsLeast (F (f (g (get_or xs i d)))) b → IsLeast (OfSome F (map f (map g (take (i + 1) xs)))) r
    found_more_seen f g xs i d a b r lt is all one =
        let more : map f (map g (take i xs)) ++ f (g (get_or xs i d)) ∷ [] ≡ map f (map g (take (i + 1) xs)) =
        sym (map-append f (map g (take i xs)) (g (get_or xs i d) ∷ []))
        ∙ ap (map f) (sym (map-append g (take i xs) (get_or xs i d ∷ [])) ∙ ap (map g) (sym (take_more xs i d lt))) in
        subst (λ ys. IsLeast (OfSome F ys) r) more (found_push (map f (map g (take i xs))) (f (g (get_or xs i d))) a b r is all one)

  -- ---- of one point

  -- a fault of the family that was found is the first, where all others have its code and its place
  pub found_alone : (F : Faults P) (c : Code) (t : P) (d : List ℕ) (f : Found D) → IsFoundAt place_of words_of c t d f → F c t d
      → ((o : Code) (s : P) (w : List ℕ) → F o s w → (o ≡ c) × (place_of s ≡ place_of t)) → IsLeast F (Some f)
  found_alone F c t d f found stands only = record {
    is = record {
      point = t;
      there = found.there;
      is_first = record {
        stands = subst (λ w. F f.code t w) (sym found.detail_is) (subst (λ o. F o t d) (sym found.code_is) stands);
        first = λ o s w x. IsToldFirst-same f.code o (place_of t) (place_of s) (found.code_is ∙ sym (only o s w x).0) (sym (only o s w x).1);
      };
    };
  }

  -- ---- of one code

  module _ (c : Code) (words : P → List ℕ) where
    -- the only point that is so
    pub found_one : (Q : P → Type 0) (t : P) (f : Found D) → IsFoundAt place_of words_of c t (words t) f → Q t → ((s : P) → Q s → s ≡ t) → IsLeast (OfCode c words Q) (Some f)
    found_one Q t f found is only = found_alone (OfCode c words Q) c t (words t) f found (refl, refl, is) (λ o s w x. (x.0, ap place_of (only s x.2)))

    -- one point more is so
    pub found_point_more : (Q R : P → Type 0) (t : P) (f : Found D) (a r : Option (Found D)) → ((s : P) → Q s → R s) → ((s : P) → R s → Q s ⊎ (s ≡ t)) → R t
        → IsFoundAt place_of words_of c t (words t) f → IsEarlierOf a (Some f) r → IsLeast (OfCode c words Q) a → IsLeast (OfCode c words R) r
    found_point_more Q R t f a r kept cases new found is all = found_same (Either (OfCode c words Q) (OfCode c words (λ s. s ≡ t))) (OfCode c words R) r
        (λ o s d x. elim x [ inl y ↦ (y.0, y.1, kept s y.2) | inr y ↦ (y.0, y.1, subst R (sym y.2) new) ])
        (λ o s d x. elim (cases s x.2) [ inl y ↦ inl (x.0, x.1, y) | inr y ↦ inr (x.0, x.1, y) ])
        (found_of_two (OfCode c words Q) (OfCode c words (λ s. s ≡ t)) a (Some f) r is all (found_one (λ s. s ≡ t) t f found refl (λ s y. y)))

    -- the same points are so
    pub found_point_same : (Q R : P → Type 0) (r : Option (Found D)) → ((s : P) → Q s → R s) → ((s : P) → R s → Q s) → IsLeast (OfCode c words Q) r → IsLeast (OfCode c words R) r
    found_point_same Q R r there back = found_same (OfCode c words Q) (OfCode c words R) r (λ o s d x. (x.0, x.1, there s x.2)) (λ o s d x. (x.0, x.1, back s x.2))
