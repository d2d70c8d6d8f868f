-- Names that are kept, and names that stand in what was read.
use Rattle.std.proofs.Common.{◌≡◌, ◌≢◌, ◌⊎◌, ◌+◌, ◌<◌, ℕ, zero, suc, List, [], ◌∷◌, ◌++◌, length, take, get_or, map, inl, inr, refl, ap, ◌∙◌, sym, subst, arith, Some, None, slice_get}
use Rattle.std.specs.List.{AllByRecursion}
use Rattle.std.proofs.lemmas.List.{take_more}
use Rattle.binding_terms.specs.Numbered.{AnyByRecursion}
use Rattle.scheme_terms.specs.SchemeScope.{AreDifferentNames}
use Rattle.scheme_terms.specs.declared.scheme.MetaDecl.{MetaDecl}
use Rattle.rule_schemes.specs.NewNames.{AreInOrder, StandsBefore}
use Rattle.rule_schemes.specs.Reading.{Token}
use Rattle.rule_schemes.specs.Rules.{JudgmentScheme}
use Rattle.rule_schemes.specs.Statement.{OccursInJudgment}
use Rattle.judgments.specs.Collected.{IsAmong}
use Rattle.judgments.specs.Standing.{IsReadFrom, IsRead, AreKept}
use Rattle.judgments.proofs.OneOrder.{first_before, rest_in_order, not_again, one_place}

pub among_place : (xs : List MetaDecl) (w : List ℕ) → IsAmong w xs → (m : ℕ) × (d : MetaDecl) × (slice_get xs m ≡ Some d) × (d.name ≡ w)
among_place [] w a = absurd a
among_place (x ∷ xs) w (inl e) = (zero, x, refl, e)
among_place (x ∷ xs) w (inr a) = let k = among_place xs w a in (suc k.0, k.1, k.2, k.3)

pub names_each : (w : List ℕ) (xs : List MetaDecl) → AllByRecursion (λ v. w ≢ v) (map (λ (m : MetaDecl). m.name) xs) → AllByRecursion (λ (m : MetaDecl). w ≢ m.name) xs
names_each w [] h = tt
names_each w (x ∷ xs) h = (h.0, names_each w xs h.1)

each_names : (w : List ℕ) (xs : List MetaDecl) → AllByRecursion (λ (m : MetaDecl). w ≢ m.name) xs → AllByRecursion (λ v. w ≢ v) (map (λ (m : MetaDecl). m.name) xs)
each_names w [] h = tt
each_names w (x ∷ xs) h = (h.0, each_names w xs h.1)

apart_append : (w : List ℕ) (xs ys : List MetaDecl) → AllByRecursion (λ v. w ≢ v) (map (λ (m : MetaDecl). m.name) xs) → (IsAmong w ys → ⊥)
    → AllByRecursion (λ v. w ≢ v) (map (λ (m : MetaDecl). m.name) (xs ++ ys))
apart_append w [] [] h none = tt
apart_append w [] (y ∷ ys) h none = (λ e. none (inl (sym e)), apart_append w [] ys tt (λ a. none (inr a)))
apart_append w (x ∷ xs) ys h none = (h.0, apart_append w xs ys h.1 none)

-- two lists without a common name
pub different_append : (xs ys : List MetaDecl) → AreDifferentNames (map (λ (m : MetaDecl). m.name) xs) → AreDifferentNames (map (λ (m : MetaDecl). m.name) ys)
    → ((w : List ℕ) → IsAmong w xs → IsAmong w ys → ⊥) → AreDifferentNames (map (λ (m : MetaDecl). m.name) (xs ++ ys))
different_append [] ys h k none = k
different_append (x ∷ xs) ys h k none =
    (apart_append x.name xs ys h.0 (none x.name (inl refl)), different_append xs ys h.1 k (λ w a. none w (inr a)))

order_first : (ts : List Token) (m : MetaDecl) (ms : List MetaDecl) → AreInOrder ts ms → ((w : List ℕ) → IsAmong w ms → (m.name ≢ w) × StandsBefore m.name w ts) → AreInOrder ts (m ∷ ms)
order_first ts m [] h f = tt
order_first ts m (n ∷ ms) h f = let k = f n.name (inl refl) in (k.0, k.1, h)

module _ (Kept Other : List ℕ → Type 0) where
  pub kept_among : (xs ys : List MetaDecl) (w : List ℕ) → AreKept Kept Other xs ys → IsAmong w ys → IsAmong w xs × Kept w
  kept_among [] ys w h a = absurd (subst (IsAmong w) h a)
  kept_among (x ∷ xs) ys w (inl h) a = which (kept_among xs (h.1).0 w (h.1).2) (subst (IsAmong w) (h.1).1 a)
    where
      which : (IsAmong w (h.1).0 → IsAmong w xs × Kept w) → IsAmong w (x ∷ (h.1).0) → IsAmong w (x ∷ xs) × Kept w
      which more (inl e) = (inl e, subst Kept e h.0)
      which more (inr b) = let k = more b in (inr k.0, k.1)
  kept_among (x ∷ xs) ys w (inr h) a = let k = kept_among xs ys w h.1 a in (inr k.0, k.1)

  pub among_kept : (xs ys : List MetaDecl) (w : List ℕ) → AreKept Kept Other xs ys → IsAmong w xs → IsAmong w ys ⊎ Other w
  among_kept [] ys w h a = absurd a
  among_kept (x ∷ xs) ys w (inl h) (inl e) = inl (subst (IsAmong w) (sym (h.1).1) (inl e))
  among_kept (x ∷ xs) ys w (inl h) (inr a) = which (among_kept xs (h.1).0 w (h.1).2 a)
    where
      which : IsAmong w (h.1).0 ⊎ Other w → IsAmong w ys ⊎ Other w
      which (inl b) = inl (subst (IsAmong w) (sym (h.1).1) (inr b))
      which (inr o) = inr o
  among_kept (x ∷ xs) ys w (inr h) (inl e) = inr (subst Other e h.0)
  among_kept (x ∷ xs) ys w (inr h) (inr a) = among_kept xs ys w h.1 a

  pub kept_each : (P : MetaDecl → Type 0) (xs ys : List MetaDecl) → AreKept Kept Other xs ys → AllByRecursion P xs → AllByRecursion P ys
  kept_each P [] ys h all = subst (AllByRecursion P) (sym h) tt
  kept_each P (x ∷ xs) ys (inl h) all = subst (AllByRecursion P) (sym (h.1).1) (all.0, kept_each P xs (h.1).0 (h.1).2 all.1)
  kept_each P (x ∷ xs) ys (inr h) all = kept_each P xs ys h.1 all.1

  pub kept_differ : (xs ys : List MetaDecl) → AreKept Kept Other xs ys → AreDifferentNames (map (λ (m : MetaDecl). m.name) xs) → AreDifferentNames (map (λ (m : MetaDecl). m.name) ys)
  kept_differ [] ys h differ = subst (λ (l : List MetaDecl). AreDifferentNames (map (λ (m : MetaDecl). m.name) l)) (sym h) tt
  kept_differ (x ∷ xs) ys (inl h) differ =
      subst (λ (l : List MetaDecl). AreDifferentNames (map (λ (m : MetaDecl). m.name) l)) (sym (h.1).1)
      (each_names x.name (h.1).0 (kept_each (λ (m : MetaDecl). x.name ≢ m.name) xs (h.1).0 (h.1).2 (names_each x.name xs differ.0)), kept_differ xs (h.1).0 (h.1).2 differ.1)
  kept_differ (x ∷ xs) ys (inr h) differ = kept_differ xs ys h.1 differ.1

  pub kept_order : (ts : List Token) (xs ys : List MetaDecl) → AreKept Kept Other xs ys → AreDifferentNames (map (λ (m : MetaDecl). m.name) xs) → AreInOrder ts xs → AreInOrder ts ys
  kept_order ts [] ys h differ order = subst (AreInOrder ts) (sym h) tt
  kept_order ts (x ∷ xs) ys (inl h) differ order =
      subst (AreInOrder ts) (sym (h.1).1)
      (order_first ts x (h.1).0 (kept_order ts xs (h.1).0 (h.1).2 differ.1 (rest_in_order ts x xs order))
      (λ w a. (let k = kept_among xs (h.1).0 w (h.1).2 a in (λ e. not_again x.name xs differ.0 (subst (λ v. IsAmong v xs) (sym e) k.0), first_before ts x xs w order k.0))))
  kept_order ts (x ∷ xs) ys (inr h) differ order = kept_order ts xs ys h.1 differ.1 (rest_in_order ts x xs order)

  -- one more that is kept
  pub kept_more : (xs ys : List MetaDecl) (x : MetaDecl) → AreKept Kept Other xs ys → Kept x.name → AreKept Kept Other (xs ++ x ∷ []) (ys ++ x ∷ [])
  kept_more [] ys x h k = inl (k, ([], ap (λ (l : List MetaDecl). l ++ x ∷ []) h, refl))
  kept_more (y ∷ xs) ys x (inl h) k = inl (h.0, ((h.1).0 ++ x ∷ [], ap (λ (l : List MetaDecl). l ++ x ∷ []) (h.1).1, kept_more xs (h.1).0 x (h.1).2 k))
  kept_more (y ∷ xs) ys x (inr h) k = inr (h.0, kept_more xs ys x h.1 k)

  -- one more that is not
  pub other_more : (xs ys : List MetaDecl) (x : MetaDecl) → AreKept Kept Other xs ys → Other x.name → AreKept Kept Other (xs ++ x ∷ []) ys
  other_more [] ys x h o = inr (o, h)
  other_more (y ∷ xs) ys x (inl h) o = inl (h.0, ((h.1).0, (h.1).1, other_more xs (h.1).0 x (h.1).2 o))
  other_more (y ∷ xs) ys x (inr h) o = inr (h.0, other_more xs ys x h.1 o)

read_place : (n : ℕ) (metas : List MetaDecl) (w : List ℕ) (j : JudgmentScheme) → IsReadFrom n metas w j
    → (m : ℕ) × (d : MetaDecl) × (slice_get metas m ≡ Some d) × (d.name ≡ w) × OccursInJudgment (n + m) j
read_place n [] w j h = absurd h
read_place n (d ∷ metas) w j (inl h) = (zero, d, refl, h.0, (let same : n ≡ n + 0 = omega arith in subst (λ k. OccursInJudgment k j) same h.1))
read_place n (d ∷ metas) w j (inr h) =
    let k = read_place (suc n) metas w j h in
    let same : suc n + k.0 ≡ n + suc k.0 = omega arith in
    (suc k.0, k.1, k.2, k.3, subst (λ i. OccursInJudgment i j) same k.4)

place_read : (n : ℕ) (metas : List MetaDecl) (m : ℕ) (d : MetaDecl) (j : JudgmentScheme) → slice_get metas m ≡ Some d → OccursInJudgment (n + m) j → IsReadFrom n metas d.name j
place_read n [] m d j g o = absurd (let never : None ≡ Some d = g in cc)
place_read n (x ∷ metas) zero d j g o =
    let first : x ≡ d = cc in
    let same : n + 0 ≡ n = omega arith in
    inl (ap (λ (y : MetaDecl). y.name) first, subst (λ k. OccursInJudgment k j) same o)
place_read n (x ∷ metas) (suc m) d j g o =
    let same : n + suc m ≡ suc n + m = omega arith in
    inr (place_read (suc n) metas m d j g (subst (λ k. OccursInJudgment k j) same o))

-- a name that is read, at its place
pub read_in : (metas : List MetaDecl) (w : List ℕ) (j : JudgmentScheme) → IsReadFrom 0 metas w j
    → (m : ℕ) × (d : MetaDecl) × (slice_get metas m ≡ Some d) × (d.name ≡ w) × OccursInJudgment m j
read_in metas w j h =
    let k = read_place 0 metas w j h in
    let same : 0 + k.0 ≡ k.0 = omega arith in
    (k.0, k.1, k.2, k.3, subst (λ i. OccursInJudgment i j) same k.4)

pub in_read : (metas : List MetaDecl) (m : ℕ) (d : MetaDecl) (j : JudgmentScheme) → slice_get metas m ≡ Some d → OccursInJudgment m j → IsReadFrom 0 metas d.name j
in_read metas m d j g o = (let same : m ≡ 0 + m = omega arith in place_read 0 metas m d j g (subst (λ i. OccursInJudgment i j) same o))

-- the same for several judgments
pub read_any : (metas : List MetaDecl) (js : List JudgmentScheme) (w : List ℕ) → IsRead metas js w
    → (m : ℕ) × (d : MetaDecl) × (slice_get metas m ≡ Some d) × (d.name ≡ w) × AnyByRecursion (OccursInJudgment m) js
read_any metas [] w h = absurd h
read_any metas (j ∷ js) w (inl h) = let k = read_in metas w j h in (k.0, k.1, k.2, k.3, inl k.4)
read_any metas (j ∷ js) w (inr h) = let k = read_any metas js w h in (k.0, k.1, k.2, k.3, inr k.4)

pub any_read : (metas : List MetaDecl) (js : List JudgmentScheme) (m : ℕ) (d : MetaDecl) → slice_get metas m ≡ Some d → AnyByRecursion (OccursInJudgment m) js → IsRead metas js d.name
any_read metas [] m d g o = absurd o
any_read metas (j ∷ js) m d g (inl o) = inl (in_read metas m d j g o)
any_read metas (j ∷ js) m d g (inr o) = inr (any_read metas js m d g o)

-- the place of a name is one
pub any_at : (metas : List MetaDecl) (js : List JudgmentScheme) (m : ℕ) (d : MetaDecl) → AreDifferentNames (map (λ (x : MetaDecl). x.name) metas) → slice_get metas m ≡ Some d
    → IsRead metas js d.name → AnyByRecursion (OccursInJudgment m) js
any_at metas js m d differ g h =
    let k = read_any metas js d.name h in
    let same : k.0 ≡ m = one_place metas k.0 m k.1 d differ k.2 g k.3 in
    subst (λ i. AnyByRecursion (OccursInJudgment i) js) same k.4

-- names that are gone through one by one
module _ (Kept Other : List ℕ → Type 0) (xs ys : List MetaDecl) (i : ℕ) (d x : MetaDecl) (lt : i < length xs) (is : x ≡ get_or xs i d) (h : AreKept Kept Other (take i xs) ys) (zs : List MetaDecl) where
  taken_more : take i xs ++ x ∷ [] ≡ take (i + 1) xs
  taken_more = ap (λ (y : MetaDecl). take i xs ++ y ∷ []) is ∙ sym (take_more xs i d lt)

  pub next_kept : Kept x.name → zs ≡ ys ++ x ∷ [] → AreKept Kept Other (take (i + 1) xs) zs
  next_kept k e =
      subst (λ (l : List MetaDecl). AreKept Kept Other l zs) taken_more
      (subst (AreKept Kept Other (take i xs ++ x ∷ [])) (sym e) (kept_more Kept Other (take i xs) ys x h k))

  pub next_other : Other x.name → zs ≡ ys → AreKept Kept Other (take (i + 1) xs) zs
  next_other o e =
      subst (λ (l : List MetaDecl). AreKept Kept Other l zs) taken_more
      (subst (AreKept Kept Other (take i xs ++ x ∷ [])) (sym e) (other_more Kept Other (take i xs) ys x h o))
