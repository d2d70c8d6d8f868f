-- The first readings of a slot before what stands behind it.
use Rattle.std.proofs.Common.{◌≡◌, ◌≢◌, ◌⊎◌, ◌↔◌, ℕ, ◌+◌, ◌<◌, ◌≤◌, List, [], ◌∷◌, ◌++◌, length, inl, inr, refl, ap, ◌∙◌, sym, subst, arith}
use Rattle.std.proofs.lemmas.Bool.{cases_order, cases_lt}
use Rattle.binding_terms.specs.Signature.{Signature}
use Rattle.binding_terms.specs.declared.grammar.CatId.{CatId}
use Rattle.binding_terms.specs.declared.grammar.Item.{Item}
use Rattle.binding_terms.specs.declared.grammar.Item.TheVariants.{Slot}
use Rattle.binding_terms.proofs.Lists.{same_fronts}
use Rattle.scheme_terms.specs.SchemeTree.{SchemeTree, con, Parts, part}
use Rattle.scheme_terms.specs.declared.scheme.MetaDecl.{MetaDecl}
use Rattle.rule_schemes.specs.Reading.{Token, Variable, slot_variables, ReadsTerm, ReadsItems, all_read, terminal, binder, slot}
use Rattle.rule_schemes.specs.Said.{Way, way, Ways, then_way, IsBefore, way_of_term, item_lengths, ways_of_items}
use Rattle.ordered_readings.specs.FirstTwo.{IsOneOf, IsListed, ComesAfterTwo}
use Rattle.ordered_readings.specs.AnswerView.{with_first, slot_place}
use Rattle.ordered_readings.specs.Cells.{ReadsTermAt, ReadsItemsAt, TakesFirst, TakesFewer}
use Rattle.ordered_readings.specs.Laws.{SlotLaw, LengthLaw, EnoughLaw}
use Rattle.ordered_readings.proofs.FirstTwo.{first_same, first_union}
use Rattle.ordered_readings.proofs.PairLemmas.{HasParts, ReadsBehind, first_behind}
use Rattle.ordered_readings.proofs.Transitive.{before_transitive}

module _ (sig : Signature) (metas : List MetaDecl) (vars own : List Variable) (words : List (List ℕ)) (ts : List Token) (xs : Parts) (ls : List ℕ) (ws : Ways) where
  -- these tokens are those of a slot and of what stands behind it
  abbrev IsParted : CatId → List ℕ → List Item → Type 0
  IsParted c binds items =
      (begins : List Token) × (other : List Token) × (a : SchemeTree) × (ys : Parts) × (t : ReadsTerm sig metas (slot_variables own binds ++ vars) c.0 begins a)
      × (r : ReadsItems sig metas vars own words items other ys) × (ts ≡ begins ++ other) × (xs ≡ part (length binds) a ys)
      × (ls ≡ length begins ∷ item_lengths r) × (ws ≡ then_way (way_of_term t) (ways_of_items r))

  moved : (d c : CatId) (bs binds : List ℕ) (is items : List Item) → d ≡ c → bs ≡ binds → is ≡ items → IsParted d bs is → IsParted c binds items
  moved d c bs binds is items e f g h = subst (IsParted c binds) g (subst (λ b. IsParted c b is) f (subst (λ k. IsParted k bs is) e h))

split_slot : (sig : Signature) (metas : List MetaDecl) (vars own : List Variable) (words : List (List ℕ)) (js : List Item) (ts : List Token) (xs : Parts)
    (c : CatId) (binds : List ℕ) (items : List Item) → (r : ReadsItems sig metas vars own words js ts xs) → js ≡ Slot c binds ∷ items
    → IsParted sig metas vars own words ts xs (item_lengths r) (ways_of_items r) c binds items
split_slot sig metas vars own words js ts xs c binds items all_read e = absurd (cc)
split_slot sig metas vars own words js ts xs c binds items (terminal h r) e = absurd (cc)
split_slot sig metas vars own words js ts xs c binds items (binder h r) e = absurd (cc)
split_slot sig metas vars own words js ts xs c binds items (slot {c = d} {binds = bs} {items = is} {first = begins} {rest = other} split filled t r) e =
    let head : Slot d bs ≡ Slot c binds = cc in
    let cat : d ≡ c = cc in
    let list : bs ≡ binds = cc in
    let rest : is ≡ items = cc in
    moved sig metas vars own words ts _ _ _ d c bs binds is items cat list rest (begins, other, _, _, t, r, split, refl, refl, refl)

module _ (sig : Signature) (metas : List MetaDecl) (vars own : List Variable) (words : List (List ℕ)) where
  has_parts : (items : List Item) (alt p : ℕ) (ts : List Token) (w : Way) (s : SchemeTree) → ReadsItemsAt sig metas vars own words items alt p ts w s → HasParts s
  has_parts items alt p ts w s h = subst HasParts (sym h.3) tt

  module _ (c : CatId) (binds : List ℕ) (items : List Item) (alt p : ℕ) (first rest : List Token) (some : first ≢ []) where
    abbrev InSlot : Way → SchemeTree → Type 0
    InSlot = ReadsTermAt sig metas (slot_variables own binds ++ vars) c.0 first

    abbrev After : Way → SchemeTree → Type 0
    After = ReadsItemsAt sig metas vars own words items alt p rest

    abbrev Whole : Way → SchemeTree → Type 0
    Whole w s = ReadsItemsAt sig metas vars own words (Slot c binds ∷ items) alt p (first ++ rest) w s × TakesFirst (length first) w

    -- a reading of both is one of the whole
    whole : (w : Way) (s : SchemeTree) → ReadsBehind (length first) (length binds) InSlot After w s → Whole w s
    whole w s (v, a, u, b, t, r, e, f) =
        let place : w ≡ way alt (length first ∷ item_lengths r.1) (then_way (way_of_term t.0) (ways_of_items r.1)) =
        e ∙ ap (λ x. slot_place (length first) x u) (sym t.1) ∙ ap (slot_place (length first) (way_of_term t.0)) r.2 in
        let value : s ≡ con p (part (length binds) a r.0) = f ∙ ap (with_first (length binds) a) r.3 in (
          (part (length binds) a r.0, slot refl some t.0 r.1, place, value),
          subst (TakesFirst (length first)) (sym place) refl,
        )

    -- a reading of the whole with that length is one of both
    apart : (begins other : List Token) (a : SchemeTree) (xs : Parts) (w : Way) (s : SchemeTree)
        → (t : ReadsTerm sig metas (slot_variables own binds ++ vars) c.0 begins a) → (r : ReadsItems sig metas vars own words items other xs)
        → begins ≡ first → other ≡ rest → w ≡ way alt (length begins ∷ item_lengths r) (then_way (way_of_term t) (ways_of_items r))
        → s ≡ con p (part (length binds) a xs) → ReadsBehind (length first) (length binds) InSlot After w s
    apart begins other a xs w s t r same behind e f =
        subst (λ o. ReadsBehind (length first) (length binds) InSlot (ReadsItemsAt sig metas vars own words items alt p o) w s) behind
        (subst (λ o. ReadsBehind (length o) (length binds) (ReadsTermAt sig metas (slot_variables own binds ++ vars) c.0 o) (ReadsItemsAt sig metas vars own words items alt p other) w s) same
        (way_of_term t, a, way alt (item_lengths r) (ways_of_items r), con p xs, (t, refl), (xs, r, refl, refl), e, f))

    parted : (w : Way) (s : SchemeTree) → Whole w s → ReadsBehind (length first) (length binds) InSlot After w s
    parted w s ((xs, r, place, value), takes) =
        let (begins, other, a, ys, t, q, split, is, lengths, ways) = split_slot sig metas vars own words (Slot c binds ∷ items) (first ++ rest) xs c binds items r refl in
        let at : w ≡ way alt (length begins ∷ item_lengths q) (then_way (way_of_term t) (ways_of_items q)) =
        place ∙ ap (λ ls. way alt ls (ways_of_items r)) lengths ∙ ap (way alt (length begins ∷ item_lengths q)) ways in
        let long : length begins ≡ length first = subst (TakesFirst (length first)) at takes in
        let same = same_fronts begins first other rest (sym split) long in
        apart begins other a ys w s t q same.0 same.1 at (value ∙ ap (con p) is)

    pub slot_same : (w : Way) (s : SchemeTree) → ReadsBehind (length first) (length binds) InSlot After w s ↔ Whole w s
    slot_same w s = (whole w s, parted w s)

pub slot_law : SlotLaw
slot_law sig metas vars own words c binds items alt p first rest xs ys zs some f g h =
    first_same IsBefore before_transitive _ _ zs (slot_same sig metas vars own words c binds items alt p first rest some)
    (first_behind (length first) (length binds) _ _ xs ys zs (has_parts sig metas vars own words items alt p rest) f g h)

pub fewer_same : (n : ℕ) (w : Way) → TakesFewer n w ⊎ TakesFirst n w ↔ TakesFewer (n + 1) w
fewer_same n (way a [] ws) = (λ h. elim h [ inl k ↦ k | inr k ↦ k ], λ h. inl h)
fewer_same n (way a (m ∷ ls) ws) = (λ h. elim h [ inl k ↦ omega arith | inr k ↦ omega (arith, k) ], λ h. one_of m n h)
  where
    one_of : (m n : ℕ) → m < n + 1 → (m < n) ⊎ (m ≡ n)
    one_of m n h = elim (cases_order m n) [
      | inl e ↦ inr e
      | inr k ↦ elim k [ inl lt ↦ inl lt | inr gt ↦ absurd (omega arith) ]
    ]

pub length_law : LengthLaw
length_law sig metas vars own words items alt p n tokens xs ys zs f g h =
    first_same IsBefore before_transitive _ _ zs both (first_union IsBefore before_transitive _ _ xs ys zs f g h)
  where
    Reads : Way → SchemeTree → Type 0
    Reads = ReadsItemsAt sig metas vars own words items alt p tokens

    both : (w : Way) (s : SchemeTree) → (Reads w s × TakesFewer n w) ⊎ (Reads w s × TakesFirst n w) ↔ Reads w s × TakesFewer (n + 1) w
    both w s = (
      λ h. elim h [ inl k ↦ (k.0, (fewer_same n w).0 (inl k.1)) | inr k ↦ (k.0, (fewer_same n w).0 (inr k.1)) ],
      λ h. elim ((fewer_same n w).1 h.1) [ inl k ↦ inl (h.0, k) | inr k ↦ inr (h.0, k) ],
    )

-- what takes fewer tokens is before what does not
shorter_first : (a n m : ℕ) (ls ks : List ℕ) (vs ws : Ways) (v w : Way) → v ≡ way a ls vs → w ≡ way a ks ws → TakesFewer n v → TakesFewer m w → (TakesFewer n w → ⊥)
    → IsBefore v w
shorter_first a n m ls ks vs ws v w e f short long other =
    subst (λ x. IsBefore x w) (sym e) (subst (IsBefore (way a ls vs)) (sym f)
    (compared ls ks (subst (TakesFewer n) e short) (subst (TakesFewer m) f long) (λ h. other (subst (TakesFewer n) (sym f) h))))
  where
    compared : (ls ks : List ℕ) → TakesFewer n (way a ls vs) → TakesFewer m (way a ks ws) → (TakesFewer n (way a ks ws) → ⊥) → IsBefore (way a ls vs) (way a ks ws)
    compared [] ks h k o = absurd h
    compared (l ∷ ls) [] h k o = absurd k
    compared (l ∷ ls) (i ∷ ks) h k o = inr (refl, inl (inl (lower l i n h o)))
      where
        lower : (l i n : ℕ) → l < n → (i < n → ⊥) → l < i
        lower l i n h o = elim (cases_lt i n) [ inl lt ↦ absurd (o lt) | inr le ↦ omega arith ]

fewer_or_not : (n : ℕ) (w : Way) → TakesFewer n w ⊎ (TakesFewer n w → ⊥)
fewer_or_not n (way a [] ws) = inr (λ h. h)
fewer_or_not n (way a (m ∷ ls) ws) = elim (cases_lt m n) [ inl lt ↦ inl lt | inr le ↦ inr (λ h. omega arith) ]

fewer_more : (n m : ℕ) (w : Way) → n ≤ m → TakesFewer n w → TakesFewer m w
fewer_more n m (way a [] ws) h k = k
fewer_more n m (way a (l ∷ ls) ws) h k = omega arith

pub enough_law : EnoughLaw
enough_law sig metas vars own words items alt p n m tokens a b le f = record { have = have; in_order = f.in_order; all = all }
  where
    Reads : Way → SchemeTree → Type 0
    Reads = ReadsItemsAt sig metas vars own words items alt p tokens

    first : Reads a.0 a.1 × TakesFewer n a.0
    first = f.have a.0 a.1 (inl refl)

    second : Reads b.0 b.1 × TakesFewer n b.0
    second = f.have b.0 b.1 (inr (inl refl))

    have : (k : Way) (s : SchemeTree) → IsOneOf {E = Way × SchemeTree} (k, s) (a ∷ b ∷ []) → Reads k s × TakesFewer m k
    have k s i = let h = f.have k s i in (h.0, fewer_more n m k le h.1)

    before : (c : Way × SchemeTree) → Reads c.0 c.1 × TakesFewer n c.0 → (k : Way) (s : SchemeTree) → Reads k s × TakesFewer m k → (TakesFewer n k → ⊥) → IsBefore c.0 k
    before c h k s r o = shorter_first alt n m _ _ _ _ c.0 k h.0.2 r.0.2 h.1 r.1 o

    all : (k : Way) (s : SchemeTree) → Reads k s × TakesFewer m k → IsListed IsBefore (a ∷ b ∷ []) k s ⊎ ComesAfterTwo IsBefore (a ∷ b ∷ []) k
    all k s r = elim (fewer_or_not n k) [
      | inl h ↦ f.all k s (r.0, h)
      | inr o ↦ inr (a, b, inl refl, inr (inl refl), f.in_order.1, before a first k s r o, before b second k s r o)
    ]
