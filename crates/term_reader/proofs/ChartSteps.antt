-- What the boxes tell of a range, one function of the chart after another.
use Rattle.std.proofs.Common.{◌≡◌, ◌≢◌, ◌⊎◌, ◌↔◌, ℕ, zero, suc, ◌+◌, ◌-◌, ◌<◌, ◌≤◌, Bool, false, IsTrue, true≢false, List, [], ◌∷◌, length, map, drop, get_or, inl, inr, refl, ap, ◌∙◌, sym, subst, arith, Some, slice_get, slice_range}
use Rattle.std.specs.List.{AllByRecursion}
use Rattle.std.proofs.lemmas.Bool.{cases_lt}
use Rattle.std.proofs.lemmas.List.{drop_more, drop_all}
use Rattle.std.proofs.lemmas.Option.{slice_get_within}
use Rattle.binding_terms.specs.Numbered.{AnyByRecursion}
use Rattle.binding_terms.specs.Signature.{Fits, ProdFits, IsSingle}
use Rattle.binding_terms.specs.declared.grammar.CatId.{CatId}
use Rattle.binding_terms.specs.declared.grammar.Item.{Item}
use Rattle.binding_terms.specs.declared.grammar.Item.TheVariants.{Slot}
use Rattle.binding_terms.specs.declared.grammar.Prod.{Prod}
use Rattle.scheme_terms.specs.declared.scheme.MetaDecl.{MetaDecl}
use Rattle.rule_schemes.specs.Reading.{Token, word, punctuation, IsTerminal, IsVariableWord}
use Rattle.term_reader.specs.Chart.{MayBeVariable, IsClosed}
use Rattle.term_reader.specs.Charting.{Charted, CannotRead, CannotGroup, CannotName, CannotVary, CannotStand, CannotTake, CannotProduce, CannotGoOn, IsKnown, AreTailsKnown}
use Rattle.term_reader.specs.declared.chart.Boxes.{Boxes}
use Rattle.term_reader.proofs.ChartLemmas.{no_case, name_read, term_takes, some_item, no_item, no_slot}
use Rattle.term_reader.proofs.ChartRanges.{range_long, range_front, range_inner}
use Rattle.binding_terms.proofs.Lists.{any_at}

module _ (f : Charted) where
  -- no metavariable: another token at the front, or no brackets behind it
  pub no_name : (c from to : ℕ) (t : Token) (r : Bool) → to ≤ length f.tokens → slice_get f.tokens from ≡ Some t
      → (IsTrue r ↔ AnyByRecursion (λ (m : MetaDecl). (t ≡ word m.name) × (m.cat.0 ≡ c)) f.metas) → r ≡ false → CannotName f c from to
  no_name c from to t r h at is e vars m decl rest vs begins found cat reads =
      let k = name_read f vars (map (λ p. p.0) decl.params) decl.name rest vs from to h begins reads in
      let both : Some t ≡ Some (word decl.name) = sym at ∙ k.0 in
      let same : t ≡ word decl.name = cc in
      true≢false (sym (is.1 (any_at (λ (d : MetaDecl). (t ≡ word d.name) × (d.cat.0 ≡ c)) f.metas m decl found (same, cat))) ∙ e)

  pub no_brackets_there : (c from to : ℕ) (r : Bool) → to ≤ length f.tokens
      → (IsTrue r ↔ ((to ≡ from + 1) ⊎ ((slice_get f.tokens (from + 1) ≡ Some (punctuation 91)) × (slice_get f.tokens (to - 1) ≡ Some (punctuation 93)))))
      → r ≡ false → CannotName f c from to
  no_brackets_there c from to r h is e vars m decl rest vs begins found cat reads =
      let k = name_read f vars (map (λ p. p.0) decl.params) decl.name rest vs from to h begins reads in
      true≢false (sym (is.1 k.1) ∙ e)

  -- no variable: more tokens than one, or another one
  pub no_variable : (c from to : ℕ) (t : Token) (r : Bool) → to ≤ length f.tokens → slice_get f.tokens from ≡ Some t
      → (IsTrue r ↔ ((t.0 ≡ 0) × MayBeVariable f.sig f.base c t.1)) → r ≡ false → CannotVary f c from to
  no_variable c from to t r h at is e w begins may =
      let front = range_front f.tokens [] (word w) from to h begins in
      let both : Some (word w) ≡ Some t = sym front.1 ∙ at in
      let same : word w ≡ t = cc in
      true≢false (sym (is.1 (subst (λ (u : Token). (u.0 ≡ 0) × MayBeVariable f.sig f.base c u.1) same (refl, may))) ∙ e)

  pub more_than_one : (c from to : ℕ) → to ≤ length f.tokens → to ≢ from + 1 → CannotVary f c from to
  more_than_one c from to h more w begins may =
      more (omega (arith, ap length begins, range_long f.tokens from to h))

  -- no group: another token at the front or at the end, or something else inside
  pub other_front : (c from to : ℕ) (t : Token) → to ≤ length f.tokens → slice_get f.tokens from ≡ Some t → t ≢ punctuation 40 → CannotGroup f c from to
  other_front c from to t h at other vars inner s allowed is r =
      let k = range_inner f.tokens inner (punctuation 40) (punctuation 41) from to h is in
      let both : Some t ≡ Some (punctuation 40) = sym at ∙ k.1 in
      let same : t ≡ punctuation 40 = cc in
      other same

  pub other_end : (c from to : ℕ) (t : Token) → to ≤ length f.tokens → slice_get f.tokens (to - 1) ≡ Some t → t ≢ punctuation 41 → CannotGroup f c from to
  other_end c from to t h at other vars inner s allowed is r =
      let k = range_inner f.tokens inner (punctuation 40) (punctuation 41) from to h is in
      let both : Some t ≡ Some (punctuation 41) = sym at ∙ k.2 in
      let same : t ≡ punctuation 41 = cc in
      other same

  pub other_inside : (c from to : ℕ) → to ≤ length f.tokens → Fits f.sig → (from + 1 < to - 1 → CannotRead f c (from + 1) (to - 1)) → CannotGroup f c from to
  other_inside c from to h fits fails vars inner s allowed is r =
      let k = range_inner f.tokens inner (punctuation 40) (punctuation 41) from to h is in
      which (subst (λ us. Rattle.rule_schemes.specs.Reading.ReadsTerm f.sig f.metas vars c us s) (sym k.3) r) (cases_lt (from + 1) (to - 1))
    where
      nothing : (us : List Token) → length us ≡ 0 → us ≡ []
      nothing [] e = refl
      nothing (u ∷ us) e = absurd (omega (arith, e))

      which : Rattle.rule_schemes.specs.Reading.ReadsTerm f.sig f.metas vars c (slice_range f.tokens (from + 1) (to - 1)) s
          → (from + 1 < to - 1) ⊎ (to - 1 ≤ from + 1) → ⊥
      which r (inl lt) = fails lt vars s allowed r
      which r (inr le) =
          term_takes fits.prods r (nothing (slice_range f.tokens (from + 1) (to - 1)) (omega (arith, range_long f.tokens (from + 1) (to - 1) (omega arith))))

  -- the items of a production from one on, where these and the rest of them cannot
  pub go_on : (p k from to : ℕ) (prod : Prod) (x : Item) → slice_get f.sig.prods p ≡ Some prod → x ≡ get_or prod.items k x
      → CannotTake f (x ∷ drop (k + 1) prod.items) from to → CannotGoOn f p k from to
  go_on p k from to prod x found is fails other found_too lt =
      let both : Some prod ≡ Some other = sym found ∙ found_too in
      let same : prod ≡ other = cc in
      let long : k < length prod.items = subst (λ (q : Prod). k < length q.items) (sym same) lt in
      let front : drop k prod.items ≡ x ∷ drop (k + 1) prod.items = drop_more prod.items k x long ∙ ap (λ y. y ∷ drop (k + 1) prod.items) (sym is) in
      subst (λ (q : Prod). CannotTake f (drop k q.items) from to) same (subst (λ items. CannotTake f items from to) (sym front) fails)

  -- items that are left, and no tokens
  pub items_left : (prod : Prod) (k from to : ℕ) (x : Item) → k < length prod.items → to ≤ from → to ≤ length f.tokens → CannotTake f (drop k prod.items) from to
  items_left prod k from to x lt le h =
      subst (λ items. CannotTake f items from to) (sym (drop_more prod.items k x lt)) (some_item f (get_or prod.items k x) (drop (k + 1) prod.items) from to le h)

  -- tokens that are left, and no items
  pub tokens_left : (prod : Prod) (k from to : ℕ) → length prod.items ≤ k → from < to → to ≤ length f.tokens → CannotTake f (drop k prod.items) from to
  tokens_left prod k from to le lt h = subst (λ items. CannotTake f items from to) (sym (drop_all k prod.items le)) (no_item f from to lt h)

  -- what follows a terminal or a binder cannot
  pub rest_cannot : (tails : Boxes) (p k from to count : ℕ) (prod : Prod) (x : Item) → slice_get f.sig.prods p ≡ Some prod → count ≡ length prod.items → 0 < k → k ≤ count
      → from ≤ to → to ≤ length f.tokens → AreTailsKnown f tails from to
      → ((from ≡ to) × (k ≢ count)) ⊎ ((from ≢ to) × ((k ≡ count) ⊎ IsClosed tails p k from)) → CannotTake f (drop k prod.items) from to
  rest_cannot tails p k from to count prod x found long some within le h known (inl ends) = items_left prod k from to x (omega (arith, ends.1)) (omega (arith, ends.0)) h
  rest_cannot tails p k from to count prod x found long some within le h known (inr (more, inl last)) = tokens_left prod k from to (omega (arith, last, long)) (omega (arith, more)) h
  rest_cannot tails p k from to count prod x found long some within le h known (inr (more, inr closed)) = which (cases_lt k (length prod.items))
    where
      lt : from < to
      lt = omega (arith, more)

      which : (k < length prod.items) ⊎ (length prod.items ≤ k) → CannotTake f (drop k prod.items) from to
      which (inl left) = known p k from some (omega arith) lt closed prod found left
      which (inr none) = tokens_left prod k from to none lt h

  -- a slot that takes all
  pub last_slot : (c : CatId) (binds : List ℕ) (from to : ℕ) → from < to → to ≤ length f.tokens → CannotRead f c.0 from to → CannotTake f (Slot c binds ∷ []) from to
  last_slot c binds from to lt h fails = no_slot f c binds [] from to lt h (λ mid more within. which mid (cases_lt mid to) within)
    where
      which : (mid : ℕ) → (mid < to) ⊎ (to ≤ mid) → mid ≤ to → CannotRead f c.0 from mid ⊎ CannotTake f [] mid to
      which mid (inl left) within = inr (no_item f mid to left h)
      which mid (inr all) within = inl (subst (CannotRead f c.0 from) (let e : to ≡ mid = omega arith in e) fails)

  pub only_slot : (terms : Boxes) (p k from to : ℕ) (prod : Prod) (c : CatId) (binds : List ℕ) → Fits f.sig → slice_get f.sig.prods p ≡ Some prod
      → Slot c binds ≡ get_or prod.items k (Slot c binds) → k + 1 ≡ length prod.items → from < to → to ≤ length f.tokens
      → (0 < k → IsKnown f terms from to) → IsClosed terms c.0 from to → CannotGoOn f p k from to
  only_slot terms p zero from to prod c binds fits found is last lt h known closed = absurd (single (fit f.sig.prods p prod fits.prods found) prod.items is last refl)
    where
      fit : (prods : List Prod) (p : ℕ) (prod : Prod) → AllByRecursion (ProdFits f.sig) prods → slice_get prods p ≡ Some prod → ProdFits f.sig prod
      fit [] p prod all e = absurd (cc)
      fit (q ∷ prods) zero prod all e = let same : q ≡ prod = cc in subst (ProdFits f.sig) same all.0
      fit (q ∷ prods) (suc p) prod all e = fit prods p prod all.1 e

      single : ProdFits f.sig prod → (items : List Item) → Slot c binds ≡ get_or items 0 (Slot c binds) → 1 ≡ length items → items ≡ prod.items → ⊥
      single fit [] e long same = omega (arith, long)
      single fit (x ∷ []) e long same = fit.not_single (subst IsSingle same (subst (λ y. IsSingle (y ∷ [])) e tt))
      single fit (x ∷ (y ∷ items)) e long same = omega (arith, long)
  only_slot terms p (suc k) from to prod c binds fits found is last lt h known closed =
      go_on p (suc k) from to prod (Slot c binds) found is
      (subst (λ items. CannotTake f (Slot c binds ∷ items) from to) (sym (drop_all (suc k + 1) prod.items (omega (arith, last))))
      (last_slot c binds from to lt h (known (omega arith) c.0 from to lt (inr (refl, omega arith)) closed)))

  -- a slot that leaves tokens for other items
  pub first_slot : (terms tails : Boxes) (p k from to : ℕ) (prod : Prod) (c : CatId) (binds : List ℕ) → slice_get f.sig.prods p ≡ Some prod
      → Slot c binds ≡ get_or prod.items k (Slot c binds) → k + 1 < length prod.items → from < to → to ≤ length f.tokens
      → IsKnown f terms (from + 1) to → AreTailsKnown f tails (from + 1) to
      → ((mid : ℕ) → from < mid → mid < to → IsClosed terms c.0 from mid ⊎ IsClosed tails p (k + 1) mid) → CannotGoOn f p k from to
  first_slot terms tails p k from to prod c binds found is more lt h known tails_known fails =
      go_on p k from to prod (Slot c binds) found is (no_slot f c binds (drop (k + 1) prod.items) from to lt h (λ mid some within. which mid (cases_lt mid to) some within))
    where
      closed : (mid : ℕ) → from < mid → mid < to → IsClosed terms c.0 from mid ⊎ IsClosed tails p (k + 1) mid
          → CannotRead f c.0 from mid ⊎ CannotTake f (drop (k + 1) prod.items) mid to
      closed mid some left (inl shut) = inl (known c.0 from mid some (inl left) shut)
      closed mid some left (inr shut) = inr (tails_known p (k + 1) mid (omega arith) (omega arith) left shut prod found more)

      which : (mid : ℕ) → (mid < to) ⊎ (to ≤ mid) → from < mid → mid ≤ to → CannotRead f c.0 from mid ⊎ CannotTake f (drop (k + 1) prod.items) mid to
      which mid (inl left) some within = closed mid some left (fails mid some left)
      which mid (inr all) some within = inr (items_left prod (k + 1) mid to (Slot c binds) more all h)

  -- the boxes of one item more
  pub one_item_more : (old now new : Boxes) (p k from to : ℕ) → ((a b c : ℕ) → IsClosed now a b c → IsClosed old a b c)
      → ((j : ℕ) → 0 < j → j < k → IsClosed now p j from → CannotGoOn f p j from to) → ((a b c : ℕ) → IsClosed new a b c → IsClosed now a b c)
      → (IsClosed new p k from → CannotGoOn f p k from to)
      → ((a b c : ℕ) → IsClosed new a b c → IsClosed old a b c) × ((j : ℕ) → 0 < j → j < k + 1 → IsClosed new p j from → CannotGoOn f p j from to)
  one_item_more old now new p k from to before known kept here = (λ a b c shut. before a b c (kept a b c shut), λ j some lt. which j some (cases_lt j k) lt)
    where
      which : (j : ℕ) → 0 < j → (j < k) ⊎ (k ≤ j) → j < k + 1 → IsClosed new p j from → CannotGoOn f p j from to
      which j some (inl less) lt shut = known j some less (kept p j from shut)
      which j some (inr more) lt shut =
          let same : k ≡ j = omega arith in
          subst (λ i. CannotGoOn f p i from to) same (here (subst (λ i. IsClosed new p i from) (sym same) shut))

  -- all items of the production
  pub all_items : (tails : Boxes) (p k from to : ℕ) (prod : Prod) → slice_get f.sig.prods p ≡ Some prod → length prod.items ≤ k
      → ((j : ℕ) → 0 < j → j < k → IsClosed tails p j from → CannotGoOn f p j from to) → (j : ℕ) → 0 < j → IsClosed tails p j from → CannotGoOn f p j from to
  all_items tails p k from to prod found long known j some shut other found_too lt =
      let both : Some prod ≡ Some other = sym found ∙ found_too in
      let same : prod ≡ other = cc in
      let within : j < length prod.items = subst (λ (q : Prod). j < length q.items) (sym same) lt in
      known j some (omega arith) shut other found_too lt

  -- all items of a production
  pub from_start : (p from to : ℕ) (prod : Prod) → slice_get f.sig.prods p ≡ Some prod → from < to → to ≤ length f.tokens → CannotGoOn f p 0 from to → CannotTake f prod.items from to
  from_start p from to prod found lt h fails = which prod.items refl (fails prod found)
    where
      which : (items : List Item) → items ≡ prod.items → (0 < length prod.items → CannotTake f prod.items from to) → CannotTake f prod.items from to
      which [] same all = subst (λ us. CannotTake f us from to) same (no_item f from to lt h)
      which (x ∷ items) same all = all (omega (arith, ap length same))

  -- the boxes of one category more
  pub one_category_more : (now new : Boxes) (k from to : ℕ) → IsKnown f now (from + 1) to → ((c : ℕ) → c < k → IsClosed now c from to → CannotStand f c from to)
      → ((a b d : ℕ) → IsClosed new a b d → IsClosed now a b d) → (IsClosed new k from to → CannotStand f k from to)
      → IsKnown f new (from + 1) to × ((c : ℕ) → c < k + 1 → IsClosed new c from to → CannotStand f c from to)
  one_category_more now new k from to known before kept here =
      (λ c a b lt place shut. known c a b lt place (kept c a b shut), λ c le shut. which c (cases_lt c k) le shut)
    where
      which : (c : ℕ) → (c < k) ⊎ (k ≤ c) → c < k + 1 → IsClosed new c from to → CannotStand f c from to
      which c (inl less) le shut = before c less (kept c from to shut)
      which c (inr more) le shut =
          let same : k ≡ c = omega arith in
          subst (λ d. CannotStand f d from to) same (here (subst (λ d. IsClosed new d from to) (sym same) shut))

  -- the boxes of one production more
  pub one_product_more : (old now new : Boxes) (k c from to : ℕ) → from < to → to ≤ length f.tokens → ((q : Prod) → slice_get f.sig.prods k ≡ Some q → q.cat.0 ≡ c)
      → ((a b d : ℕ) → IsClosed now a b d → IsClosed old a b d)
      → ((p : ℕ) (q : Prod) → p < k → slice_get f.sig.prods p ≡ Some q → IsClosed now q.cat.0 from to → CannotTake f q.items from to)
      → ((a b d : ℕ) → IsClosed new a b d → IsClosed now a b d) → (IsClosed new c from to → CannotGoOn f k 0 from to)
      → ((a b d : ℕ) → IsClosed new a b d → IsClosed old a b d)
      × ((p : ℕ) (q : Prod) → p < k + 1 → slice_get f.sig.prods p ≡ Some q → IsClosed new q.cat.0 from to → CannotTake f q.items from to)
  one_product_more old now new k c from to lt h cat_is before known kept here =
      (λ a b d shut. before a b d (kept a b d shut), λ p q le at shut. which p q (cases_lt p k) le at shut)
    where
      which : (p : ℕ) (q : Prod) → (p < k) ⊎ (k ≤ p) → p < k + 1 → slice_get f.sig.prods p ≡ Some q → IsClosed new q.cat.0 from to → CannotTake f q.items from to
      which p q (inl less) le at shut = known p q less at (kept q.cat.0 from to shut)
      which p q (inr more) le at shut =
          let e : p ≡ k = omega arith in
          let found : slice_get f.sig.prods k ≡ Some q = ap (slice_get f.sig.prods) (sym e) ∙ at in
          from_start k from to q found lt h (here (subst (λ d. IsClosed new d from to) (cat_is q found) shut))

  -- the boxes of all productions
  pub all_products : (terms : Boxes) (k from to : ℕ) → length f.sig.prods ≤ k
      → ((p : ℕ) (q : Prod) → p < k → slice_get f.sig.prods p ≡ Some q → IsClosed terms q.cat.0 from to → CannotTake f q.items from to)
      → (c : ℕ) → IsClosed terms c from to → CannotProduce f c from to
  all_products terms k from to long known c shut p prod found is =
      known p prod (let lt = slice_get_within f.sig.prods p prod found in omega arith) found (subst (λ d. IsClosed terms d from to) (sym is) shut)

  -- the boxes of all categories
  pub range_known : (old new : Boxes) (from to : ℕ) → IsKnown f old (from + 1) to → ((c : ℕ) → IsClosed old c from to → CannotStand f c from to)
      → ((a b c : ℕ) → IsClosed new a b c → IsClosed old a b c) → ((c : ℕ) → IsClosed new c from to → CannotProduce f c from to) → IsKnown f new from to
  range_known old new from to known simple kept products c a b lt place shut = which place (cases_lt from a)
    where
      here : b ≡ to → from ≡ a → CannotRead f c a b
      here e k =
          let there : IsClosed new c from to = subst (λ m. IsClosed new c m to) (sym k) (subst (IsClosed new c a) e shut) in
          let stand = simple c (kept c from to there) in
          subst (CannotRead f c a) (sym e) (subst (λ m. CannotRead f c m to) k (no_case f c from to stand.no_group stand.no_name stand.no_variable (products c there)))

      which : (b < to) ⊎ ((b ≡ to) × (from ≤ a)) → (from < a) ⊎ (a ≤ from) → CannotRead f c a b
      which (inl sooner) order = known c a b lt (inl sooner) (kept c a b shut)
      which (inr (e, within)) (inl later) = known c a b lt (inr (e, omega arith)) (kept c a b shut)
      which (inr (e, within)) (inr same) = here e (omega arith)

-- an item of a list that is another's
pub item_is : (items other : List Item) (k : ℕ) (x y : Item) → other ≡ items → x ≡ get_or other k x → x ≡ y → y ≡ get_or items k y
item_is items other k x y same is e = subst (λ (z : Item). z ≡ get_or items k z) e (subst (λ us. x ≡ get_or us k x) same is)
