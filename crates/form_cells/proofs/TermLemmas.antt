-- The readings of a term by their cases.
use Rattle.std.proofs.Common.{◌≡◌, ◌⊎◌, ◌↔◌, ℕ, ◌+◌, ◌-◌, ◌<◌, ◌≤◌, List, [], ◌∷◌, ◌++◌, length, map, inl, inr, refl, ap, ◌∙◌, sym, subst, arith, Some, slice_get, slice_range, length-append}
use Rattle.std.proofs.lemmas.Bool.{cases_lt}
use Rattle.std.proofs.lemmas.List.{append_cancel_right}
use Rattle.std.proofs.lemmas.Option.{slice_get_within}
use Rattle.binding_terms.specs.Signature.{Signature}
use Rattle.scheme_terms.specs.SchemeTree.{SchemeTree, meta, con}
use Rattle.scheme_terms.specs.declared.scheme.MetaDecl.{MetaDecl}
use Rattle.rule_schemes.specs.Reading.{Token, word, punctuation, Variable, ReadsTerm, group, metavariable, variable, production}
use Rattle.rule_schemes.specs.Said.{Way, way, Ways, no_ways, then_way, IsBefore, way_of_term}
use Rattle.ordered_readings.specs.Names.{NamesApart}
use Rattle.ordered_readings.specs.Cells.{ReadsTermAt, ReadsBracketsAt}
use Rattle.ordered_readings.specs.FirstTwo.{IsOneOf, IsBy, AreInOrder, IsListed, ComesAfterTwo, AreFirst}
use Rattle.ordered_readings.proofs.FirstTwo.{in_map, of_map}
use Rattle.ordered_readings.proofs.SamePlace.{name_tells, order_law}
use Rattle.form_cells.specs.Cells.{IsGroup, IsName, IsVariable, IsProduct, IsReadBelow, around}
use Rattle.form_cells.proofs.Joining.{AreOrdered, IsJoined, joined_first, two_first, same_first, no_first}
use Rattle.form_cells.proofs.Ranges.{range_length, range_cons, range_end, range_none, range_begins, range_two, range_front}

-- alternatives with a lower number stand first
lower : (a b : ℕ) (ls ks : List ℕ) (vs ws : Ways) (k l : Way) → a < b → k ≡ way a ls vs → l ≡ way b ks ws → IsBefore k l
lower a b ls ks vs ws k l lt p q = subst (λ x. IsBefore x l) (sym p) (subst (IsBefore (way a ls vs)) (sym q) (inl lt))

abbrev around_way : Way → Way
around_way v = way 0 [] (then_way v no_ways)

module _ (sig : Signature) (metas : List MetaDecl) (vars : List Variable) (c : ℕ) (ts : List Token) where
  abbrev Below : ℕ → Way → SchemeTree → Type 0
  Below n = IsReadBelow sig metas vars n c ts

  abbrev Made : ℕ → Way → SchemeTree → Type 0
  Made p = IsProduct sig metas vars p c ts

  -- a term is a group, a metavariable, a variable or a product
  pub term_read : (n : ℕ) (w : Way) (s : SchemeTree) → length sig.prods ≤ n → IsReadBelow sig metas vars n c ts w s ↔ ReadsTermAt sig metas vars c ts w s
  term_read n w s h = (back w s, λ r. subst (λ v. Below n v s) r.1 (there r.0))
    where
      there : {s : SchemeTree} → (r : ReadsTerm sig metas vars c ts s) → Below n (way_of_term r) s
      there (group {inner = inner} e r) = inl (inner, way_of_term r, e, refl, (r, refl))
      there (metavariable {rest = rest} {m = m} {decl = decl} {vs = vs} e found cat r) = inr (inl (m, decl, found, (cat, rest, e, (vs, r, refl, refl))))
      there (variable {w = w} e k) = inr (inr (inl (refl, w, e, k)))
      there (production {p = p} {prod = prod} {words = words} {xs = xs} found cat r) =
          let lt = slice_get_within sig.prods p prod found in
          let within : p < n = omega arith in
          inr (inr (inr (p, within, (prod, found, cat, (words, (xs, r, refl, refl))))))

      back : (w : Way) (s : SchemeTree) → Below n w s → ReadsTermAt sig metas vars c ts w s
      back w s (inl k) = (group k.2 k.4.0, ap around_way k.4.1 ∙ sym k.3)
      back w s (inr (inl k)) =
          let read = k.3.3 in
          let here : ReadsTermAt sig metas vars c ts w (meta k.0 read.0) = (metavariable k.3.2 k.2 k.3.0 read.1, sym read.2) in
          subst (ReadsTermAt sig metas vars c ts w) (sym read.3) here
      back w s (inr (inr (inl k))) = (variable k.2 k.3, sym k.0)
      back w s (inr (inr (inr k))) =
          let read = k.2.3.1 in
          let here : ReadsTermAt sig metas vars c ts w (con k.0 read.0) = (production {words = k.2.3.0} k.2.1 k.2.2 read.1, sym read.2) in
          subst (ReadsTermAt sig metas vars c ts w) (sym read.3) here

  pub all_terms : (w : Way) (s : SchemeTree) (n : ℕ) → IsReadBelow sig metas vars n c ts w s → ReadsTermAt sig metas vars c ts w s
  all_terms w s n (inl h) = (term_read (length sig.prods) w s (omega arith)).0 (inl h)
  all_terms w s n (inr (inl h)) = (term_read (length sig.prods) w s (omega arith)).0 (inr (inl h))
  all_terms w s n (inr (inr (inl h))) = (term_read (length sig.prods) w s (omega arith)).0 (inr (inr (inl h)))
  all_terms w s n (inr (inr (inr h))) =
      (term_read (length sig.prods) w s (omega arith)).0 (inr (inr (inr (h.0, slice_get_within sig.prods h.0 h.2.0 h.2.1, h.2))))

  pub terms_ordered : NamesApart metas → AreOrdered (ReadsTermAt sig metas vars c ts)
  terms_ordered apart v w s t p q = order_law sig metas vars c ts v w s t apart p q

  -- the productions below one number more
  pub one_product_more : (n : ℕ) (w : Way) (s : SchemeTree) → (Below n w s ⊎ Made n w s) ↔ Below (n + 1) w s
  one_product_more n w s = (there, back)
    where
      there : Below n w s ⊎ Made n w s → Below (n + 1) w s
      there (inl (inl h)) = inl h
      there (inl (inr (inl h))) = inr (inl h)
      there (inl (inr (inr (inl h)))) = inr (inr (inl h))
      there (inl (inr (inr (inr h)))) = inr (inr (inr (h.0, omega (arith, h.1), h.2)))
      there (inr h) = inr (inr (inr (n, omega arith, h)))

      last : (h : (p : ℕ) × (p < n + 1) × Made p w s) → (h.0 < n) ⊎ (n ≤ h.0) → Below n w s ⊎ Made n w s
      last h (inl lt) = inl (inr (inr (inr (h.0, lt, h.2))))
      last h (inr le) = inr (subst (λ p. Made p w s) (let e : h.0 ≡ n = omega (arith, h.1) in e) h.2)

      back : Below (n + 1) w s → Below n w s ⊎ Made n w s
      back (inl h) = inl (inl h)
      back (inr (inl h)) = inl (inr (inl h))
      back (inr (inr (inl h))) = inl (inr (inr (inl h)))
      back (inr (inr (inr h))) = last h (cases_lt h.0 n)

  products_apart : (n m : ℕ) → n ≤ m → (k l : Way) (a x : SchemeTree) → Below n k a → Made m l x → IsBefore k l
  products_apart n m le k l a x (inl p) q = lower 0 (3 + m) [] _ (then_way p.1 no_ways) _ k l (omega arith) p.3 q.3.1.2
  products_apart n m le k l a x (inr (inl p)) q = lower 1 (3 + m) _ _ _ _ k l (omega arith) p.3.3.2 q.3.1.2
  products_apart n m le k l a x (inr (inr (inl p))) q = lower 2 (3 + m) [] _ no_ways _ k l (omega arith) p.0 q.3.1.2
  products_apart n m le k l a x (inr (inr (inr p))) q = lower (3 + p.0) (3 + m) _ _ _ _ k l (omega (arith, p.1)) p.2.3.1.2 q.3.1.2

  -- groups, metavariables and variables, before any production
  pub no_product : NamesApart metas → (xs ys zs us vs : List (Way × SchemeTree)) → AreFirst IsBefore (IsGroup sig metas vars c ts) xs
      → AreFirst IsBefore (IsName sig metas vars c ts) ys → AreFirst IsBefore (IsVariable sig metas vars c ts) zs → IsJoined xs ys us → IsJoined us zs vs
      → AreFirst IsBefore (IsReadBelow sig metas vars 0 c ts) vs
  no_product apart xs ys zs us vs f g h j k =
      joined_first (ReadsTermAt sig metas vars c ts) Two (IsVariable sig metas vars c ts) (Below 0) us zs vs (terms_ordered apart) (λ w s r. all_terms w s 0 r) (λ w s. (there w s, back w s))
      (joined_first (ReadsTermAt sig metas vars c ts) (IsGroup sig metas vars c ts) (IsName sig metas vars c ts) Two xs ys us (terms_ordered apart)
      (λ w s r. all_terms w s 0 (there w s (inl r))) (λ w s. (λ r. r, λ r. r)) f g j) h k
    where
      Two : Way → SchemeTree → Type 0
      Two w s = IsGroup sig metas vars c ts w s ⊎ IsName sig metas vars c ts w s

      there : (w : Way) (s : SchemeTree) → (IsGroup sig metas vars c ts w s ⊎ IsName sig metas vars c ts w s) ⊎ IsVariable sig metas vars c ts w s → Below 0 w s
      there w s (inl (inl h)) = inl h
      there w s (inl (inr h)) = inr (inl h)
      there w s (inr h) = inr (inr (inl h))

      back : (w : Way) (s : SchemeTree) → Below 0 w s → (IsGroup sig metas vars c ts w s ⊎ IsName sig metas vars c ts w s) ⊎ IsVariable sig metas vars c ts w s
      back w s (inl h) = inl (inl h)
      back w s (inr (inl h)) = inl (inr h)
      back w s (inr (inr (inl h))) = inr h
      back w s (inr (inr (inr h))) = absurd (omega (arith, h.1))

  pub product_joined : NamesApart metas → (n : ℕ) (xs ys zs : List (Way × SchemeTree)) → AreFirst IsBefore (IsReadBelow sig metas vars n c ts) xs
      → AreFirst IsBefore (IsProduct sig metas vars n c ts) ys → IsJoined xs ys zs → AreFirst IsBefore (IsReadBelow sig metas vars (n + 1) c ts) zs
  product_joined apart n xs ys zs f g j =
      joined_first (ReadsTermAt sig metas vars c ts) (Below n) (Made n) (Below (n + 1)) xs ys zs (terms_ordered apart) (λ w s r. all_terms w s (n + 1) r) (λ w s. one_product_more n w s) f g j

  -- two readings before some productions are the first two
  pub read_enough : (n : ℕ) (xs : List (Way × SchemeTree)) → length xs ≡ 2 → AreFirst IsBefore (IsReadBelow sig metas vars n c ts) xs
      → AreFirst IsBefore (ReadsTermAt sig metas vars c ts) xs
  read_enough n xs two f =
      two_first (Below n) Later (ReadsTermAt sig metas vars c ts) xs two (λ w s. (there w s, back w s)) (λ v w s t p q. products_apart n q.0 q.1 v w s t p q.2) f
    where
      Later : Way → SchemeTree → Type 0
      Later w s = (p : ℕ) × (n ≤ p) × Made p w s

      there : (w : Way) (s : SchemeTree) → Below n w s ⊎ Later w s → ReadsTermAt sig metas vars c ts w s
      there w s (inl h) = all_terms w s n h
      there w s (inr h) = (term_read (length sig.prods) w s (omega arith)).0 (inr (inr (inr (h.0, slice_get_within sig.prods h.0 h.2.0 h.2.1, h.2))))

      which : (w : Way) (s : SchemeTree) (h : (p : ℕ) × (p < length sig.prods) × Made p w s) → (h.0 < n) ⊎ (n ≤ h.0) → Below n w s ⊎ Later w s
      which w s h (inl lt) = inl (inr (inr (inr (h.0, lt, h.2))))
      which w s h (inr le) = inr (h.0, le, h.2)

      split : (w : Way) (s : SchemeTree) → Below (length sig.prods) w s → Below n w s ⊎ Later w s
      split w s (inl h) = inl (inl h)
      split w s (inr (inl h)) = inl (inr (inl h))
      split w s (inr (inr (inl h))) = inl (inr (inr (inl h)))
      split w s (inr (inr (inr h))) = which w s h (cases_lt h.0 n)

      back : (w : Way) (s : SchemeTree) → ReadsTermAt sig metas vars c ts w s → Below n w s ⊎ Later w s
      back w s r = split w s ((term_read (length sig.prods) w s (omega arith)).1 r)

  pub all_read_terms : (n : ℕ) (xs : List (Way × SchemeTree)) → length sig.prods ≤ n → AreFirst IsBefore (IsReadBelow sig metas vars n c ts) xs
      → AreFirst IsBefore (ReadsTermAt sig metas vars c ts) xs
  all_read_terms n xs le f = same_first (Below n) (ReadsTermAt sig metas vars c ts) xs (λ w s. term_read n w s le) f

  -- a group, where what stands in it is read
  pub group_read : (mid : List Token) (xs : List (Way × SchemeTree)) → ts ≡ punctuation 40 ∷ (mid ++ punctuation 41 ∷ [])
      → AreFirst IsBefore (ReadsTermAt sig metas vars c mid) xs → AreFirst IsBefore (IsGroup sig metas vars c ts) (map around xs)
  group_read mid xs is f = record { have = have; in_order = order xs f.in_order; all = all }
    where
      have : (w : Way) (s : SchemeTree) → IsOneOf (w, s) (map around xs) → IsGroup sig metas vars c ts w s
      have w s i =
          let r = of_map around (w, s) xs i in (
            mid,
            r.0.0,
            is,
            ap (λ (x : Way × SchemeTree). x.0) r.2,
            subst (ReadsTermAt sig metas vars c mid r.0.0) (sym (ap (λ (x : Way × SchemeTree). x.1) r.2)) (f.have r.0.0 r.0.1 r.1),
          )

      order : (ys : List (Way × SchemeTree)) → AreInOrder IsBefore ys → AreInOrder IsBefore (map around ys)
      order [] o = tt
      order (a ∷ []) o = tt
      order (a ∷ (b ∷ [])) o = (inr (refl, inr (refl, inl o.0)), o.1)
      order (a ∷ (b ∷ (d ∷ ys))) o = absurd o

      by : (v u w : Way) → w ≡ around_way u → IsBy IsBefore v u → IsBy IsBefore (around_way v) w
      by v u w e (inl b) = inl (subst (IsBefore (around_way v)) (sym e) (inr (refl, inr (refl, inl b))))
      by v u w e (inr same) = inr (ap around_way same ∙ sym e)

      told : (w u : Way) (s : SchemeTree) → w ≡ around_way u → IsListed IsBefore xs u s ⊎ ComesAfterTwo IsBefore xs u
          → IsListed IsBefore (map around xs) w s ⊎ ComesAfterTwo IsBefore (map around xs) w
      told w u s e (inl h) = inl (around_way h.0, in_map around (h.0, s) xs h.1, by h.0 u w e h.2)
      told w u s e (inr h) = inr (
        around h.0,
        around h.1,
        in_map around h.0 xs h.2,
        in_map around h.1 xs h.3,
        h.4,
        subst (IsBefore (around_way h.0.0)) (sym e) (inr (refl, inr (refl, inl h.5))),
        subst (IsBefore (around_way h.1.0)) (sym e) (inr (refl, inr (refl, inl h.6))),
      )

      all : (w : Way) (s : SchemeTree) → IsGroup sig metas vars c ts w s → IsListed IsBefore (map around xs) w s ⊎ ComesAfterTwo IsBefore (map around xs) w
      all w s (inner, v, e, at, r) =
          let two : punctuation 40 ∷ (inner ++ punctuation 41 ∷ []) ≡ punctuation 40 ∷ (mid ++ punctuation 41 ∷ []) = sym e ∙ is in
          let inside : inner ++ punctuation 41 ∷ [] ≡ mid ++ punctuation 41 ∷ [] = cc in
          let same : inner ≡ mid = append_cancel_right inner mid (punctuation 41 ∷ []) inside in
          told w v s at (f.all v s (subst (λ us. ReadsTermAt sig metas vars c us v s) same r))

module _ (sig : Signature) (metas : List MetaDecl) (vars : List Variable) (c : ℕ) (ts : List Token) (n to : ℕ) (some : n ≤ to) (k : to ≤ length ts) where
  -- no group in fewer than two tokens
  pub group_short : to - n < 2 → AreFirst IsBefore (IsGroup sig metas vars c (slice_range ts n to)) []
  group_short short = no_first _ (λ w s h.
      (let l = ap length h.2 in
      let two : length (h.0 ++ punctuation 41 ∷ []) ≡ length h.0 + 1 = length-append h.0 (punctuation 41 ∷ []) in
      absurd (omega (arith, l, two, range_length ts n to some k))))

  -- no group without its parentheses
  pub no_group : (slice_get ts n ≡ Some (punctuation 40) → slice_get ts (to - 1) ≡ Some (punctuation 41) → ⊥)
      → AreFirst IsBefore (IsGroup sig metas vars c (slice_range ts n to)) []
  no_group none = no_first _ (λ w s h.
      (let b = range_begins ts n to (punctuation 40) (h.0 ++ punctuation 41 ∷ []) some k (sym h.2) in
      let f = range_front ts n to (punctuation 40 ∷ h.0) (punctuation 41 ∷ []) some k h.2 in
      let place = n + length (punctuation 40 ∷ h.0) in
      let e = range_begins ts place to (punctuation 41) [] f.0 k (sym f.2) in
      let next : place + 1 ≤ to = omega (arith, e.0) in
      let end : place + 1 ≡ to = range_end ts (place + 1) to next k e.2 in
      let last : place ≡ to - 1 = omega (arith, end) in
      none b.1 (subst (λ i. slice_get ts i ≡ Some (punctuation 41)) last e.1)))

  pub group_in_range : (xs : List (Way × SchemeTree)) → n + 2 ≤ to → slice_get ts n ≡ Some (punctuation 40) → slice_get ts (to - 1) ≡ Some (punctuation 41)
      → AreFirst IsBefore (ReadsTermAt sig metas vars c (slice_range ts (n + 1) (to - 1))) xs
      → AreFirst IsBefore (IsGroup sig metas vars c (slice_range ts n to)) (map around xs)
  group_in_range xs two first last f =
      let lt : n < to = omega arith in
      let mid : n + 1 ≤ to - 1 = omega arith in
      let le : to - 1 ≤ to = omega arith in
      let end : to - 1 < to = omega arith in
      let next : to - 1 + 1 ≡ to = omega arith in
      let rest : slice_range ts (to - 1) to ≡ punctuation 41 ∷ [] =
      range_cons ts (to - 1) to (punctuation 41) end k last ∙ ap (λ vs. punctuation 41 ∷ vs) (ap (λ i. slice_range ts i to) next ∙ range_none ts to k) in
      group_read sig metas vars c (slice_range ts n to) (slice_range ts (n + 1) (to - 1)) xs
      (range_cons ts n to (punctuation 40) lt k first
      ∙ ap (λ vs. punctuation 40 ∷ vs) (range_two ts (n + 1) (to - 1) to mid le k ∙ ap (λ vs. slice_range ts (n + 1) (to - 1) ++ vs) rest)) f

  -- no metavariable where no token is its name
  pub no_name : ((m : ℕ) (decl : MetaDecl) → decl.cat.0 ≡ c → slice_get metas m ≡ Some decl → n < to → slice_get ts n ≡ Some (word decl.name) → ⊥)
      → AreFirst IsBefore (IsName sig metas vars c (slice_range ts n to)) []
  no_name none = no_first _ (λ w s h.
      (let b = range_begins ts n to (word h.1.name) h.3.1 some k (sym h.3.2) in none h.0 h.1 h.3.0 h.2 b.0 b.1))

  -- a name tells the metavariable
  pub same_name : NamesApart metas → (m : ℕ) (decl : MetaDecl) → slice_get metas m ≡ Some decl → slice_get ts n ≡ Some (word decl.name)
      → (i : ℕ) (d : MetaDecl) → slice_get metas i ≡ Some d → slice_get ts n ≡ Some (word d.name) → (i ≡ m) × (d ≡ decl)
  same_name apart m decl at here i d found this =
      let two : Some (word d.name) ≡ Some (word decl.name) = sym this ∙ here in
      let first : word d.name ≡ word decl.name = cc in
      name_tells metas i m d decl apart found at (ap (λ (t : Token). t.1) first)

  pub name_read : NamesApart metas → (m : ℕ) (decl : MetaDecl) (xs : List (Way × SchemeTree)) → slice_get metas m ≡ Some decl → decl.cat.0 ≡ c → n < to
      → slice_get ts n ≡ Some (word decl.name)
      → AreFirst IsBefore (ReadsBracketsAt sig metas vars (map (λ p. p.0) decl.params) m (slice_range ts (n + 1) to)) xs
      → AreFirst IsBefore (IsName sig metas vars c (slice_range ts n to)) xs
  name_read apart m decl xs at cat lt here f = same_first _ (IsName sig metas vars c (slice_range ts n to)) xs (λ w s. (there w s, back w s)) f
    where
      whole : slice_range ts n to ≡ word decl.name ∷ slice_range ts (n + 1) to
      whole = range_cons ts n to (word decl.name) lt k here

      there : (w : Way) (s : SchemeTree) → ReadsBracketsAt sig metas vars (map (λ p. p.0) decl.params) m (slice_range ts (n + 1) to) w s
          → IsName sig metas vars c (slice_range ts n to) w s
      there w s r = (m, decl, at, (cat, slice_range ts (n + 1) to, whole, r))

      back : (w : Way) (s : SchemeTree) → IsName sig metas vars c (slice_range ts n to) w s
          → ReadsBracketsAt sig metas vars (map (λ p. p.0) decl.params) m (slice_range ts (n + 1) to) w s
      back w s (i, d, found, (e, rest, is, r)) =
          let b = range_begins ts n to (word d.name) rest some k (sym is) in
          let same = same_name apart m decl at here i d found b.1 in
          subst (λ us. ReadsBracketsAt sig metas vars (map (λ p. p.0) decl.params) m us w s) b.2
          (subst (λ (x : MetaDecl). ReadsBracketsAt sig metas vars (map (λ p. p.0) x.params) m rest w s) same.1
          (subst (λ j. ReadsBracketsAt sig metas vars (map (λ p. p.0) d.params) j rest w s) same.0 r))
