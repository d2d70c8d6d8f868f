-- The readings of a term by their cases, and of a production or a metavariable by its splits.
use Rattle.std.proofs.Common.{◌≡◌, ◌≢◌, ◌⊎◌, ◌↔◌, ℕ, zero, suc, ◌+◌, ◌<◌, ◌≤◌, List, [], ◌∷◌, ◌++◌, length, map, take, drop, inl, inr, refl, ap, ◌∙◌, sym, subst, get_or, arith, Some, slice_get, slice_range}
use Rattle.std.specs.List.{Contains, AllByRecursion}
use Rattle.std.proofs.lemmas.List.{drop_more, take-append-drop, map_more, map-append, append_cancel_right}
use Rattle.std.proofs.lemmas.List.Elements.{Contains-push, Contains-push_cases, Contains-append_left, Contains-append_right, Contains-append_cases}
use Rattle.std.proofs.lemmas.Bool.{cases_lt}
use Rattle.std.proofs.lemmas.Option.{slice_get_within}
use Rattle.binding_terms.specs.Signature.{Signature, binders}
use Rattle.binding_terms.specs.declared.grammar.CatId.{CatId}
use Rattle.binding_terms.specs.declared.grammar.Item.{Item}
use Rattle.binding_terms.specs.declared.grammar.Prod.{Prod}
use Rattle.scheme_terms.specs.SchemeTree.{SchemeTree, meta, con, Values, values, Parts, no_parts, part}
use Rattle.scheme_terms.specs.declared.scheme.MetaDecl.{MetaDecl}
use Rattle.rule_schemes.specs.Reading.{Token, word, punctuation, Variable, variables_of, slot_variables, bare, ReadsTerm, group, metavariable, variable, production}
use Rattle.rule_schemes.specs.Said.{Way, way, Ways, no_ways, then_way, IsBefore, AreBefore, item_lengths, bracket_lengths, way_of_term, ways_of_brackets, ways_of_items}
use Rattle.term_reader.specs.Cases.{IsGroup, IsName, IsNameOf, IsNameBelow, IsVariable, IsMade, IsProduct, IsReadBelow}
use Rattle.scheme_terms.specs.View.{scheme}
use Rattle.scheme_terms.specs.declared.scheme.Scheme.{Scheme}
use Rattle.term_reader.specs.Firsts.{listed, AreFirst, AreJoined, paired, with_last, IsFull}
use Rattle.term_reader.specs.declared.firsts.Firsts.{Firsts}
use Rattle.term_reader.specs.declared.sheet.Sheet.{Sheet}
use Rattle.term_reader.specs.declared.splitting.Split.{Split}
use Rattle.term_reader.specs.declared.reading.Head.{Head}
use Rattle.term_reader.specs.declared.reading.Head.TheVariants.{Product, Meta}
use Rattle.term_reader.specs.Ordered.{ReadsTermAt, ReadsBracketsAt, ReadsItemsAt}
use Rattle.term_reader.specs.Names.{NamesApart}
use Rattle.term_reader.specs.Splitting.{SlotRange, Divided, split, IsSplit, IsBracketed, AreSplits, AreInOrder, AreKnown, Stands, tokens_of, lengths, ReadsPieces, built, IsMapped, IsMadeIn}
use Rattle.term_reader.proofs.Finding.{AreFirst-same, AreFirst-joined, AreFirst-full, AreFirst-map, IsPair, AreFirst-paired}
use Rattle.term_reader.proofs.PartLemmas.{with_last_apart}
use Rattle.term_reader.proofs.Pieces.{numbers, words_of, known_own, own_words, split_from, read_split, brackets_from, brackets_read}
use Rattle.term_reader.proofs.SplitLemmas.{in_order_apart}
use Rattle.binding_terms.proofs.Lists.{all_at, all_contained}

-- two metavariables with one name
two_names : (metas : List MetaDecl) (m n : ℕ) (d e : MetaDecl) → NamesApart metas → m < n → slice_get metas m ≡ Some d → slice_get metas n ≡ Some e → d.name ≡ e.name → ⊥
two_names [] m n d e apart lt p q same = cc
two_names (x ∷ metas) zero zero d e apart lt p q same = absurd (omega arith)
two_names (x ∷ metas) zero (suc n) d e apart lt p q same =
    let is : x ≡ d = cc in
    all_at (λ (y : MetaDecl). x.name ≢ y.name) metas n e apart.0 q (ap (λ (y : MetaDecl). y.name) is ∙ same)
two_names (x ∷ metas) (suc m) zero d e apart lt p q same = absurd (omega arith)
two_names (x ∷ metas) (suc m) (suc n) d e apart lt p q same = two_names metas m n d e apart.1 (omega arith) p q same

-- alternatives with a lower number stand first
lower : (a b : ℕ) (ls ks : List ℕ) (vs ws : Ways) (k l : Way) → a < b → k ≡ way a ls vs → l ≡ way b ks ws → IsBefore k l
lower a b ls ks vs ws k l lt p q = subst (λ x. IsBefore x l) (sym p) (subst (IsBefore (way a ls vs)) (sym q) (inl lt))

module _ (sig : Signature) (metas : List MetaDecl) (vars : List Variable) (c : ℕ) (ts : List Token) where
  -- the metavariables below one number more
  pub one_name_more : (n : ℕ) (decl : MetaDecl) (w : Way) (s : SchemeTree) → slice_get metas n ≡ Some decl
      → (IsNameBelow n sig metas vars c ts w s ⊎ IsNameOf sig metas vars n decl c ts w s) ↔ IsNameBelow (n + 1) sig metas vars c ts w s
  one_name_more n decl w s e = (there, λ h. back h (cases_lt h.0 n))
    where
      there : IsNameBelow n sig metas vars c ts w s ⊎ IsNameOf sig metas vars n decl c ts w s → IsNameBelow (n + 1) sig metas vars c ts w s
      there (inl h) = (h.0, omega (arith, h.1), h.2, h.3, h.4)
      there (inr h) = (n, omega arith, decl, e, h)

      back : (h : IsNameBelow (n + 1) sig metas vars c ts w s) → (h.0 < n) ⊎ (n ≤ h.0) → IsNameBelow n sig metas vars c ts w s ⊎ IsNameOf sig metas vars n decl c ts w s
      back h (inl lt) = inl (h.0, lt, h.2, h.3, h.4)
      back h (inr le) =
          let same : h.0 ≡ n = omega (arith, h.1) in
          let found : Some h.2 ≡ Some decl = sym h.3 ∙ ap (slice_get metas) same ∙ e in
          let decl_is : h.2 ≡ decl = cc in
          inr (subst (λ m. IsNameOf sig metas vars m decl c ts w s) same (subst (λ d. IsNameOf sig metas vars h.0 d c ts w s) decl_is h.4))

  pub all_names : (n : ℕ) (w : Way) (s : SchemeTree) → length metas ≤ n → IsNameBelow n sig metas vars c ts w s ↔ IsName sig metas vars c ts w s
  all_names n w s h = (
    λ k. (k.0, k.2, k.3, k.4),
    λ k. (k.0, (let lt = slice_get_within metas k.0 k.1 k.2 in omega arith), k.1, k.2, k.3),
  )

  -- at most one metavariable reads
  pub names_apart : (n : ℕ) (decl : MetaDecl) → NamesApart metas → slice_get metas n ≡ Some decl → (k l : Way) (a x : SchemeTree)
      → IsNameBelow n sig metas vars c ts k a → IsNameOf sig metas vars n decl c ts l x → IsBefore k l
  names_apart n decl apart e k l a x p q =
      let both : word p.2.name ∷ p.4.6 ≡ word decl.name ∷ q.6 = sym p.4.7 ∙ q.7 in
      let first : word p.2.name ≡ word decl.name = cc in
      let same : p.2.name ≡ decl.name = ap (λ (t : Token). t.1) first in
      absurd (two_names metas p.0 n p.2 decl apart p.1 p.3 e same)

  -- no metavariable with another category or another name, or without a token
  pub no_name : (n : ℕ) (decl : MetaDecl) → ((rest : List Token) → decl.cat.0 ≡ c → ts ≡ word decl.name ∷ rest → ⊥) → AreFirst IsBefore (IsNameOf sig metas vars n decl c ts) []
  no_name n decl h = λ w s k. h k.6 k.5 k.7

  -- the productions below one number more
  pub one_product_more : (n : ℕ) (w : Way) (s : SchemeTree)
      → (IsReadBelow n sig metas vars c ts w s ⊎ IsProduct sig metas vars n c ts w s) ↔ IsReadBelow (n + 1) sig metas vars c ts w s
  one_product_more n w s = (there, back)
    where
      there : IsReadBelow n sig metas vars c ts w s ⊎ IsProduct sig metas vars n c ts w s → IsReadBelow (n + 1) sig metas vars c ts w s
      there (inl (inl h)) = inl h
      there (inl (inr (inl h))) = inr (inl h)
      there (inl (inr (inr (inl h)))) = inr (inr (inl h))
      there (inl (inr (inr (inr h)))) = inr (inr (inr (h.0, omega (arith, h.1), h.2)))
      there (inr h) = inr (inr (inr (n, omega arith, h)))

      last : (h : (p : ℕ) × (p < n + 1) × IsProduct sig metas vars p c ts w s) → (h.0 < n) ⊎ (n ≤ h.0) → IsReadBelow n sig metas vars c ts w s ⊎ IsProduct sig metas vars n c ts w s
      last h (inl lt) = inl (inr (inr (inr (h.0, lt, h.2))))
      last h (inr le) = inr (subst (λ p. IsProduct sig metas vars p c ts w s) (let e : h.0 ≡ n = omega (arith, h.1) in e) h.2)

      back : IsReadBelow (n + 1) sig metas vars c ts w s → IsReadBelow n sig metas vars c ts w s ⊎ IsProduct sig metas vars n c ts w s
      back (inl h) = inl (inl h)
      back (inr (inl h)) = inl (inr (inl h))
      back (inr (inr (inl h))) = inl (inr (inr (inl h)))
      back (inr (inr (inr h))) = last h (cases_lt h.0 n)

  pub products_apart : (n m : ℕ) → n ≤ m → (k l : Way) (a x : SchemeTree)
      → IsReadBelow n sig metas vars c ts k a → IsProduct sig metas vars m c ts l x → IsBefore k l
  products_apart n m le k l a x (inl p) q =
      let made = q.3 in lower 0 (3 + m) [] made.1 (then_way p.1 no_ways) made.2 k l (omega arith) p.3 made.3
  products_apart n m le k l a x (inr (inl p)) q =
      let made = q.3 in
      let named = p.3 in
      lower 1 (3 + m) named.1 made.1 named.2 made.2 k l (omega arith) named.3 made.3
  products_apart n m le k l a x (inr (inr (inl p))) q =
      let made = q.3 in lower 2 (3 + m) [] made.1 no_ways made.2 k l (omega arith) p.0 made.3
  products_apart n m le k l a x (inr (inr (inr p))) q =
      let made = q.3 in
      let other = p.2.3 in
      lower (3 + p.0) (3 + m) other.1 made.1 other.2 made.2 k l (omega (arith, p.1)) other.3 made.3

  pub groups_first : (k l : Way) (a x : SchemeTree) → IsGroup sig metas vars c ts k a → IsName sig metas vars c ts l x → IsBefore k l
  groups_first k l a x p q = let named = q.3 in lower 0 1 [] named.1 (then_way p.1 no_ways) named.2 k l (omega arith) p.3 named.3

  pub variables_last : (k l : Way) (a x : SchemeTree) → IsGroup sig metas vars c ts k a ⊎ IsName sig metas vars c ts k a → IsVariable vars c ts l x → IsBefore k l
  variables_last k l a x (inl p) q = lower 0 2 [] [] (then_way p.1 no_ways) no_ways k l (omega arith) p.3 q.0
  variables_last k l a x (inr p) q = let named = p.3 in lower 1 2 named.1 [] named.2 no_ways k l (omega arith) named.3 q.0

  -- groups, metavariables and variables, before any production
  pub no_product : (w : Way) (s : SchemeTree)
      → ((IsGroup sig metas vars c ts w s ⊎ IsName sig metas vars c ts w s) ⊎ IsVariable vars c ts w s) ↔ IsReadBelow 0 sig metas vars c ts w s
  no_product w s = (there, back)
    where
      there : (IsGroup sig metas vars c ts w s ⊎ IsName sig metas vars c ts w s) ⊎ IsVariable vars c ts w s → IsReadBelow 0 sig metas vars c ts w s
      there (inl (inl h)) = inl h
      there (inl (inr h)) = inr (inl h)
      there (inr h) = inr (inr (inl h))

      back : IsReadBelow 0 sig metas vars c ts w s → (IsGroup sig metas vars c ts w s ⊎ IsName sig metas vars c ts w s) ⊎ IsVariable vars c ts w s
      back (inl h) = inl (inl h)
      back (inr (inl h)) = inl (inr h)
      back (inr (inr (inl h))) = inr h
      back (inr (inr (inr h))) = absurd (omega (arith, h.1))

  -- the productions below a number, and those from it on
  pub later_products : (n m : ℕ) (w : Way) (s : SchemeTree) → n ≤ m
      → (IsReadBelow n sig metas vars c ts w s ⊎ ((p : ℕ) × (n ≤ p) × (p < m) × IsProduct sig metas vars p c ts w s)) ↔ IsReadBelow m sig metas vars c ts w s
  later_products n m w s le = (there, back)
    where
      there : IsReadBelow n sig metas vars c ts w s ⊎ ((p : ℕ) × (n ≤ p) × (p < m) × IsProduct sig metas vars p c ts w s) → IsReadBelow m sig metas vars c ts w s
      there (inl (inl h)) = inl h
      there (inl (inr (inl h))) = inr (inl h)
      there (inl (inr (inr (inl h)))) = inr (inr (inl h))
      there (inl (inr (inr (inr h)))) = inr (inr (inr (h.0, omega (arith, h.1), h.2)))
      there (inr h) = inr (inr (inr (h.0, h.2, h.3)))

      which : (h : (p : ℕ) × (p < m) × IsProduct sig metas vars p c ts w s) → (h.0 < n) ⊎ (n ≤ h.0)
          → IsReadBelow n sig metas vars c ts w s ⊎ ((p : ℕ) × (n ≤ p) × (p < m) × IsProduct sig metas vars p c ts w s)
      which h (inl lt) = inl (inr (inr (inr (h.0, lt, h.2))))
      which h (inr ge) = inr (h.0, ge, h.1, h.2)

      back : IsReadBelow m sig metas vars c ts w s → IsReadBelow n sig metas vars c ts w s ⊎ ((p : ℕ) × (n ≤ p) × (p < m) × IsProduct sig metas vars p c ts w s)
      back (inl h) = inl (inl h)
      back (inr (inl h)) = inl (inr (inl h))
      back (inr (inr (inl h))) = inl (inr (inr (inl h)))
      back (inr (inr (inr h))) = which h (cases_lt h.0 n)

  -- a term is a group, a metavariable, a variable or a product
  pub term_read : (n : ℕ) (w : Way) (s : SchemeTree) → length sig.prods ≤ n → IsReadBelow n sig metas vars c ts w s ↔ ReadsTermAt sig metas vars c ts w s
  term_read n w s h = (back w s, λ r. subst (λ v. IsReadBelow n sig metas vars c ts v s) r.1 (there r.0))
    where
      there : {s : SchemeTree} → (r : ReadsTerm sig metas vars c ts s) → IsReadBelow n sig metas vars c ts (way_of_term r) s
      there (group {inner = inner} e r) = inl (inner, way_of_term r, e, refl, (r, refl))
      there (metavariable {rest = rest} {m = m} {decl = decl} {vs = vs} e found cat r) =
          inr (inl (m, decl, found, (vs, bracket_lengths r, ways_of_brackets r, refl, refl, cat, rest, e, (r, refl, refl))))
      there (variable {w = w} e k) = inr (inr (inl (refl, w, e, k)))
      there (production {p = p} {prod = prod} {words = words} {xs = xs} found cat r) =
          let lt = slice_get_within sig.prods p prod found in
          inr (inr (inr (p, omega arith, (prod, found, cat, (xs, item_lengths r, ways_of_items r, refl, refl, words, (r, refl, refl))))))

      back : (w : Way) (s : SchemeTree) → IsReadBelow n sig metas vars c ts w s → ReadsTermAt sig metas vars c ts w s
      back w s (inl k) = (group k.2 k.4.0, ap (λ v. way 0 [] (then_way v no_ways)) k.4.1 ∙ sym k.3)
      back w s (inr (inl k)) =
          let named = k.3 in
          let read = named.8 in
          let here : ReadsTermAt sig metas vars c ts w (meta k.0 named.0) =
          (metavariable named.7 k.2 named.5 read.0, ap (λ ls. way 1 ls (ways_of_brackets read.0)) read.1 ∙ ap (way 1 named.1) read.2 ∙ sym named.3) in
          subst (ReadsTermAt sig metas vars c ts w) (sym named.4) here
      back w s (inr (inr (inl k))) = (variable k.2 k.3, sym k.0)
      back w s (inr (inr (inr k))) =
          let made = k.2.3 in
          let read = made.6 in
          let here : ReadsTermAt sig metas vars c ts w (con k.0 made.0) =
          (production {words = made.5} k.2.1 k.2.2 read.0, ap (λ ls. way (3 + k.0) ls (ways_of_items read.0)) read.1 ∙ ap (way (3 + k.0) made.1) read.2 ∙ sym made.3) in
          subst (ReadsTermAt sig metas vars c ts w) (sym made.4) here

  pub is_product : (p : ℕ) (prod : Prod) (w : Way) (s : SchemeTree) → slice_get sig.prods p ≡ Some prod → prod.cat.0 ≡ c
      → IsMade sig metas vars (3 + p) p prod.items ts w s ↔ IsProduct sig metas vars p c ts w s
  is_product p prod w s found cat = (λ m. (prod, found, cat, m), back)
    where
      back : IsProduct sig metas vars p c ts w s → IsMade sig metas vars (3 + p) p prod.items ts w s
      back h =
          let two : Some (h.0) ≡ Some prod = sym h.1 ∙ found in
          let same : h.0 ≡ prod = cc in
          subst (λ (q : Prod). IsMade sig metas vars (3 + p) p q.items ts w s) same h.3

  pub no_product_of : (p : ℕ) (prod : Prod) → slice_get sig.prods p ≡ Some prod → prod.cat.0 ≢ c → AreFirst IsBefore (IsProduct sig metas vars p c ts) []
  no_product_of p prod found other = λ w s h.
      (let two : Some (h.0) ≡ Some prod = sym h.1 ∙ found in
      let same : h.0 ≡ prod = cc in
      other (subst (λ (q : Prod). q.cat.0 ≡ c) same h.2))

  -- two readings before some productions are the first two
  pub read_enough : (n : ℕ) (found : Firsts Scheme) → IsFull found
      → AreFirst IsBefore (IsReadBelow n sig metas vars c ts) (listed scheme found) → AreFirst IsBefore (ReadsTermAt sig metas vars c ts) (listed scheme found)
  read_enough n found full f =
      let m = n + length sig.prods in
      let more : n ≤ m = omega arith in
      let all : length sig.prods ≤ m = omega arith in
      AreFirst-same IsBefore (IsReadBelow m sig metas vars c ts) (ReadsTermAt sig metas vars c ts) _ (λ w s. term_read m w s all)
      (AreFirst-same IsBefore _ (IsReadBelow m sig metas vars c ts) _ (λ w s. later_products n m w s more)
      (AreFirst-full IsBefore scheme (IsReadBelow n sig metas vars c ts) (λ w s. (p : ℕ) × (n ≤ p) × (p < m) × IsProduct sig metas vars p c ts w s) found full
      (λ k l a x h i. products_apart n i.0 i.1 k l a x h i.3) f))

  -- a group, where what stands in it is read
  pub group_read : (mid : List Token) (found : List SchemeTree) → ts ≡ punctuation 40 ∷ (mid ++ punctuation 41 ∷ [])
      → AreFirst IsBefore (ReadsTermAt sig metas vars c mid) found → AreFirst IsBefore (IsGroup sig metas vars c ts) found
  group_read mid found around f =
      subst (AreFirst IsBefore (IsGroup sig metas vars c ts)) (map_same found)
      (AreFirst-same IsBefore _ (IsGroup sig metas vars c ts) _
      (λ w s. (
        (λ k. (mid, k.0, around, k.2, subst (ReadsTermAt sig metas vars c mid k.0) (sym k.3) k.4)),
        (λ k. (let two : punctuation 40 ∷ (k.0 ++ punctuation 41 ∷ []) ≡ punctuation 40 ∷ (mid ++ punctuation 41 ∷ []) = sym k.2 ∙ around in
            let inner : k.0 ++ punctuation 41 ∷ [] ≡ mid ++ punctuation 41 ∷ [] = cc in
            (k.1, s, k.3, refl, subst (λ us. ReadsTermAt sig metas vars c us k.1 s) (append_cancel_right k.0 mid (punctuation 41 ∷ []) inner) k.4))),
      ))
      (AreFirst-map IsBefore IsBefore (λ v. way 0 [] (then_way v no_ways)) (λ s. s) (ReadsTermAt sig metas vars c mid) found
      (λ k l b. inr (refl, inr (refl, inl b))) (λ k l a b p q e. e) f))
    where
      map_same : (xs : List SchemeTree) → map (λ s. s) xs ≡ xs
      map_same [] = refl
      map_same (x ∷ xs) = ap (λ ys. x ∷ ys) (map_same xs)

-- places with one more at the end
abbrev pub ways_last : Ways → Way → Ways
ways_last no_ways w = then_way w no_ways
ways_last (then_way v vs) w = then_way v (ways_last vs w)

earlier_first : (ks ls : Ways) (v w : Way) → AreBefore ks ls → AreBefore (ways_last ks v) (ways_last ls w)
earlier_first no_ways ls v w b = absurd b
earlier_first (then_way k ks) no_ways v w b = absurd b
earlier_first (then_way k ks) (then_way l ls) v w (inl b) = inl b
earlier_first (then_way k ks) (then_way l ls) v w (inr b) = inr (b.0, earlier_first ks ls v w b.1)

earlier_last : (ks : Ways) (v w : Way) → IsBefore v w → AreBefore (ways_last ks v) (ways_last ks w)
earlier_last no_ways v w b = inl b
earlier_last (then_way k ks) v w b = inr (refl, earlier_last ks v w b)

module _ (sig : Signature) (metas : List MetaDecl) (ts : List Token) (vars own : List Variable) where
  -- one slot more after others
  pub slot_more : (ps : List SlotRange) (p : SlotRange) (found : List Parts) (bodies : List SchemeTree)
      → AreFirst AreBefore (ReadsPieces sig metas ts vars own ps) found
      → AreFirst IsBefore (ReadsTermAt sig metas (slot_variables own p.binds ++ vars) p.cat.0 (slice_range ts p.from p.to)) bodies
      → AreFirst AreBefore (ReadsPieces sig metas ts vars own (ps ++ p ∷ [])) (paired (with_last (length p.binds)) found bodies)
  slot_more ps p found bodies f g =
      AreFirst-same AreBefore _ (ReadsPieces sig metas ts vars own (ps ++ p ∷ [])) _ (λ ws xs. (there ws xs, back ps ws xs))
      (AreFirst-paired AreBefore IsBefore AreBefore ways_last (with_last (length p.binds)) (ReadsPieces sig metas ts vars own ps) Here
      (λ k i l j b. earlier_first k i l j b) (λ k i l j e b. subst (λ m. AreBefore (ways_last k l) (ways_last m j)) e (earlier_last k l j b))
      (λ a b c d e. with_last_apart (length p.binds) a b c d e) found bodies f g)
    where
      Here : Way → SchemeTree → Type 0
      Here = ReadsTermAt sig metas (slot_variables own p.binds ++ vars) p.cat.0 (slice_range ts p.from p.to)

      joins : (ps : List SlotRange) (ws : Ways) (xs : Parts) (w : Way) (s : SchemeTree) → ReadsPieces sig metas ts vars own ps ws xs → Here w s
          → ReadsPieces sig metas ts vars own (ps ++ p ∷ []) (ways_last ws w) (with_last (length p.binds) xs s)
      joins [] ws xs w s h k =
          subst (λ us. ReadsPieces sig metas ts vars own (p ∷ []) (ways_last us w) (with_last (length p.binds) xs s)) (sym h.0)
          (subst (λ ys. ReadsPieces sig metas ts vars own (p ∷ []) (then_way w no_ways) (with_last (length p.binds) ys s)) (sym h.1) (refl, k, (refl, refl)))
      joins (q ∷ ps) no_ways xs w s h k = absurd h
      joins (q ∷ ps) (then_way v ws) no_parts w s h k = absurd h
      joins (q ∷ ps) (then_way v ws) (part n a xs) w s h k = (h.0, h.1, joins ps ws xs w s h.2 k)

      there : (ws : Ways) (xs : Parts) → IsPair ways_last (with_last (length p.binds)) (ReadsPieces sig metas ts vars own ps) Here ws xs
          → ReadsPieces sig metas ts vars own (ps ++ p ∷ []) ws xs
      there ws xs h =
          subst (λ vs. ReadsPieces sig metas ts vars own (ps ++ p ∷ []) vs xs) (sym h.4)
          (subst (ReadsPieces sig metas ts vars own (ps ++ p ∷ []) (ways_last h.0 h.1)) (sym h.5) (joins ps h.0 h.2 h.1 h.3 h.6 h.7))

      back : (ps : List SlotRange) (ws : Ways) (xs : Parts) → ReadsPieces sig metas ts vars own (ps ++ p ∷ []) ws xs
          → IsPair ways_last (with_last (length p.binds)) (ReadsPieces sig metas ts vars own ps) Here ws xs
      back [] no_ways xs h = absurd h
      back [] (then_way w ws) no_parts h = absurd h
      back [] (then_way w ws) (part n s xs) h =
          (no_ways, w, no_parts, s, ap (then_way w) h.2.0, ap (λ m. part m s xs) h.0 ∙ ap (part (length p.binds) s) h.2.1, (refl, refl), h.1)
      back (q ∷ ps) no_ways xs h = absurd h
      back (q ∷ ps) (then_way w ws) no_parts h = absurd h
      back (q ∷ ps) (then_way w ws) (part n s xs) h =
          let r = back ps ws xs h.2 in
          (then_way w r.0, r.1, part n s r.2, r.3, ap (then_way w) r.4, ap (part n s) r.5, (h.0, h.1, r.6), r.7)

  -- what reads as slots one after another reads as the first of them
  prefix_reads : (front ps : List SlotRange) (ws : Ways) (xs : Parts) → ReadsPieces sig metas ts vars own (front ++ ps) ws xs
      → (vs : Ways) × (ys : Parts) × ReadsPieces sig metas ts vars own front vs ys
  prefix_reads [] ps ws xs r = (no_ways, no_parts, (refl, refl))
  prefix_reads (p ∷ front) ps no_ways xs r = absurd r
  prefix_reads (p ∷ front) ps (then_way w ws) no_parts r = absurd r
  prefix_reads (p ∷ front) ps (then_way w ws) (part n x xs) r =
      let k = prefix_reads front ps ws xs r.2 in (then_way w k.0, part n x k.1, (r.0, r.1, k.2))

  -- nothing is read once some of the slots do not read
  pub none_read : (front ps : List SlotRange) (found : List Parts) → AreFirst AreBefore (ReadsPieces sig metas ts vars own front) found → found ≡ []
      → AreFirst AreBefore (ReadsPieces sig metas ts vars own (front ++ ps)) found
  none_read front ps found f e =
      let none : (ws : Ways) (xs : Parts) → ReadsPieces sig metas ts vars own front ws xs → ⊥ = subst (AreFirst AreBefore (ReadsPieces sig metas ts vars own front)) e f in
      let never : AreFirst AreBefore (ReadsPieces sig metas ts vars own (front ++ ps)) [] =
      λ ws xs r. (let s = prefix_reads front ps ws xs r in none s.0 s.1 s.2) in
      subst (AreFirst AreBefore (ReadsPieces sig metas ts vars own (front ++ ps))) (sym e) never

  -- no slot
  pub no_slots : AreFirst AreBefore (ReadsPieces sig metas ts vars own []) (no_parts ∷ [])
  no_slots = ((no_ways, ((refl, refl), λ l x h. inr (sym h.0, h.1))), λ l x h. h.1)

-- the parts of one split are told by their schemes
abbrev shaped : List SlotRange → List SchemeTree → Parts
shaped [] ss = no_parts
shaped (p ∷ ps) [] = no_parts
shaped (p ∷ ps) (s ∷ ss) = part (length p.binds) s (shaped ps ss)

by_shape : (sig : Signature) (metas : List MetaDecl) (ts : List Token) (vars own : List Variable) (ps : List SlotRange) (ws : Ways) (xs : Parts)
    → ReadsPieces sig metas ts vars own ps ws xs → xs ≡ shaped ps (bare xs)
by_shape sig metas ts vars own [] ws xs r = r.1
by_shape sig metas ts vars own (p ∷ ps) no_ways xs r = absurd r
by_shape sig metas ts vars own (p ∷ ps) (then_way w ws) no_parts r = absurd r
by_shape sig metas ts vars own (p ∷ ps) (then_way w ws) (part n s xs) r =
    ap (λ m. part m s xs) r.0 ∙ ap (part (length p.binds) s) (by_shape sig metas ts vars own ps ws xs r.2)

values_apart : (ss us : List SchemeTree) → values ss ≡ values us → ss ≡ us
values_apart [] [] e = refl
values_apart [] (u ∷ us) e = cc
values_apart (s ∷ ss) [] e = cc
values_apart (s ∷ ss) (u ∷ us) e =
    let first : s ≡ u = cc in
    let rest : values ss ≡ values us = cc in
    ap (λ x. x ∷ ss) first ∙ ap (λ xs. u ∷ xs) (values_apart ss us rest)

module _ (sheet : Sheet) (vars : List Variable) (alternative : ℕ) (head : Head) where
  abbrev Here : Divided → Way → SchemeTree → Type 0
  Here d = IsMapped (way alternative (lengths d.1)) (built head) (ReadsPieces sheet.sig.now sheet.metas.now (tokens_of sheet) vars d.0 d.1)

  built_apart : (head : Head) (d : Divided) (v w : Ways) (xs ys : Parts) → ReadsPieces sheet.sig.now sheet.metas.now (tokens_of sheet) vars d.0 d.1 v xs
      → ReadsPieces sheet.sig.now sheet.metas.now (tokens_of sheet) vars d.0 d.1 w ys → built head xs ≡ built head ys → xs ≡ ys
  built_apart (Product p) d v w xs ys r q e = let same : xs ≡ ys = cc in same
  built_apart (Meta m) d v w xs ys r q e =
      let same : values (bare xs) ≡ values (bare ys) = cc in
      by_shape sheet.sig.now sheet.metas.now (tokens_of sheet) vars d.0 d.1 v xs r ∙ ap (shaped d.1) (values_apart (bare xs) (bare ys) same)
      ∙ sym (by_shape sheet.sig.now sheet.metas.now (tokens_of sheet) vars d.0 d.1 w ys q)

  one_split_more : (all : List Divided) (d : Divided) (w : Way) (s : SchemeTree)
      → (IsMadeIn sheet vars alternative head all w s ⊎ Here d w s) ↔ IsMadeIn sheet vars alternative head (all ++ d ∷ []) w s
  one_split_more all d w s = (there, λ h. back h (Contains-push_cases all d h.0 h.1))
    where
      there : IsMadeIn sheet vars alternative head all w s ⊎ Here d w s → IsMadeIn sheet vars alternative head (all ++ d ∷ []) w s
      there (inl h) = (h.0, Contains-append_left all (d ∷ []) h.0 h.1, h.2)
      there (inr h) = (d, Contains-push all d, h)

      back : (h : IsMadeIn sheet vars alternative head (all ++ d ∷ []) w s) → Contains all h.0 ⊎ (d ≡ h.0)
          → IsMadeIn sheet vars alternative head all w s ⊎ Here d w s
      back h (inl c) = inl (h.0, c, h.2)
      back h (inr e) = inr (subst (λ x. Here x w s) (sym e) h.2)

  -- what is read in an earlier split stands first
  splits_apart : (xs ys : List Divided) → AreInOrder (xs ++ ys) → (k l : Way) (a b : SchemeTree)
      → IsMadeIn sheet vars alternative head xs k a → IsMadeIn sheet vars alternative head ys l b → IsBefore k l
  splits_apart xs ys order k l a b f g =
      let shorter = in_order_apart xs ys f.0 g.0 order f.1 g.1 in
      let m = f.2 in
      let n = g.2 in
      subst (λ x. IsBefore x l) (sym m.2) (subst (IsBefore (way alternative (lengths f.0.1) m.0)) (sym n.2) (inr (refl, inl shorter)))

  -- the readings in one split more
  pub made_more : (all : List Split) (j : ℕ) (here : Split) (found more new : List SchemeTree) (slots : List Parts) → AreInOrder (map split all)
      → j < length all → here ≡ get_or all j here
      → AreFirst IsBefore (IsMadeIn sheet vars alternative head (map split (take j all))) found
      → AreFirst AreBefore (ReadsPieces sheet.sig.now sheet.metas.now (tokens_of sheet) vars (split here).0 (split here).1) slots
      → more ≡ map (built head) slots → AreJoined found more new → AreFirst IsBefore (IsMadeIn sheet vars alternative head (map split (take (j + 1) all))) new
  made_more all j here found more new slots order lt is f g e joined =
      let front = map split (take j all) in
      let last : map split (take (j + 1) all) ≡ front ++ split here ∷ [] =
      map_more split all j here lt ∙ ap (λ s. map split (take j all) ++ split s ∷ []) (sym is) in
      let whole : map split all ≡ front ++ (split here ∷ map split (drop (j + 1) all)) =
      ap (map split) (sym (take-append-drop j all)) ∙ map-append split (take j all) (drop j all)
      ∙ ap (λ qs. front ++ map split qs) (drop_more all j here lt ∙ ap (λ s. s ∷ drop (j + 1) all) (sym is)) in
      let in_order : AreInOrder (front ++ (split here ∷ map split (drop (j + 1) all))) = subst AreInOrder whole order in
      let made : AreFirst IsBefore (Here (split here)) more =
      subst (AreFirst IsBefore (Here (split here))) (sym e)
      (AreFirst-map AreBefore IsBefore (way alternative (lengths (split here).1)) (built head)
      (ReadsPieces sheet.sig.now sheet.metas.now (tokens_of sheet) vars (split here).0 (split here).1) slots
      (λ k l b. inr (refl, inr (refl, b))) (λ k l a b h i m. built_apart head (split here) k l a b h i m) g) in
      subst (λ qs. AreFirst IsBefore (IsMadeIn sheet vars alternative head qs) new) (sym last)
      (AreFirst-same IsBefore _ (IsMadeIn sheet vars alternative head (front ++ split here ∷ [])) new
      (λ w s. one_split_more front (split here) w s)
      (AreFirst-joined IsBefore (IsMadeIn sheet vars alternative head front) (Here (split here)) found more new
      (λ k l a x h i. splits_apart front (split here ∷ map split (drop (j + 1) all)) in_order k l a x h (split here, (0, omega arith, refl), i))
      joined f made))

  -- two readings in the first splits are the first two
  pub made_enough : (all : List Split) (j : ℕ) (found : Firsts Scheme) → AreInOrder (map split all) → IsFull found
      → AreFirst IsBefore (IsMadeIn sheet vars alternative head (map split (take j all))) (listed scheme found)
      → AreFirst IsBefore (IsMadeIn sheet vars alternative head (map split all)) (listed scheme found)
  made_enough all j found order full f =
      let front = map split (take j all) in
      let back = map split (drop j all) in
      let two : front ++ back ≡ map split all = sym (map-append split (take j all) (drop j all)) ∙ ap (map split) (take-append-drop j all) in
      let in_order : AreInOrder (front ++ back) = subst AreInOrder (sym two) order in
      subst (λ qs. AreFirst IsBefore (IsMadeIn sheet vars alternative head qs) (listed scheme found)) two
      (AreFirst-same IsBefore _ (IsMadeIn sheet vars alternative head (front ++ back)) _ (λ w s. (either w s, apart_again w s))
      (AreFirst-full IsBefore scheme (IsMadeIn sheet vars alternative head front) (IsMadeIn sheet vars alternative head back) found full
      (λ k l a x h i. splits_apart front back in_order k l a x h i) f))
    where
      either : (w : Way) (s : SchemeTree) → IsMadeIn sheet vars alternative head (map split (take j all)) w s ⊎ IsMadeIn sheet vars alternative head (map split (drop j all)) w s
          → IsMadeIn sheet vars alternative head (map split (take j all) ++ map split (drop j all)) w s
      either w s (inl h) = (h.0, Contains-append_left (map split (take j all)) (map split (drop j all)) h.0 h.1, h.2)
      either w s (inr h) = (h.0, Contains-append_right (map split (take j all)) (map split (drop j all)) h.0 h.1, h.2)

      apart_again : (w : Way) (s : SchemeTree) → IsMadeIn sheet vars alternative head (map split (take j all) ++ map split (drop j all)) w s
          → IsMadeIn sheet vars alternative head (map split (take j all)) w s ⊎ IsMadeIn sheet vars alternative head (map split (drop j all)) w s
      apart_again w s h = go (Contains-append_cases (map split (take j all)) (map split (drop j all)) h.0 h.1)
        where
          go : Contains (map split (take j all)) h.0 ⊎ Contains (map split (drop j all)) h.0
              → IsMadeIn sheet vars alternative head (map split (take j all)) w s ⊎ IsMadeIn sheet vars alternative head (map split (drop j all)) w s
          go (inl c) = inl (h.0, c, h.2)
          go (inr c) = inr (h.0, c, h.2)

  pub made_in_none : AreFirst IsBefore (IsMadeIn sheet vars alternative head []) []
  made_in_none = λ w s h. omega (arith, h.1.1)

module _ (sheet : Sheet) (vars : List Variable) (known : AreKnown sheet vars) (n to : ℕ) (some : n ≤ to) (within : to ≤ length (tokens_of sheet)) where
  -- what is read in all splits of items is what they make
  pub made_in_splits : (alternative : ℕ) (p : Rattle.binding_terms.specs.declared.grammar.ProdId.ProdId) (items : List Item) (all : List Divided) (w : Way) (s : SchemeTree)
      → AreSplits (Stands sheet) (IsSplit sheet.sig.now (tokens_of sheet) to items n) all
      → IsMadeIn sheet vars alternative (Product p) all w s ↔ IsMade sheet.sig.now sheet.metas.now vars alternative p.0 items (slice_range (tokens_of sheet) n to) w s
  made_in_splits alternative p items all w s splits = (there, back)
    where
      there : IsMadeIn sheet vars alternative (Product p) all w s → IsMade sheet.sig.now sheet.metas.now vars alternative p.0 items (slice_range (tokens_of sheet) n to) w s
      there h =
          let d = h.0 in
          let m = h.2 in
          let is : IsSplit sheet.sig.now (tokens_of sheet) to items n d.0 d.1 =
          all_contained (λ (x : Divided). IsSplit sheet.sig.now (tokens_of sheet) to items n x.0 x.1) all d splits.each h.1 in
          let read = read_split sheet vars d.0 to items n d.0 d.1 m.0 m.1 some within is m.4 in (
            m.1,
            lengths d.1,
            m.0,
            m.2,
            m.3,
            words_of d.0,
            subst (λ own. ReadsItemsAt sheet.sig.now sheet.metas.now vars own (words_of d.0) items (slice_range (tokens_of sheet) n to) (lengths d.1) m.0 m.1) (own_words sheet to items n d.0 d.1 is) read,
          )

      back : IsMade sheet.sig.now sheet.metas.now vars alternative p.0 items (slice_range (tokens_of sheet) n to) w s → IsMadeIn sheet vars alternative (Product p) all w s
      back h =
          let read = h.6 in
          let own = variables_of h.5 (binders items) in
          let found = split_from sheet read.0 known (known_own sheet read.0) n to some within refl in (
            (own, found.0),
            splits.kept own found.0 found.1 found.3,
            (
              h.2,
              h.0,
              h.3 ∙ ap (λ ls. way alternative ls h.2) (sym read.1 ∙ sym found.2),
              h.4,
              subst (λ ws. ReadsPieces sheet.sig.now sheet.metas.now (tokens_of sheet) vars own found.0 ws h.0) read.2 found.4,
            ),
          )

  -- what is read in all splits of brackets
  pub made_in_brackets : (m : Rattle.scheme_terms.specs.declared.scheme.MetaId.MetaId) (params : List CatId) (all : List Divided) (w : Way) (s : SchemeTree)
      → AreSplits (Stands sheet) (IsBracketed (tokens_of sheet) to params n) all
      → IsMadeIn sheet vars 1 (Meta m) all w s
      ↔ ((vs : Values) × (ls : List ℕ) × (ws : Ways) × (w ≡ way 1 ls ws) × (s ≡ meta m.0 vs)
      × ReadsBracketsAt sheet.sig.now sheet.metas.now vars (numbers params) (slice_range (tokens_of sheet) n to) ls ws vs)
  made_in_brackets m params all w s splits = (there, back)
    where
      abbrev_of : Type 0
      abbrev_of = (vs : Values) × (ls : List ℕ) × (ws : Ways) × (w ≡ way 1 ls ws) × (s ≡ meta m.0 vs)
          × ReadsBracketsAt sheet.sig.now sheet.metas.now vars (numbers params) (slice_range (tokens_of sheet) n to) ls ws vs

      there : IsMadeIn sheet vars 1 (Meta m) all w s → abbrev_of
      there h =
          let d = h.0 in
          let k = h.2 in
          let is : IsBracketed (tokens_of sheet) to params n d.0 d.1 =
          all_contained (λ (x : Divided). IsBracketed (tokens_of sheet) to params n x.0 x.1) all d splits.each h.1 in
          (values (bare k.1), lengths d.1, k.0, k.2, k.3, brackets_read sheet vars d.0 to params n d.0 d.1 k.0 k.1 some within is k.4)

      back : abbrev_of → IsMadeIn sheet vars 1 (Meta m) all w s
      back h =
          let read = h.5 in
          let found = brackets_from sheet read.0 known params refl n to some within refl in
          let parts = found.4 in (
            ([], found.0),
            splits.kept [] found.0 found.1 found.3,
            (
              h.2,
              parts.0,
              h.3 ∙ ap (λ ls. way 1 ls h.2) (sym read.1 ∙ sym found.2),
              h.4 ∙ ap (meta m.0) (sym parts.1),
              subst (λ ws. ReadsPieces sheet.sig.now sheet.metas.now (tokens_of sheet) vars [] found.0 ws parts.0) read.2 parts.2,
            ),
          )
