-- The first places of the slots of one split, from the first place of each.
use Rattle.std.proofs.Common.{◌≡◌, ◌⊎◌, ℕ, ◌+◌, ◌<◌, ◌≤◌, List, [], ◌∷◌, ◌++◌, length, map, take, drop, get_or, inl, inr, refl, ap, ◌∙◌, sym, subst, arith, slice_range, Some, length-take}
use Rattle.std.proofs.lemmas.List.{map-append, map_more, take_all, length-map}
use Rattle.binding_terms.specs.Signature.{Signature}
use Rattle.scheme_terms.specs.SchemeTree.{SchemeTree, Parts, no_parts, part}
use Rattle.scheme_terms.specs.View.{scheme}
use Rattle.scheme_terms.specs.declared.scheme.MetaDecl.{MetaDecl}
use Rattle.scheme_terms.specs.declared.scheme.Scheme.{Scheme}
use Rattle.rule_schemes.specs.Reading.{Token, Variable, slot_variables, bare}
use Rattle.rule_schemes.specs.Said.{Way, Ways, no_ways, then_way, IsBefore, AreBefore}
use Rattle.term_reader.specs.Firsts.{IsLeast}
use Rattle.term_reader.specs.Splitting.{SlotRange, slot_range, ReadsPieces}
use Rattle.term_reader.specs.declared.splitting.Piece.{Piece}
use Rattle.term_reader.proofs.TermCases.{ways_last}
use Rattle.term_reader.specs.FirstPlace.{IsFirstPlace, ReadsAs, ReadPiecesAs}
use Rattle.term_reader.specs.PlaceView.{ways_of, place, places}
use Rattle.term_reader.specs.declared.places.Place.{Place}
use Rattle.binding_terms.proofs.Lists.{mapped_around}

ways_push : (ws : List Way) (w : Way) → ways_of (ws ++ w ∷ []) ≡ ways_last (ways_of ws) w
ways_push [] w = refl
ways_push (v ∷ ws) w = ap (then_way v) (ways_push ws w)

pub places_push : (ps : List Place) (p : Place) → places (ps ++ p ∷ []) ≡ ways_last (places ps) (place p)
places_push ps p = ap ways_of (map-append place ps (p ∷ [])) ∙ ways_push (map place ps) (place p)

module _ (sig : Signature) (metas : List MetaDecl) (ts : List Token) (vars own : List Variable) where
  -- the slot reads as that scheme
  abbrev pub SlotAs : SlotRange → SchemeTree → Way → SchemeTree → Type 0
  SlotAs p s = ReadsAs sig metas (slot_variables own p.binds ++ vars) p.cat.0 (slice_range ts p.from p.to) s

  -- each slot reads as its scheme, and each first at its place
  abbrev pub EachFirst : List SlotRange → List SchemeTree → Ways → Type 0
  EachFirst [] [] no_ways = Unit {0}
  EachFirst [] [] (then_way w ws) = ⊥
  EachFirst [] (s ∷ ss) ws = ⊥
  EachFirst (p ∷ ps) [] ws = ⊥
  EachFirst (p ∷ ps) (s ∷ ss) no_ways = ⊥
  EachFirst (p ∷ ps) (s ∷ ss) (then_way w ws) = ((x : SchemeTree) × IsLeast IsBefore (SlotAs p s) w x) × EachFirst ps ss ws

  pub each_more : (ps : List SlotRange) (ss : List SchemeTree) (ws : Ways) (p : SlotRange) (s : SchemeTree) (w : Way) → EachFirst ps ss ws
      → ((x : SchemeTree) × IsLeast IsBefore (SlotAs p s) w x) → EachFirst (ps ++ p ∷ []) (ss ++ s ∷ []) (ways_last ws w)
  each_more [] [] no_ways p s w h k = (k, tt)
  each_more [] [] (then_way v ws) p s w h k = absurd h
  each_more [] (t ∷ ss) ws p s w h k = absurd h
  each_more (q ∷ ps) [] ws p s w h k = absurd h
  each_more (q ∷ ps) (t ∷ ss) no_ways p s w h k = absurd h
  each_more (q ∷ ps) (t ∷ ss) (then_way v ws) p s w h k = (h.0, each_more ps ss ws p s w h.1 k)

  least_slot : (p : SlotRange) (ps : List SlotRange) (s : SchemeTree) (ss : List SchemeTree) (w : Way) (ws : Ways) (x : SchemeTree) (xs : Parts)
      → IsLeast IsBefore (SlotAs p s) w x → IsLeast AreBefore (ReadPiecesAs sig metas ts vars own ps ss) ws xs
      → (vs : Ways) (ys : Parts) → ReadPiecesAs sig metas ts vars own (p ∷ ps) (s ∷ ss) vs ys
      → AreBefore (then_way w ws) vs ⊎ ((then_way w ws ≡ vs) × (ys ≡ part (length p.binds) x xs))
  least_slot p ps s ss w ws x xs h k no_ways ys r = absurd r.0
  least_slot p ps s ss w ws x xs h k (then_way v vs) no_parts r = absurd r.0
  least_slot p ps s ss w ws x xs h k (then_way v vs) (part n t ys) r = first (h.1 v t (r.0.1, head))
    where
      head : t ≡ s
      head = let e = r.1 in cc

      rest : bare ys ≡ ss
      rest = let e = r.1 in cc

      second : (w ≡ v) × (t ≡ x) → AreBefore ws vs ⊎ ((ws ≡ vs) × (ys ≡ xs))
          → AreBefore (then_way w ws) (then_way v vs) ⊎ ((then_way w ws ≡ then_way v vs) × (part n t ys ≡ part (length p.binds) x xs))
      second e (inl b) = inl (inr (e.0, b))
      second e (inr f) = inr (
        ap (λ u. then_way u ws) e.0 ∙ ap (then_way v) f.0,
        ap (λ m. part m t ys) r.0.0 ∙ ap (λ y. part (length p.binds) y ys) e.1 ∙ ap (part (length p.binds) x) f.1,
      )

      first : IsBefore w v ⊎ ((w ≡ v) × (t ≡ x)) → AreBefore (then_way w ws) (then_way v vs) ⊎ ((then_way w ws ≡ then_way v vs) × (part n t ys ≡ part (length p.binds) x xs))
      first (inl b) = inl (inl b)
      first (inr e) = second e (k.1 vs ys (r.0.2, rest))

  -- together they stand first at these places
  pub each_first : (ps : List SlotRange) (ss : List SchemeTree) (ws : Ways) → EachFirst ps ss ws
      → (xs : Parts) × IsLeast AreBefore (ReadPiecesAs sig metas ts vars own ps ss) ws xs
  each_first [] [] no_ways h = (no_parts, (((refl, refl), refl), λ l x r. inr (sym r.0.0, r.0.1)))
  each_first [] [] (then_way w ws) h = absurd h
  each_first [] (s ∷ ss) ws h = absurd h
  each_first (p ∷ ps) [] ws h = absurd h
  each_first (p ∷ ps) (s ∷ ss) no_ways h = absurd h
  each_first (p ∷ ps) (s ∷ ss) (then_way w ws) h =
      let x = h.0.0 in
      let least = h.0.1 in
      let rest = each_first ps ss ws h.1 in
      let schemes : x ∷ bare rest.0 ≡ s ∷ ss = ap (λ y. y ∷ bare rest.0) least.0.1 ∙ ap (λ ys. s ∷ ys) rest.1.0.1 in (
        part (length p.binds) x rest.0,
        (((refl, least.0.0, rest.1.0.0), schemes), λ vs ys r. least_slot p ps s ss w ws x rest.0 least rest.1 vs ys r),
      )

  -- as many slots as schemes
  pub as_many_read : (ps : List SlotRange) (ss : List SchemeTree) (ws : Ways) (xs : Parts) → ReadPiecesAs sig metas ts vars own ps ss ws xs → length ps ≡ length ss
  as_many_read ps ss ws xs r = count ps ws xs r.0 ∙ ap length r.1
    where
      count : (ps : List SlotRange) (ws : Ways) (xs : Parts) → ReadsPieces sig metas ts vars own ps ws xs → length ps ≡ length (bare xs)
      count [] ws xs r = ap (λ ys. length (bare ys)) (sym r.1)
      count (p ∷ ps) no_ways xs r = absurd r
      count (p ∷ ps) (then_way w ws) no_parts r = absurd r
      count (p ∷ ps) (then_way w ws) (part n s xs) r = let more = count ps ws xs r.2 in omega (arith, more)

  -- where all read, each of them does
  pub one_reads : (front rest : List SlotRange) (p : SlotRange) (begins others : List SchemeTree) (s : SchemeTree) (ws : Ways) (xs : Parts) → length front ≡ length begins
      → ReadPiecesAs sig metas ts vars own (front ++ (p ∷ rest)) (begins ++ (s ∷ others)) ws xs → (w : Way) × ((x : SchemeTree) × SlotAs p s w x)
  one_reads [] rest p [] others s no_ways xs h r = absurd r.0
  one_reads [] rest p [] others s (then_way w ws) no_parts h r = absurd r.0
  one_reads [] rest p [] others s (then_way w ws) (part n t xs) h r = let e = r.1 in let head : t ≡ s = cc in (w, (t, (r.0.1, head)))
  one_reads [] rest p (b ∷ begins) others s ws xs h r = absurd (omega (arith, h))
  one_reads (q ∷ front) rest p [] others s ws xs h r = absurd (omega (arith, h))
  one_reads (q ∷ front) rest p (b ∷ begins) others s no_ways xs h r = absurd r.0
  one_reads (q ∷ front) rest p (b ∷ begins) others s (then_way w ws) no_parts h r = absurd r.0
  one_reads (q ∷ front) rest p (b ∷ begins) others s (then_way w ws) (part n t xs) h r =
      let e = r.1 in
      let schemes : bare xs ≡ begins ++ (s ∷ others) = cc in
      one_reads front rest p begins others s ws xs (omega (arith, h)) (r.0.2, schemes)

  -- the place of one slot more
  pub each_at : (slots : List Piece) (terms : List Scheme) (i : ℕ) (d : Piece) (term : Scheme) (all : List Place) (found : Place) → i < length slots → i < length terms
      → term ≡ get_or terms i term → EachFirst (map slot_range (take i slots)) (map scheme (take i terms)) (places all)
      → IsFirstPlace IsBefore (SlotAs (slot_range (get_or slots i d)) (scheme term)) place (Some found)
      → EachFirst (map slot_range (take (i + 1) slots)) (map scheme (take (i + 1) terms)) (places (all ++ found ∷ []))
  each_at slots terms i d term all found h k is before here =
      let p = slot_range (get_or slots i d) in
      let more_terms : map scheme (take (i + 1) terms) ≡ map scheme (take i terms) ++ scheme term ∷ [] =
      map_more scheme terms i term k ∙ ap (λ x. map scheme (take i terms) ++ scheme x ∷ []) (sym is) in
      subst (λ ps. EachFirst ps (map scheme (take (i + 1) terms)) (places (all ++ found ∷ []))) (sym (map_more slot_range slots i d h))
      (subst (λ ss. EachFirst (map slot_range (take i slots) ++ p ∷ []) ss (places (all ++ found ∷ []))) (sym more_terms)
      (subst (EachFirst (map slot_range (take i slots) ++ p ∷ []) (map scheme (take i terms) ++ scheme term ∷ [])) (sym (places_push all found))
      (each_more (map slot_range (take i slots)) (map scheme (take i terms)) (places all) p (scheme term) (place found) before here)))

  -- where one of them does not read, not all do
  pub none_at : (slots : List Piece) (terms : List Scheme) (i : ℕ) (d : Piece) (term : Scheme) → i < length slots → i < length terms → term ≡ get_or terms i term
      → ((w : Way) (s : SchemeTree) → SlotAs (slot_range (get_or slots i d)) (scheme term) w s → ⊥)
      → (ws : Ways) (xs : Parts) → ReadPiecesAs sig metas ts vars own (map slot_range slots) (map scheme terms) ws xs → ⊥
  none_at slots terms i d term h k is none ws xs r =
      let front = map slot_range (take i slots) in
      let begins = map scheme (take i terms) in
      let terms_are : map scheme terms ≡ begins ++ (scheme term ∷ map scheme (drop (i + 1) terms)) =
      mapped_around scheme terms i term k ∙ ap (λ x. map scheme (take i terms) ++ (scheme x ∷ map scheme (drop (i + 1) terms))) (sym is) in
      let as_long : length front ≡ length begins =
      omega (arith, length-map (take i slots) slot_range, length-map (take i terms) scheme, length-take i slots, length-take i terms) in
      let whole = subst (λ ss. ReadPiecesAs sig metas ts vars own (map slot_range slots) ss ws xs) terms_are r in
      let read = one_reads front (map slot_range (drop (i + 1) slots)) (slot_range (get_or slots i d)) begins (map scheme (drop (i + 1) terms)) (scheme term) ws xs as_long
      (subst (λ ps. ReadPiecesAs sig metas ts vars own ps (begins ++ (scheme term ∷ map scheme (drop (i + 1) terms))) ws xs) (mapped_around slot_range slots i d h) whole) in
      none read.0 read.1.0 read.1.1

  -- the places of all the slots
  pub all_first : (slots : List Piece) (terms : List Scheme) (i : ℕ) (all : List Place) → length slots ≤ i → length terms ≤ i
      → EachFirst (map slot_range (take i slots)) (map scheme (take i terms)) (places all)
      → (xs : Parts) × IsLeast AreBefore (ReadPiecesAs sig metas ts vars own (map slot_range slots) (map scheme terms)) (places all) xs
  all_first slots terms i all h k each =
      each_first (map slot_range slots) (map scheme terms) (places all)
      (subst (λ qs. EachFirst (map slot_range qs) (map scheme terms) (places all)) (take_all i slots h)
      (subst (λ us. EachFirst (map slot_range (take i slots)) (map scheme us) (places all)) (take_all i terms k) each))
