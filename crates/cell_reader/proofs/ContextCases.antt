-- The readings of a context by their cases.
use Rattle.std.proofs.Common.{◌≡◌, ◌⊎◌, ℕ, ◌+◌, ◌<◌, ◌≤◌, IsTrue, List, [], ◌∷◌, map, length, inl, inr, refl, ap, ◌∙◌, sym, subst, arith, Some, slice_get}
use Rattle.std.specs.List.{list_all}
use Rattle.std.proofs.lemmas.Bool.{cases_lt}
use Rattle.std.proofs.lemmas.Option.{slice_get_within}
use Rattle.binding_terms.specs.Signature.{Signature, is_word}
use Rattle.binding_terms.specs.declared.grammar.CatId.{CatId}
use Rattle.binding_terms.specs.declared.grammar.Item.{Item}
use Rattle.binding_terms.specs.declared.grammar.Item.TheVariants.{Slot}
use Rattle.binding_terms.specs.declared.grammar.Prod.{Prod}
use Rattle.binding_terms.proofs.Lists.{match_some, match_from}
use Rattle.scheme_terms.specs.SchemeTree.{SchemeTree, known, local, con}
use Rattle.scheme_terms.specs.Forms.{SchemeContext, KnownVariable}
use Rattle.scheme_terms.specs.declared.scheme.MetaDecl.{MetaDecl}
use Rattle.scheme_terms.specs.declared.scheme.Root.TheVariants.{Whole, Empty}
use Rattle.rule_schemes.specs.Reading.{Token, word, Variable, ReadingScope, known_words, with_root, IsEntryForm, ReadsContext, root, empty_form, entry, known_entry, head_entry}
use Rattle.rule_schemes.specs.Said.{Way, way, no_ways, IsBefore, item_lengths, ways_of_items, way_of_context}
use Rattle.ordered_readings.specs.Names.{NamesApart}
use Rattle.ordered_readings.specs.AnswerView.{slot_place, with_first}
use Rattle.ordered_readings.specs.FirstTwo.{AreFirst}
use Rattle.form_readings.specs.Forms.{KnownsApart}
use Rattle.form_cells.proofs.Joining.{IsJoined, joined_first, same_first}
use Rattle.cell_reader.specs.Contexts.{tree_of, ReadsContextAs, IsRoot, IsEmptyOf, IsEntryOf, IsContextBy, IsContextBelow}
use Rattle.cell_reader.proofs.TreeOrder.{trees_ordered}

module _ (sig : Signature) (scope : ReadingScope) (metas : List MetaDecl) (c : ℕ) where
  abbrev As : List Variable → List (List ℕ) → List Token → Way → SchemeTree → Type 0
  As = ReadsContextAs sig scope metas c

  abbrev Below : ℕ → List Variable → List (List ℕ) → List Token → Way → SchemeTree → Type 0
  Below n = IsContextBelow sig scope metas n c

  abbrev By : ℕ → List Variable → List (List ℕ) → List Token → Way → SchemeTree → Type 0
  By p = IsContextBy sig scope metas p c

  -- a reading that writes no known variable is one of the cases
  reading_by : {ts : List Token} {ctx : SchemeContext} {vs : List Variable} {ks : List KnownVariable} → (r : ReadsContext sig scope metas c ts ctx vs ks)
      → map (λ (k : KnownVariable). k.name) ks ≡ [] → Below (length sig.prods) vs [] ts (way_of_context r) (tree_of r)
  reading_by (root {w = name} is cat) e = inl (refl, refl, refl, refl, (name, refl, is))
  reading_by (empty_form p {prod = prod} found of cat empty r) e =
      inr (p, slice_get_within sig.prods p prod found, (prod, found, of, inl (empty, (refl, refl, refl, refl, r))))
  reading_by (entry p {b = b} {items = items} {first = first} {rest = rest} {w = name} {xs = xs} {ctx = ctx} {vars = vars} {written = ks} form split x r) e =
      let q = match_some (slice_get sig.prods p) _ form in
      inr (
        p,
        slice_get_within sig.prods p q.0 q.1,
        (
          q.0,
          q.1,
          q.2.0,
          inr (record {
            binder = b;
            id = (q.2.1).0;
            binds = (q.2.1).1;
            items = items;
            form = (q.2.1).2;
            over = (q.2.1).3;
            one = q.2.2;
            name = name;
            before = vars;
            last = refl;
            first = first;
            rest = rest;
            split = split;
            first_way = way_of_context x;
            shorter = tree_of x;
            rest_way = way (1 + p) (item_lengths r) (ways_of_items r);
            parts = con p xs;
            context = (ctx, ks, x, e, refl, refl);
            entry = (xs, r, refl, refl);
            way_is = refl;
            tree_is = refl;
          }),
        ),
      )
  reading_by (known_entry p b n f s h i k r j named is) e = absurd (cc)
  reading_by (head_entry f s h i k r j) e = absurd (cc)

  as_root : (vs : List Variable) (ts : List Token) (w : Way) (s : SchemeTree) → IsRoot sig scope metas c vs [] ts w s → As vs [] ts w s
  as_root vs ts w s (place, says, vars, none, (name, tokens, is)) =
      let id : CatId = record { 0 = c } in
      let base = with_root scope.names.root c scope.vars (known_words sig 0 scope.names.knowns) in
      let ctx : SchemeContext = record { root = Whole id; entries = [] } in
      let here : As base [] (word name ∷ []) (way 0 [] no_ways) (known 0) = (ctx, [], root is refl, refl, refl, refl) in
      subst (λ us. As vs [] us w s) (sym tokens)
      (subst (λ us. As us [] (word name ∷ []) w s) (sym vars)
      (subst (λ v. As base [] (word name ∷ []) v s) (sym place) (subst (As base [] (word name ∷ []) (way 0 [] no_ways)) (sym says) here)))

  as_empty : (p : ℕ) (prod : Prod) (vs : List Variable) (ts : List Token) (w : Way) (s : SchemeTree) → slice_get sig.prods p ≡ Some prod → prod.cat.0 ≡ c
      → IsTrue (list_all is_word prod.items) → IsEmptyOf sig scope metas p prod.items vs [] ts w s → As vs [] ts w s
  as_empty p prod vs ts w s found of empty (place, says, vars, none, r) =
      let id : CatId = record { 0 = c } in
      let base = known_words sig 0 scope.names.knowns in
      let ctx : SchemeContext = record { root = Empty id; entries = [] } in
      let here : As base [] ts (way (1 + p) [] no_ways) (local 0) = (ctx, [], empty_form p {id = id} found of refl empty r, refl, refl, refl) in
      subst (λ us. As us [] ts w s) (sym vars)
      (subst (λ v. As base [] ts v s) (sym place) (subst (As base [] ts (way (1 + p) [] no_ways)) (sym says) here))

  entry_form : (p b : ℕ) (prod : Prod) (id : CatId) (binds : List ℕ) (items : List Item) → slice_get sig.prods p ≡ Some prod → prod.cat.0 ≡ c
      → prod.items ≡ Slot id binds ∷ items → id.0 ≡ c → Rattle.binding_terms.specs.Signature.binders items ≡ b ∷ [] → IsEntryForm sig c p b items
  entry_form p b prod id binds items found of form over one = match_from (slice_get sig.prods p) _ prod found (of, (id, binds, form, over), one)

  pub as_entry : (p : ℕ) (prod : Prod) (vs : List Variable) (ns : List (List ℕ)) (ts : List Token) (w : Way) (s : SchemeTree) → slice_get sig.prods p ≡ Some prod
      → prod.cat.0 ≡ c → IsEntryOf sig scope metas p c prod.items vs ns ts w s → As vs ns ts w s
  as_entry p prod vs ns ts w s found of e =
      let (ctx, ks, x, named, first_place, shorter) = e.context in
      let (xs, r, rest_place, parts) = e.entry in
      let form = entry_form p e.binder prod e.id e.binds e.items found of e.form e.over e.one in
      let whole = entry p form e.split x r in
      let n = length e.first in
      let place : w ≡ way_of_context whole =
      e.way_is ∙ ap (λ v. slot_place n v e.rest_way) first_place ∙ ap (slot_place n (way_of_context x)) rest_place in
      let says : s ≡ tree_of whole = e.tree_is ∙ ap (λ t. with_first 0 t e.parts) shorter ∙ ap (with_first 0 (tree_of x)) parts in
      subst (λ us. As us ns ts w s) (sym e.last) (_, ks, whole, named, place, says)

  pub as_by : (p : ℕ) (vs : List Variable) (ts : List Token) (w : Way) (s : SchemeTree) → By p vs [] ts w s → As vs [] ts w s
  as_by p vs ts w s (prod, found, of, inl k) = as_empty p prod vs ts w s found of k.0 k.1
  as_by p vs ts w s (prod, found, of, inr k) = as_entry p prod vs [] ts w s found of k

  pub as_below : (n : ℕ) (vs : List Variable) (ts : List Token) (w : Way) (s : SchemeTree) → Below n vs [] ts w s → As vs [] ts w s
  as_below n vs ts w s (inl h) = as_root vs ts w s h
  as_below n vs ts w s (inr (p, lt, h)) = as_by p vs ts w s h

  pub root_below : (vs : List Variable) (ts : List Token) (xs : List (Way × SchemeTree)) → AreFirst IsBefore (IsRoot sig scope metas c vs [] ts) xs
      → AreFirst IsBefore (Below 0 vs [] ts) xs
  root_below vs ts xs f = same_first (IsRoot sig scope metas c vs [] ts) (Below 0 vs [] ts) xs (λ w s. (λ h. inl h, back w s)) f
    where
      back : (w : Way) (s : SchemeTree) → Below 0 vs [] ts w s → IsRoot sig scope metas c vs [] ts w s
      back w s (inl h) = h
      back w s (inr (p, lt, h)) = absurd (omega (arith, lt))

  pub below_read : (n : ℕ) (vs : List Variable) (ts : List Token) (xs : List (Way × SchemeTree)) → length sig.prods ≤ n → AreFirst IsBefore (Below n vs [] ts) xs
      → AreFirst IsBefore (As vs [] ts) xs
  below_read n vs ts xs le f = same_first (Below n vs [] ts) (As vs [] ts) xs (λ w s. (as_below n vs ts w s, back w s)) f
    where
      wider : (w : Way) (s : SchemeTree) → Below (length sig.prods) vs [] ts w s → Below n vs [] ts w s
      wider w s (inl h) = inl h
      wider w s (inr (p, lt, h)) = inr (p, omega (arith, lt, le), h)

      back : (w : Way) (s : SchemeTree) → As vs [] ts w s → Below n vs [] ts w s
      back w s (ctx, ks, r, named, place, says) =
          wider w s (subst (λ v. Below (length sig.prods) vs [] ts v s) (sym place) (subst (Below (length sig.prods) vs [] ts (way_of_context r)) (sym says) (reading_by r named)))

  pub below_more : NamesApart metas → KnownsApart scope.names.knowns → (n : ℕ) (vs : List Variable) (ts : List Token) (xs ys zs : List (Way × SchemeTree))
      → AreFirst IsBefore (Below n vs [] ts) xs → AreFirst IsBefore (By n vs [] ts) ys → IsJoined xs ys zs → AreFirst IsBefore (Below (n + 1) vs [] ts) zs
  below_more names apart n vs ts xs ys zs f g j =
      joined_first (As vs [] ts) (Below n vs [] ts) (By n vs [] ts) (Below (n + 1) vs [] ts) xs ys zs (trees_ordered names apart vs [] ts) (λ w s r. as_below (n + 1) vs ts w s r)
      (λ w s. (there w s, back w s)) f g j
    where
      there : (w : Way) (s : SchemeTree) → Below n vs [] ts w s ⊎ By n vs [] ts w s → Below (n + 1) vs [] ts w s
      there w s (inl (inl h)) = inl h
      there w s (inl (inr (p, lt, h))) = inr (p, omega (arith, lt), h)
      there w s (inr h) = inr (n, omega arith, h)

      last : (w : Way) (s : SchemeTree) (p : ℕ) → p < n + 1 → By p vs [] ts w s → (p < n) ⊎ (n ≤ p) → Below n vs [] ts w s ⊎ By n vs [] ts w s
      last w s p lt h (inl k) = inl (inr (p, k, h))
      last w s p lt h (inr k) = inr (subst (λ q. By q vs [] ts w s) (let e : p ≡ n = omega (arith, lt, k) in e) h)

      back : (w : Way) (s : SchemeTree) → Below (n + 1) vs [] ts w s → Below n vs [] ts w s ⊎ By n vs [] ts w s
      back w s (inl h) = inl (inl h)
      back w s (inr (p, lt, h)) = last w s p lt h (cases_lt p n)
