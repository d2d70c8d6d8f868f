-- The first readings with an entry, behind a shorter context of any length, and of the other forms of a context.
use Rattle.std.proofs.Common.{◌≡◌, ◌⊎◌, ℕ, ◌+◌, ◌-◌, ◌<◌, ◌≤◌, IsTrue, List, [], ◌∷◌, ◌++◌, length, drop, inl, inr, refl, ap, ◌∙◌, sym, subst, arith, Some, slice_get, slice_range, length-append}
use Rattle.std.specs.List.{list_all}
use Rattle.binding_terms.specs.Signature.{Signature, binders, is_word}
use Rattle.binding_terms.specs.declared.grammar.CatId.{CatId}
use Rattle.binding_terms.specs.declared.grammar.Item.{Item}
use Rattle.binding_terms.specs.declared.grammar.Item.TheVariants.{Slot}
use Rattle.binding_terms.specs.declared.grammar.Prod.{Prod}
use Rattle.binding_terms.proofs.Lists.{same_fronts}
use Rattle.scheme_terms.specs.SchemeTree.{SchemeTree, known, local, Parts, no_parts}
use Rattle.scheme_terms.specs.declared.scheme.MetaDecl.{MetaDecl}
use Rattle.rule_schemes.specs.Reading.{Token, Variable, bound, ReadingScope, known_words, with_root, ReadsItems, all_read, terminal, binder, slot}
use Rattle.rule_schemes.specs.Said.{Way, way, no_ways, IsBefore, item_lengths, ways_of_items}
use Rattle.ordered_readings.specs.Names.{NamesApart}
use Rattle.ordered_readings.specs.AnswerView.{slot_place, count, IsRow}
use Rattle.ordered_readings.specs.Cells.{ReadsItemsAt, TakesFirst, TakesFewer}
use Rattle.ordered_readings.specs.FirstTwo.{AreFirst}
use Rattle.ordered_readings.proofs.FirstTwo.{first_one}
use Rattle.ordered_readings.proofs.PairLemmas.{HasParts, ReadsBehind}
use Rattle.ordered_readings.proofs.Transitive.{before_transitive}
use Rattle.form_readings.specs.Forms.{KnownsApart}
use Rattle.form_cells.proofs.Joining.{AreOrdered, IsJoined, IsProductOf, lengths_first, product_first, same_first, no_first, none_listed}
use Rattle.form_cells.proofs.Ranges.{range_length, range_two}
use Rattle.cell_reader.specs.Contexts.{ReadsContextAs, IsRoot, IsEmptyOf, IsEntryOf, IsEntryOver, IsContextBy, IsCategoryName}
use Rattle.cell_reader.proofs.TreeOrder.{trees_ordered}
use Rattle.cell_reader.proofs.ContextCases.{as_entry}

item_row : {sig : Signature} {metas : List MetaDecl} {vars own : List Variable} {words : List (List ℕ)} {items : List Item} {ts : List Token} {xs : Parts}
    → (r : ReadsItems sig metas vars own words items ts xs) → length (item_lengths r) ≡ count (ways_of_items r)
item_row all_read = refl
item_row (terminal h r) = item_row r
item_row (binder h r) = item_row r
item_row (slot e some t r) = omega (arith, item_row r)

-- terminals alone have no parts
terminal_parts : {sig : Signature} {metas : List MetaDecl} {vars own : List Variable} {words : List (List ℕ)} {items : List Item} {ts : List Token} {xs : Parts}
    → (r : ReadsItems sig metas vars own words items ts xs) → IsTrue (list_all is_word items) → xs ≡ no_parts
terminal_parts all_read h = refl
terminal_parts (terminal g r) h = terminal_parts r h
terminal_parts (binder g r) h = absurd (cc)
terminal_parts (slot e some t r) h = absurd (cc)

module _ (sig : Signature) (scope : ReadingScope) (metas : List MetaDecl) (p c : ℕ) (all : List Item) (vs : List Variable) (ns : List (List ℕ)) where
  abbrev Entry : List Token → Way → SchemeTree → Type 0
  Entry = IsEntryOf sig scope metas p c all vs ns

  entries_ordered : NamesApart metas → KnownsApart scope.names.knowns → (prod : Prod) → slice_get sig.prods p ≡ Some prod → prod.cat.0 ≡ c → prod.items ≡ all
      → (ts : List Token) → AreOrdered (Entry ts)
  entries_ordered names apart prod found of same ts v w s t g h = trees_ordered names apart vs ns ts v w s t (whole v s g) (whole w t h)
    where
      whole : (w : Way) (s : SchemeTree) → Entry ts w s → ReadsContextAs sig scope metas c vs ns ts w s
      whole w s g = as_entry sig scope metas c p prod vs ns ts w s found of (subst (λ is. IsEntryOf sig scope metas p c is vs ns ts w s) (sym same) g)

  -- the length of the shorter context, as the place tells it
  first_of : (ts : List Token) (w : Way) (s : SchemeTree) (e : Entry ts w s)
      → w ≡ slot_place (length e.first) e.first_way (way (1 + p) (item_lengths e.entry.1) (ways_of_items e.entry.1))
  first_of ts w s e = e.way_is ∙ ap (slot_place (length e.first) e.first_way) e.entry.2

  no_fewer : (w : Way) → TakesFewer 0 w → ⊥
  no_fewer (way a [] ws) h = h
  no_fewer (way a (n ∷ ls) ws) h = omega (arith, h)

  pub no_entry_yet : (ts : List Token) (n : ℕ) → n ≡ 0 → AreFirst IsBefore (λ w s. Entry ts w s × TakesFewer n w) []
  no_entry_yet ts n e = no_first _ (λ w s h. no_fewer w (subst (λ k. TakesFewer k w) e h.1))

  pub all_entries : (ts : List Token) (n : ℕ) (xs : List (Way × SchemeTree)) → length ts < n → AreFirst IsBefore (λ w s. Entry ts w s × TakesFewer n w) xs
      → AreFirst IsBefore (Entry ts) xs
  all_entries ts n xs le f = same_first _ (Entry ts) xs (λ w s. (λ h. h.0, λ h. (h, fewer w s h))) f
    where
      fewer : (w : Way) (s : SchemeTree) → Entry ts w s → TakesFewer n w
      fewer w s e =
          let l = ap length e.split in
          let lt : length e.first < n = omega (arith, le, l, length-append e.first e.rest) in
          subst (TakesFewer n) (sym (first_of ts w s e)) lt

  pub one_place_more : NamesApart metas → KnownsApart scope.names.knowns → (prod : Prod) → slice_get sig.prods p ≡ Some prod → prod.cat.0 ≡ c → prod.items ≡ all
      → (ts : List Token) (n k : ℕ) → n + 1 ≡ k → (xs ys zs : List (Way × SchemeTree)) → AreFirst IsBefore (λ w s. Entry ts w s × TakesFewer n w) xs
      → AreFirst IsBefore (λ w s. Entry ts w s × TakesFirst n w) ys → IsJoined xs ys zs → AreFirst IsBefore (λ w s. Entry ts w s × TakesFewer k w) zs
  one_place_more names apart prod found of same ts n k e xs ys zs f g j =
      subst (λ i. AreFirst IsBefore (λ w s. Entry ts w s × TakesFewer i w) zs) e
      (lengths_first (Entry ts) n xs ys zs (entries_ordered names apart prod found of same ts) f g j)

  module _ (before : List Variable) (b : ℕ) (name : List ℕ) (last : vs ≡ record { word = name; cat = b; means = bound } ∷ before) where
    abbrev Short : List Token → Way → SchemeTree → Type 0
    Short = ReadsContextAs sig scope metas c before ns

    abbrev Behind : List Token → Way → SchemeTree → Type 0
    Behind = ReadsItemsAt sig metas before [] (name ∷ []) (drop 1 all) (1 + p) p

    behind_part : (rest : List Token) (w : Way) (s : SchemeTree) → Behind rest w s → HasParts s
    behind_part rest w s h = subst HasParts (sym h.3) tt

    behind_row : (rest : List Token) (w : Way) (s : SchemeTree) → Behind rest w s → IsRow w
    behind_row rest w s h = subst IsRow (sym h.2) (item_row h.1)

    module _ (first rest : List Token) where
      abbrev Whole : Way → SchemeTree → Type 0
      Whole w s = Entry (first ++ rest) w s × TakesFirst (length first) w

      there : IsEntryOver c b all → (w : Way) (s : SchemeTree) → ReadsBehind (length first) 0 (Short first) (Behind rest) w s → Whole w s
      there (id, binds, items, form, over, one) w s (v, a, u, t, x, r, e, f) = (
        record {
          binder = b;
          id = id;
          binds = binds;
          items = items;
          form = form;
          over = over;
          one = one;
          name = name;
          before = before;
          last = last;
          first = first;
          rest = rest;
          split = refl;
          first_way = v;
          shorter = a;
          rest_way = u;
          parts = t;
          context = x;
          entry = subst (λ is. ReadsItemsAt sig metas before [] (name ∷ []) is (1 + p) p rest u t) (ap (drop 1) form) r;
          way_is = e;
          tree_is = f;
        },
        subst (TakesFirst (length first)) (sym (e ∙ ap (slot_place (length first) v) r.2)) refl,
      )

      same_last : (e : List Variable) (n d : List ℕ) (m k : ℕ) → vs ≡ record { word = n; cat = m; means = bound } ∷ e → (n ≡ name) × (e ≡ before)
      same_last e n d m k is =
          let two : record { word = n; cat = m; means = bound } ∷ e ≡ record { word = name; cat = b; means = bound } ∷ before = sym is ∙ last in
          let head : ◌≡◌ {A = Variable} (record { word = n; cat = m; means = bound }) (record { word = name; cat = b; means = bound }) = cc in
          (ap (λ (v : Variable). v.word) head, cc)

      back : (w : Way) (s : SchemeTree) → Whole w s → ReadsBehind (length first) 0 (Short first) (Behind rest) w s
      back w s (e, takes) =
          let long : length e.first ≡ length first = subst (TakesFirst (length first)) (first_of (first ++ rest) w s e) takes in
          let parted = same_fronts e.first first e.rest rest (sym e.split) long in
          let same = same_last e.before e.name e.name e.binder e.binder e.last in
          let items : e.items ≡ drop 1 all = sym (ap (drop 1) e.form) in
          let context : Short first e.first_way e.shorter =
          subst (λ ts. Short ts e.first_way e.shorter) parted.0 (subst (λ vs. ReadsContextAs sig scope metas c vs ns e.first e.first_way e.shorter) same.1 e.context) in
          let entry : Behind rest e.rest_way e.parts =
          subst (λ ts. Behind ts e.rest_way e.parts) parted.1
          (subst (λ is. ReadsItemsAt sig metas before [] (name ∷ []) is (1 + p) p e.rest e.rest_way e.parts) items
          (subst (λ n. ReadsItemsAt sig metas before [] (n ∷ []) e.items (1 + p) p e.rest e.rest_way e.parts) same.0
          (subst (λ vs. ReadsItemsAt sig metas vs [] (e.name ∷ []) e.items (1 + p) p e.rest e.rest_way e.parts) same.1 e.entry))) in
          (e.first_way, e.shorter, e.rest_way, e.parts, context, entry, e.way_is ∙ ap (λ n. slot_place n e.first_way e.rest_way) long, e.tree_is)

      entry_product : IsEntryOver c b all → AreOrdered (Entry (first ++ rest)) → (xs ys zs : List (Way × SchemeTree)) → AreFirst IsBefore (Short first) xs
          → AreFirst IsBefore (Behind rest) ys → IsProductOf (length first) 0 xs ys zs → AreFirst IsBefore Whole zs
      entry_product over order xs ys zs f g h =
          product_first (length first) 0 (Short first) (Behind rest) Whole (Entry (first ++ rest)) (behind_part rest) (behind_row rest) order (λ w s k. k.0)
          (λ w s. (there over w s, back w s)) xs ys zs f g h

      entry_none : ((w : Way) (s : SchemeTree) → Behind rest w s → ⊥) → AreFirst IsBefore Whole []
      entry_none none = no_first _ (λ w s h. (let r = back w s h in none r.2 r.3 r.5))

    module _ (ts : List Token) (n k to : ℕ) (some : n ≤ k) (le : k ≤ to) (within : to ≤ length ts) where
      long : length (slice_range ts n k) ≡ k - n
      long = range_length ts n k some (omega arith)

      two : slice_range ts n to ≡ slice_range ts n k ++ slice_range ts k to
      two = range_two ts n k to some le within

      in_range : (zs : List (Way × SchemeTree)) → AreFirst IsBefore (Whole (slice_range ts n k) (slice_range ts k to)) zs
          → AreFirst IsBefore (λ w s. Entry (slice_range ts n to) w s × TakesFirst (k - n) w) zs
      in_range zs f =
          subst (λ us. AreFirst IsBefore (λ w s. Entry us w s × TakesFirst (k - n) w) zs) (sym two)
          (subst (λ i. AreFirst IsBefore (λ w s. Entry (slice_range ts n k ++ slice_range ts k to) w s × TakesFirst i w) zs) long f)

      pub entry_in_range : NamesApart metas → KnownsApart scope.names.knowns → (prod : Prod) → slice_get sig.prods p ≡ Some prod → prod.cat.0 ≡ c → prod.items ≡ all
          → IsEntryOver c b all → (xs ys zs : List (Way × SchemeTree)) → AreFirst IsBefore (Short (slice_range ts n k)) xs → AreFirst IsBefore (Behind (slice_range ts k to)) ys
          → IsProductOf (k - n) 0 xs ys zs → AreFirst IsBefore (λ w s. Entry (slice_range ts n to) w s × TakesFirst (k - n) w) zs
      entry_in_range names apart prod found of same over xs ys zs f g h =
          in_range zs (entry_product (slice_range ts n k) (slice_range ts k to) over
          (entries_ordered names apart prod found of same (slice_range ts n k ++ slice_range ts k to)) xs ys zs f g (subst (λ i. IsProductOf i 0 xs ys zs) (sym long) h))

      pub no_entry_in_range : ((w : Way) (s : SchemeTree) → Behind (slice_range ts k to) w s → ⊥)
          → AreFirst IsBefore (λ w s. Entry (slice_range ts n to) w s × TakesFirst (k - n) w) []
      no_entry_in_range none = in_range [] (entry_none (slice_range ts n k) (slice_range ts k to) none)

module _ (sig : Signature) (scope : ReadingScope) (metas : List MetaDecl) (c : ℕ) (vs : List Variable) (ts : List Token) where
  abbrev Knowns : List Variable
  Knowns = known_words sig 0 scope.names.knowns

  pub root_found : IsCategoryName sig c ts → vs ≡ with_root scope.names.root c scope.vars Knowns
      → AreFirst IsBefore (IsRoot sig scope metas c vs [] ts) ((way 0 [] no_ways, known 0) ∷ [])
  root_found is vars =
      first_one IsBefore before_transitive (IsRoot sig scope metas c vs [] ts) (way 0 [] no_ways) (known 0) (refl, refl, vars, refl, is) (λ l s h. (sym h.0, sym h.1))

  pub no_root_name : (IsCategoryName sig c ts → ⊥) → AreFirst IsBefore (IsRoot sig scope metas c vs [] ts) []
  no_root_name not = no_first _ (λ w s h. not h.4)

  pub no_root_scope : (vs ≡ with_root scope.names.root c scope.vars Knowns → ⊥) → AreFirst IsBefore (IsRoot sig scope metas c vs [] ts) []
  no_root_scope not = no_first _ (λ w s h. not h.2)

  module _ (p : ℕ) (items : List Item) where
    abbrev Terminals : Way → SchemeTree → Type 0
    Terminals = ReadsItemsAt sig metas [] [] [] items (1 + p) p ts

    pub no_empty_scope : (vs ≡ Knowns → ⊥) → AreFirst IsBefore (IsEmptyOf sig scope metas p items vs [] ts) []
    no_empty_scope not = no_first _ (λ w s h. not h.2)

    pub no_empty : (xs : List (Way × SchemeTree)) → xs ≡ [] → AreFirst IsBefore Terminals xs → AreFirst IsBefore (IsEmptyOf sig scope metas p items vs [] ts) []
    no_empty xs e f = no_first _ (λ w s h. none_listed Terminals xs e f _ _ (no_parts, h.4, refl, refl))

    pub empty_found : vs ≡ Knowns → IsTrue (list_all is_word items) → (xs : List (Way × SchemeTree)) → (xs ≡ [] → ⊥) → AreFirst IsBefore Terminals xs
        → AreFirst IsBefore (IsEmptyOf sig scope metas p items vs [] ts) ((way (1 + p) [] no_ways, local 0) ∷ [])
    empty_found vars words [] some f = absurd (some refl)
    empty_found vars words (x ∷ xs) some f =
        let r = f.have x.0 x.1 (inl refl) in
        let read : ReadsItems sig metas [] [] [] items ts no_parts = subst (ReadsItems sig metas [] [] [] items ts) (terminal_parts r.1 words) r.1 in
        first_one IsBefore before_transitive (IsEmptyOf sig scope metas p items vs [] ts) (way (1 + p) [] no_ways) (local 0) (refl, refl, vars, refl, read)
        (λ l s h. (sym h.0, sym h.1))

  module _ (p : ℕ) (prod : Prod) (found : slice_get sig.prods p ≡ Some prod) where
    this : (q : Prod) → slice_get sig.prods p ≡ Some q → q ≡ prod
    this q e = let two : Some q ≡ Some prod = sym e ∙ found in cc

    pub of_no_category : (prod.cat.0 ≡ c → ⊥) → AreFirst IsBefore (IsContextBy sig scope metas p c vs [] ts) []
    of_no_category other = no_first _ (λ w s h. other (subst (λ (q : Prod). q.cat.0 ≡ c) (this h.0 h.1) h.2))

    by_this : (w : Way) (s : SchemeTree) → IsContextBy sig scope metas p c vs [] ts w s
        → (IsTrue (list_all is_word prod.items) × IsEmptyOf sig scope metas p prod.items vs [] ts w s) ⊎ IsEntryOf sig scope metas p c prod.items vs [] ts w s
    by_this w s h =
        subst (λ (q : Prod). (IsTrue (list_all is_word q.items) × IsEmptyOf sig scope metas p q.items vs [] ts w s) ⊎ IsEntryOf sig scope metas p c q.items vs [] ts w s)
        (this h.0 h.1) h.3

    no_slot_alone : (id : CatId) (binds : List ℕ) (items jtems : List Item) → jtems ≡ Slot id binds ∷ items → IsTrue (list_all is_word jtems) → ⊥
    no_slot_alone id binds items jtems e h = let never : IsTrue (list_all is_word (Slot id binds ∷ items)) = subst (λ x. IsTrue (list_all is_word x)) e h in cc

    pub by_empty : prod.cat.0 ≡ c → IsTrue (list_all is_word prod.items) → (xs : List (Way × SchemeTree)) → AreFirst IsBefore (IsEmptyOf sig scope metas p prod.items vs [] ts) xs
        → AreFirst IsBefore (IsContextBy sig scope metas p c vs [] ts) xs
    by_empty of words xs f =
        same_first (IsEmptyOf sig scope metas p prod.items vs [] ts) (IsContextBy sig scope metas p c vs [] ts) xs
        (λ w s. (
          λ h. (prod, found, of, inl (words, h)),
          λ h. elim (by_this w s h) [
            | inl k ↦ k.1
            | inr k ↦ absurd (no_slot_alone k.id k.binds k.items prod.items k.form words)
          ],
        )) f

    pub by_entry : prod.cat.0 ≡ c → (IsTrue (list_all is_word prod.items) → ⊥) → (xs : List (Way × SchemeTree))
        → AreFirst IsBefore (IsEntryOf sig scope metas p c prod.items vs [] ts) xs → AreFirst IsBefore (IsContextBy sig scope metas p c vs [] ts) xs
    by_entry of not xs f =
        same_first (IsEntryOf sig scope metas p c prod.items vs [] ts) (IsContextBy sig scope metas p c vs [] ts) xs
        (λ w s. (λ h. (prod, found, of, inr h), λ h. elim (by_this w s h) [ inl k ↦ absurd (not k.0) | inr k ↦ k ])) f

    pub by_none : (IsTrue (list_all is_word prod.items) → ⊥) → ((w : Way) (s : SchemeTree) → IsEntryOf sig scope metas p c prod.items vs [] ts w s → ⊥)
        → AreFirst IsBefore (IsContextBy sig scope metas p c vs [] ts) []
    by_none not none = no_first _ (λ w s h. elim (by_this w s h) [ inl k ↦ not k.0 | inr k ↦ none w s k ])

pub terminals_not_single : (items : List Item) → IsTrue (list_all is_word items) → Rattle.binding_terms.specs.Signature.IsSingle items → ⊥
terminals_not_single [] h s = s
terminals_not_single (Slot id binds ∷ []) h s = absurd (cc)
terminals_not_single (Slot id binds ∷ (i ∷ items)) h s = s
terminals_not_single (Rattle.binding_terms.specs.declared.grammar.Item.TheVariants.Word text quoted ∷ items) h s = s
terminals_not_single (Rattle.binding_terms.specs.declared.grammar.Item.TheVariants.Binder id ∷ items) h s = s
