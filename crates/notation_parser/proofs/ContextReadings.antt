-- The readings of a context by their cases: its category's name, an empty form, an entry after a shorter context, a known variable.
use Rattle.std.proofs.Common.{◌≡◌, ◌≢◌, ◌⊎◌, ◌↔◌, ℕ, ◌+◌, ◌-◌, ◌<◌, ◌≤◌, IsTrue, List, [], ◌∷◌, ◌++◌, length, drop, inl, inr, refl, ap, ◌∙◌, sym, subst, arith, Option, Some, None, MatchOption, slice_get, slice_range}
use Rattle.std.proofs.lemmas.Bool.{cases_lt}
use Rattle.std.proofs.lemmas.Option.{slice_get_within}
use Rattle.binding_terms.specs.Signature.{Signature, binders, is_empty_form}
use Rattle.binding_terms.specs.declared.grammar.CatId.{CatId}
use Rattle.binding_terms.specs.declared.grammar.Item.{Item}
use Rattle.binding_terms.specs.declared.grammar.Item.TheVariants.{Word, Slot, Binder}
use Rattle.binding_terms.specs.declared.grammar.Prod.{Prod}
use Rattle.scheme_terms.specs.SchemeTree.{Parts, no_parts}
use Rattle.scheme_terms.specs.Forms.{SchemeContext, KnownVariable}
use Rattle.scheme_terms.specs.declared.scheme.MetaDecl.{MetaDecl}
use Rattle.scheme_terms.specs.declared.scheme.Root.TheVariants.{Empty, Whole}
use Rattle.rule_schemes.specs.Reading.{Token, word, Variable, entry_of, ReadingScope, fresh_head, known_words, with_root, bare, IsEntryForm, ReadsItems, all_read, terminal, binder, slot, ReadsContext, root, empty_form, entry, known_entry, head_entry}
use Rattle.rule_schemes.specs.Said.{Way, way, Ways, no_ways, then_way, IsBefore, item_lengths, ways_of_items, way_of_context}
use Rattle.term_reader.specs.Splitting.{bound_variable}
use Rattle.term_reader.specs.Ordered.{ReadsItemsAt}
use Rattle.term_reader.proofs.Ranges.{range_length, range_cons, range_begins, range_two, range_front}
use Rattle.notation_parser.specs.Shapes.{ReadsContextAt}
use Rattle.notation_parser.specs.ContextCases.{IsNamed, IsEmptyOf, BeginsWith, IsEntryOver, IsEnteredAt, IsEnteredBelow, IsContextBy, IsContextBelow, IsNewEntryOf, IsScopeEntryOf, IsKnownEntryOf, IsKnownBy, IsKnownBelow, BeginsNewly}
use Rattle.notation_parser.proofs.ShapeLists.{before_at}
use Rattle.binding_terms.proofs.Lists.{match_some, matched}

-- numbers tell categories apart
same_cat : (c d : CatId) → c.0 ≡ d.0 → c ≡ d
same_cat c d e = ap (λ n. record { 0 = n }) e

-- what begins with a slot of the category
begins : (c : ℕ) (items : List Item) → BeginsWith c items → (id : CatId) × (binds : List ℕ) × (items ≡ Slot id binds ∷ drop 1 items) × (id.0 ≡ c)
begins c [] h = absurd h
begins c (Slot id binds ∷ items) h = (id, binds, refl, h)
begins c (Word text quoted ∷ items) h = absurd h
begins c (Binder d ∷ items) h = absurd h

-- items with a binder take some token
some_taken : {sig : Signature} {metas : List MetaDecl} {vars own : List Variable} {words : List (List ℕ)} {items : List Item} {tokens : List Token} {xs : Parts}
    → ReadsItems sig metas vars own words items tokens xs → 0 < length words → 0 < length tokens
some_taken all_read h = absurd (omega (arith, h))
some_taken (terminal this r) h = omega arith
some_taken (binder this r) h = omega arith
some_taken (slot {tokens = tokens} {first = first} {rest = rest} e some t r) h = long tokens first rest e some
  where
    long : (tokens first rest : List Token) → tokens ≡ first ++ rest → first ≢ [] → 0 < length tokens
    long tokens [] rest e some = absurd (some refl)
    long tokens (x ∷ first) rest e some = let l = ap length e in omega (arith, l)

-- a reading with what it reads and gives written in another way
moved : {sig : Signature} {scope : ReadingScope} {metas : List MetaDecl} {c : ℕ} (us ts : List Token) (v w : Way) (a b : SchemeContext) (xs ys : List Variable) (ks ls : List KnownVariable)
    → ts ≡ us → w ≡ v → b ≡ a → ys ≡ xs → ls ≡ ks → ReadsContextAt sig scope metas c us v a xs ks → ReadsContextAt sig scope metas c ts w b ys ls
moved {sig} {scope} {metas} {c} us ts v w a b xs ys ks ls e f g h k r =
    subst (λ z. ReadsContextAt sig scope metas c z w b ys ls) (sym e)
    (subst (λ z. ReadsContextAt sig scope metas c us z b ys ls) (sym f)
    (subst (λ z. ReadsContextAt sig scope metas c us v z ys ls) (sym g)
    (subst (λ z. ReadsContextAt sig scope metas c us v a z ls) (sym h)
    (subst (λ z. ReadsContextAt sig scope metas c us v a xs z) (sym k) r))))

module _ (sig : Signature) (scope : ReadingScope) (metas : List MetaDecl) (c : CatId) (ts : List Token) (from to : ℕ) (start : from ≤ to) (within : to ≤ length ts) where
  abbrev us : List Token
  us = slice_range ts from to

  abbrev Reads : Way → SchemeContext → List Variable → List KnownVariable → Type 0
  Reads = ReadsContextAt sig scope metas c.0 us

  named_read : (w : Way) (ctx : SchemeContext) (vars : List Variable) (ks : List KnownVariable) → IsNamed sig scope c us w ctx vars ks → Reads w ctx vars ks
  named_read w ctx vars ks h =
      moved (word h.4.0 ∷ []) us (way 0 [] no_ways) w (record { root = Whole c; entries = [] }) ctx
      (with_root scope.names.root c.0 scope.vars (known_words sig 0 scope.names.knowns)) vars [] ks (h.4).1 h.0 h.1 h.2 h.3 (root (h.4).2 refl, refl)

  empty_read : (p : ℕ) (prod : Prod) (w : Way) (ctx : SchemeContext) (vars : List Variable) (ks : List KnownVariable) → slice_get sig.prods p ≡ Some prod → prod.cat.0 ≡ c.0
      → IsTrue (is_empty_form prod) → IsEmptyOf sig scope metas c us p prod.items w ctx vars ks → Reads w ctx vars ks
  empty_read p prod w ctx vars ks found cat is h =
      moved us us (way (1 + p) [] no_ways) w (record { root = Empty c; entries = [] }) ctx (known_words sig 0 scope.names.knowns) vars [] ks refl h.0 h.1 h.2 h.3
      (empty_form p found cat refl is h.4, refl)

  entered_read : (p : ℕ) (prod : Prod) (place : ℕ) (w : Way) (ctx : SchemeContext) (vars : List Variable) (ks : List KnownVariable) → slice_get sig.prods p ≡ Some prod → prod.cat.0 ≡ c.0
      → IsEntryOver c.0 prod.items → from ≤ place → place < to → IsEnteredAt sig scope metas c ts from to p (drop 1 prod.items) place w ctx vars ks → Reads w ctx vars ks
  entered_read p prod place w ctx vars ks found cat over low high h =
      let end : place ≤ to = omega (arith, high) in
      let inside : place ≤ length ts = omega (arith, high, within) in
      let b = begins c.0 prod.items over.0 in
      let form : IsEntryForm sig c.0 p h.cat (drop 1 prod.items) =
      matched (λ (q : Prod). (q.cat.0 ≡ c.0) × ((id : CatId) × (binds : List ℕ) × (q.items ≡ Slot id binds ∷ drop 1 prod.items) × (id.0 ≡ c.0)) × (binders (drop 1 prod.items) ≡ h.cat ∷ []))
      (slice_get sig.prods p) prod found (cat, (b.0, b.1, b.2, b.3), h.binder_is) in
      let whole : us ≡ slice_range ts from place ++ slice_range ts place to = range_two ts from place to low end within in
      let long : length (slice_range ts from place) ≡ place - from = range_length ts from place low inside in
      let read = entry p form whole h.context.0 h.entry.0 in
      let way_is : way_of_context read ≡ way (1 + p) ((place - from) ∷ h.lengths) (then_way h.inner_way h.ways) =
      ap (λ k. way (1 + p) (k ∷ item_lengths h.entry.0) (then_way (way_of_context h.context.0) (ways_of_items h.entry.0))) long
      ∙ ap (λ ls. way (1 + p) ((place - from) ∷ ls) (then_way (way_of_context h.context.0) (ways_of_items h.entry.0))) h.entry.1
      ∙ ap (λ v. way (1 + p) ((place - from) ∷ h.lengths) (then_way v (ways_of_items h.entry.0))) h.context.1
      ∙ ap (λ vs. way (1 + p) ((place - from) ∷ h.lengths) (then_way h.inner_way vs)) h.entry.2 in
      moved us us (way_of_context read) w _ ctx _ vars ks ks refl (h.way_is ∙ sym way_is) h.context_is h.vars_are refl (read, refl)

  by_read : (p : ℕ) (w : Way) (ctx : SchemeContext) (vars : List Variable) (ks : List KnownVariable) → IsContextBy sig scope metas c ts from to p w ctx vars ks → Reads w ctx vars ks
  by_read p w ctx vars ks (prod, found, cat, inl h) = empty_read p prod w ctx vars ks found cat h.0 h.1
  by_read p w ctx vars ks (prod, found, cat, inr h) = entered_read p prod h.1.0 w ctx vars ks found cat h.0 h.1.1 h.1.2 h.1.3

  abbrev Cases : ℕ → ℕ → Way → SchemeContext → List Variable → List KnownVariable → Type 0
  Cases n m w ctx vars ks = IsContextBelow n sig scope metas c ts from to w ctx vars ks ⊎ IsKnownBelow m sig scope metas c ts from to w ctx vars ks

  -- an entry behind a spelling of the category, which is a token of its own
  entry_form : (p : ℕ) (prod : Prod) (b : ℕ) → slice_get sig.prods p ≡ Some prod → prod.cat.0 ≡ c.0 → IsEntryOver c.0 prod.items → binders (drop 1 prod.items) ≡ b ∷ []
      → IsEntryForm sig c.0 p b (drop 1 prod.items)
  entry_form p prod b found cat over one =
      let s = begins c.0 prod.items over.0 in
      matched (λ (q : Prod). (q.cat.0 ≡ c.0) × ((id : CatId) × (binds : List ℕ) × (q.items ≡ Slot id binds ∷ drop 1 prod.items) × (id.0 ≡ c.0)) × (binders (drop 1 prod.items) ≡ b ∷ []))
      (slice_get sig.prods p) prod found (cat, (s.0, s.1, s.2, s.3), one)

  spelled_first : (h : BeginsNewly sig c.0 ts from to) → us ≡ word h.1 ∷ slice_range ts (from + 1) to
  spelled_first h = let begin = h.0 in range_cons ts from to (word h.1) begin within h.2

  head_read : (p : ℕ) (prod : Prod) (w : Way) (ctx : SchemeContext) (vars : List Variable) (ks : List KnownVariable) → scope.fresh ≡ fresh_head → BeginsNewly sig c.0 ts from to
      → slice_get sig.prods p ≡ Some prod → prod.cat.0 ≡ c.0 → IsEntryOver c.0 prod.items → IsNewEntryOf sig scope metas c ts from to p (drop 1 prod.items) w ctx vars ks
      → Reads w ctx vars ks
  head_read p prod w ctx vars ks head begun found cat over h =
      let read = head_entry head (spelled_first begun) begun.3 refl (entry_form p prod h.cat found cat over h.binder_is) h.entry.0 h.number_is in
      let way_is : way_of_context read ≡ way (1 + (length sig.prods + p)) h.lengths h.ways =
      ap (λ ls. way (1 + (length sig.prods + p)) ls (ways_of_items h.entry.0)) h.entry.1 ∙ ap (way (1 + (length sig.prods + p)) h.lengths) h.entry.2 in
      moved us us (way_of_context read) w (record { root = Whole c; entries = [] }) ctx
      (record { word = h.name; cat = h.cat; means = entry_of h.known } ∷ known_words sig 0 scope.names.knowns) vars
      (record { name = h.name; entry = record { prod = p; args = bare h.parts } } ∷ []) ks refl (h.way_is ∙ sym way_is) h.context_is h.vars_are h.knowns_are (read, refl)

  scope_read : (p : ℕ) (prod : Prod) (w : Way) (ctx : SchemeContext) (vars : List Variable) (ks : List KnownVariable) → scope.fresh ≢ fresh_head → BeginsNewly sig c.0 ts from to
      → slice_get sig.prods p ≡ Some prod → prod.cat.0 ≡ c.0 → IsEntryOver c.0 prod.items → IsScopeEntryOf sig scope metas c ts from to p (drop 1 prod.items) w ctx vars ks
      → Reads w ctx vars ks
  scope_read p prod w ctx vars ks other begun found cat over h =
      let read = known_entry p h.cat h.place other (spelled_first begun) begun.3 refl (entry_form p prod h.cat found cat over h.binder_is) h.entry.0 h.here refl h.entry_is in
      let way_is : way_of_context read ≡ way (1 + (length sig.prods + p)) h.lengths h.ways =
      ap (λ ls. way (1 + (length sig.prods + p)) ls (ways_of_items h.entry.0)) h.entry.1 ∙ ap (way (1 + (length sig.prods + p)) h.lengths) h.entry.2 in
      moved us us (way_of_context read) w (record { root = Whole c; entries = [] }) ctx (known_words sig 0 scope.names.knowns) vars
      (h.variable ∷ []) ks refl (h.way_is ∙ sym way_is) h.context_is h.vars_are h.knowns_are (read, refl)

  known_read : (m : ℕ) (w : Way) (ctx : SchemeContext) (vars : List Variable) (ks : List KnownVariable) → IsKnownBelow m sig scope metas c ts from to w ctx vars ks → Reads w ctx vars ks
  known_read m w ctx vars ks (p, lt, begun, (prod, found, cat, over, inl h)) = head_read p prod w ctx vars ks h.0 begun found cat over h.1
  known_read m w ctx vars ks (p, lt, begun, (prod, found, cat, over, inr h)) = scope_read p prod w ctx vars ks h.0 begun found cat over h.1

  -- the production of an entry form
  abbrev EntryProd : (p b : ℕ) → List Item → Type 0
  EntryProd p b items = (q : Prod) × (slice_get sig.prods p ≡ Some q) × (q.cat.0 ≡ c.0) × IsEntryOver c.0 q.items × (drop 1 q.items ≡ items) × (binders items ≡ b ∷ [])

  entry_of_form : (p b : ℕ) (items : List Item) → IsEntryForm sig c.0 p b items → EntryProd p b items
  entry_of_form p b items form =
      let q = match_some (slice_get sig.prods p) _ form in
      let items_are : drop 1 q.0.items ≡ items = ap (drop 1) (q.2.1).2 in
      let over : IsEntryOver c.0 q.0.items = (subst (BeginsWith c.0) (sym (q.2.1).2) (q.2.1).3, ap (λ xs. length (binders xs)) items_are ∙ ap length q.2.2) in
      (q.0, q.1, q.2.0, over, items_are, q.2.2)

  -- each reading is one of these
  cases_of : {tokens : List Token} {ctx : SchemeContext} {vars : List Variable} {ks : List KnownVariable} → (r : ReadsContext sig scope metas c.0 tokens ctx vars ks)
      → us ≡ tokens → Cases (length sig.prods) (length sig.prods) (way_of_context r) ctx vars ks
  cases_of (root {w = w} {id = id} e same) f =
      inl (inl (refl, ap (λ (d : CatId). record { root = Whole d; entries = [] }) (same_cat id c same), refl, refl, (w, f, e)))
  cases_of (empty_form p {prod = prod} {id = id} found cat same is r) f =
      inl (inr (
        p,
        slice_get_within sig.prods p prod found,
        (
          prod,
          found,
          cat,
          inl (is, (refl, ap (λ (d : CatId). record { root = Empty d; entries = [] }) (same_cat id c same), refl, refl, subst (λ ys. ReadsItems sig metas [] [] [] prod.items ys no_parts) (sym f) r)),
        ),
      ))
  cases_of (entry p {b = b} {items = items} {first = first} {rest = rest} {w = name} {xs = xs} {ctx = ctx} {vars = vars} {written = written} form split r ri) f =
      let q = match_some (slice_get sig.prods p) _ form in
      let d = range_front ts from to first rest start within (f ∙ split) in
      let items_are : drop 1 q.0.items ≡ items = ap (drop 1) (q.2.1).2 in
      let one : 0 < length (name ∷ []) = omega arith in
      let long : 0 < length rest = some_taken ri one in
      let end : from + length first < to = omega (arith, long, ap length d.2, range_length ts (from + length first) to d.0 within) in
      let place : from ≤ from + length first = omega arith in
      let count : length first ≡ from + length first - from = omega arith in
      let over : IsEntryOver c.0 q.0.items = (subst (BeginsWith c.0) (sym (q.2.1).2) (q.2.1).3, ap (λ xs. length (binders xs)) items_are ∙ ap length q.2.2) in
      inl (inr (
        p,
        slice_get_within sig.prods p q.0 q.1,
        (
          q.0,
          q.1,
          q.2.0,
          inr (
            over,
            (
              from + length first,
              place,
              end,
              subst (λ ys. IsEnteredAt sig scope metas c ts from to p ys (from + length first) (way_of_context (entry p form split r ri))
                  (record { root = ctx.root; entries = ctx.entries ++ record { prod = p; args = bare xs } ∷ [] }) (bound_variable name b ∷ vars) written) (sym items_are) (record {
                    inner_way = way_of_context r;
                    lengths = item_lengths ri;
                    ways = ways_of_items ri;
                    inner = ctx;
                    inner_vars = vars;
                    name = name;
                    cat = b;
                    parts = xs;
                    way_is = ap (λ k. way (1 + p) (k ∷ item_lengths ri) (then_way (way_of_context r) (ways_of_items ri))) count;
                    context_is = refl;
                    vars_are = refl;
                    binder_is = q.2.2;
                    context = subst (λ ys. ReadsContextAt sig scope metas c.0 ys (way_of_context r) ctx vars written) (sym d.1) (r, refl);
                    entry = subst (λ ys. ReadsItemsAt sig metas vars [] (name ∷ []) items ys (item_lengths ri) (ways_of_items ri) xs) (sym d.2) (ri, refl, refl);
                  }),
            ),
          ),
        ),
      ))
  cases_of (known_entry p b n {items = items} {rest = rest} {spelled = spelled} {w = name} {xs = xs} {id = id} {k = k} f e h same form r found named is) g =
      let q = entry_of_form p b items form in
      let d = range_begins ts from to (word spelled) rest start within (sym e ∙ sym g) in
      let knowns = known_words sig 0 scope.names.knowns in
      let read : ReadsItemsAt sig metas knowns [] (k.name ∷ []) items (slice_range ts (from + 1) to) (item_lengths r) (ways_of_items r) xs =
      subst (λ ys. ReadsItemsAt sig metas knowns [] (k.name ∷ []) items ys (item_lengths r) (ways_of_items r) xs) d.2
      (subst (λ w. ReadsItemsAt sig metas knowns [] (w ∷ []) items rest (item_lengths r) (ways_of_items r) xs) (sym named) (r, refl, refl)) in
      let entry_is : IsScopeEntryOf sig scope metas c ts from to p items (way (1 + (length sig.prods + p)) (item_lengths r) (ways_of_items r)) (record { root = Whole id; entries = [] })
      knowns (k ∷ []) =
      record {
        lengths = item_lengths r;
        ways = ways_of_items r;
        cat = b;
        place = n;
        variable = k;
        parts = xs;
        way_is = refl;
        context_is = ap (λ (d : CatId). record { root = Whole d; entries = [] }) (same_cat id c same);
        knowns_are = refl;
        vars_are = refl;
        binder_is = q.5;
        here = found;
        entry_is = is;
        entry = read;
      } in
      inr (
        p,
        slice_get_within sig.prods p q.0 q.1,
        (d.0, spelled, d.1, h),
        (
          q.0,
          q.1,
          q.2,
          q.3,
          inr (
            f,
            subst (λ ys. IsScopeEntryOf sig scope metas c ts from to p ys (way (1 + (length sig.prods + p)) (item_lengths r) (ways_of_items r)) (record { root = Whole id; entries = [] })
                knowns (k ∷ [])) (sym q.4) entry_is,
          ),
        ),
      )
  cases_of (head_entry {p = p} {b = b} {n = n} {items = items} {rest = rest} {spelled = spelled} {w = name} {xs = xs} {id = id} f e h same form r number) g =
      let q = entry_of_form p b items form in
      let d = range_begins ts from to (word spelled) rest start within (sym e ∙ sym g) in
      let knowns = known_words sig 0 scope.names.knowns in
      let entry_is : IsNewEntryOf sig scope metas c ts from to p items (way (1 + (length sig.prods + p)) (item_lengths r) (ways_of_items r)) (record { root = Whole id; entries = [] })
      (record { word = name; cat = b; means = entry_of n } ∷ knowns) (record { name = name; entry = record { prod = p; args = bare xs } } ∷ []) =
      record {
        lengths = item_lengths r;
        ways = ways_of_items r;
        name = name;
        cat = b;
        known = n;
        parts = xs;
        way_is = refl;
        context_is = ap (λ (d : CatId). record { root = Whole d; entries = [] }) (same_cat id c same);
        knowns_are = refl;
        vars_are = refl;
        binder_is = q.5;
        number_is = number;
        entry = subst (λ ys. ReadsItemsAt sig metas knowns [] (name ∷ []) items ys (item_lengths r) (ways_of_items r) xs) d.2 (r, refl, refl);
      } in
      inr (
        p,
        slice_get_within sig.prods p q.0 q.1,
        (d.0, spelled, d.1, h),
        (
          q.0,
          q.1,
          q.2,
          q.3,
          inl (
            f,
            subst (λ ys. IsNewEntryOf sig scope metas c ts from to p ys (way (1 + (length sig.prods + p)) (item_lengths r) (ways_of_items r)) (record { root = Whole id; entries = [] })
                (record { word = name; cat = b; means = entry_of n } ∷ knowns) (record { name = name; entry = record { prod = p; args = bare xs } } ∷ [])) (sym q.4) entry_is,
          ),
        ),
      )

  pub all_contexts : (n : ℕ) → length sig.prods ≤ n → (w : Way) (ctx : SchemeContext) (vars : List Variable) (ks : List KnownVariable)
      → Cases n (length sig.prods) w ctx vars ks ↔ Reads w ctx vars ks
  all_contexts n le w ctx vars ks = (there, λ r. subst (λ v. Cases n (length sig.prods) v ctx vars ks) r.1 (higher (cases_of r.0 refl)))
    where
      there : Cases n (length sig.prods) w ctx vars ks → Reads w ctx vars ks
      there (inl (inl h)) = named_read w ctx vars ks h
      there (inl (inr h)) = by_read h.0 w ctx vars ks h.2
      there (inr h) = known_read (length sig.prods) w ctx vars ks h

      higher : {v : Way} → Cases (length sig.prods) (length sig.prods) v ctx vars ks → Cases n (length sig.prods) v ctx vars ks
      higher (inl (inl h)) = inl (inl h)
      higher (inl (inr h)) = inl (inr (h.0, omega (arith, h.1, le), h.2))
      higher (inr h) = inr h

  -- the place of a reading by a production
  way_by : (p : ℕ) (w : Way) (ctx : SchemeContext) (vars : List Variable) (ks : List KnownVariable) → IsContextBy sig scope metas c ts from to p w ctx vars ks
      → (ls : List ℕ) × (vs : Ways) × (w ≡ way (1 + p) ls vs)
  way_by p w ctx vars ks (prod, found, cat, inl h) = ([], no_ways, h.1.0)
  way_by p w ctx vars ks (prod, found, cat, inr h) = (_, _, (h.1.3).way_is)

  pub contexts_apart : (n : ℕ) (v w : Way) (a b : SchemeContext) (xs ys : List Variable) (ks ls : List KnownVariable)
      → IsContextBelow n sig scope metas c ts from to v a xs ks → IsContextBy sig scope metas c ts from to n w b ys ls → IsBefore v w
  contexts_apart n v w a b xs ys ks ls (inl h) g =
      let later = way_by n w b ys ls g in before_at v w (way 0 [] no_ways) (way (1 + n) later.0 later.1) h.0 later.2 (inl (omega arith))
  contexts_apart n v w a b xs ys ks ls (inr h) g =
      let sooner = way_by h.0 v a xs ks h.2 in
      let later = way_by n w b ys ls g in
      before_at v w (way (1 + h.0) sooner.0 sooner.1) (way (1 + n) later.0 later.1) sooner.2 later.2 (inl (omega (arith, h.1)))

  pub one_context_more : (n : ℕ) (w : Way) (ctx : SchemeContext) (vars : List Variable) (ks : List KnownVariable)
      → (IsContextBelow n sig scope metas c ts from to w ctx vars ks ⊎ IsContextBy sig scope metas c ts from to n w ctx vars ks)
      ↔ IsContextBelow (n + 1) sig scope metas c ts from to w ctx vars ks
  one_context_more n w ctx vars ks = (there, back)
    where
      there : IsContextBelow n sig scope metas c ts from to w ctx vars ks ⊎ IsContextBy sig scope metas c ts from to n w ctx vars ks
          → IsContextBelow (n + 1) sig scope metas c ts from to w ctx vars ks
      there (inl (inl h)) = inl h
      there (inl (inr h)) = inr (h.0, omega (arith, h.1), h.2)
      there (inr h) = inr (n, omega arith, h)

      back : IsContextBelow (n + 1) sig scope metas c ts from to w ctx vars ks
          → IsContextBelow n sig scope metas c ts from to w ctx vars ks ⊎ IsContextBy sig scope metas c ts from to n w ctx vars ks
      back (inl h) = inl (inl h)
      back (inr h) = go (cases_lt h.0 n)
        where
          go : (h.0 < n) ⊎ (n ≤ h.0) → IsContextBelow n sig scope metas c ts from to w ctx vars ks ⊎ IsContextBy sig scope metas c ts from to n w ctx vars ks
          go (inl lt) = inl (inr (h.0, lt, h.2))
          go (inr le) =
              let same : h.0 ≡ n = omega (arith, h.1, le) in
              inr (subst (λ m. IsContextBy sig scope metas c ts from to m w ctx vars ks) same h.2)

  -- the place of a reading with a known variable's entry
  way_known : (p : ℕ) (items : List Item) (w : Way) (ctx : SchemeContext) (vars : List Variable) (ks : List KnownVariable) → IsKnownEntryOf sig scope metas c ts from to p items w ctx vars ks
      → (ls : List ℕ) × (vs : Ways) × (w ≡ way (1 + (length sig.prods + p)) ls vs)
  way_known p items w ctx vars ks (inl h) = (h.1.lengths, h.1.ways, h.1.way_is)
  way_known p items w ctx vars ks (inr h) = (h.1.lengths, h.1.ways, h.1.way_is)

  -- those that write a known variable stand last
  pub known_last_of_all : (n m : ℕ) (v w : Way) (a b : SchemeContext) (xs ys : List Variable) (ks ls : List KnownVariable)
      → IsContextBelow n sig scope metas c ts from to v a xs ks → IsKnownBelow m sig scope metas c ts from to w b ys ls → IsBefore v w
  known_last_of_all n m v w a b xs ys ks ls (inl h) g =
      let last = way_known g.0 _ w b ys ls (g.3).4 in before_at v w (way 0 [] no_ways) _ h.0 last.2 (inl (omega arith))
  known_last_of_all n m v w a b xs ys ks ls (inr h) g =
      let sooner = way_by h.0 v a xs ks h.2 in
      let last = way_known g.0 _ w b ys ls (g.3).4 in
      let lt = slice_get_within sig.prods h.0 (h.2).0 (h.2).1 in
      before_at v w (way (1 + h.0) sooner.0 sooner.1) _ sooner.2 last.2 (inl (omega (arith, lt)))

  pub known_apart : (n : ℕ) (v w : Way) (a b : SchemeContext) (xs ys : List Variable) (ks ls : List KnownVariable)
      → IsKnownBelow n sig scope metas c ts from to v a xs ks → IsKnownBy sig scope metas c ts from to n w b ys ls → IsBefore v w
  known_apart n v w a b xs ys ks ls h g =
      let sooner = way_known h.0 _ v a xs ks (h.3).4 in
      let later = way_known n _ w b ys ls g.4 in
      before_at v w _ _ sooner.2 later.2 (inl (omega (arith, h.1)))

  pub one_known_more : (n : ℕ) → BeginsNewly sig c.0 ts from to → (w : Way) (ctx : SchemeContext) (vars : List Variable) (ks : List KnownVariable)
      → (IsKnownBelow n sig scope metas c ts from to w ctx vars ks ⊎ IsKnownBy sig scope metas c ts from to n w ctx vars ks) ↔ IsKnownBelow (n + 1) sig scope metas c ts from to w ctx vars ks
  one_known_more n begun w ctx vars ks = (there, λ h. back h (cases_lt h.0 n))
    where
      there : IsKnownBelow n sig scope metas c ts from to w ctx vars ks ⊎ IsKnownBy sig scope metas c ts from to n w ctx vars ks → IsKnownBelow (n + 1) sig scope metas c ts from to w ctx vars ks
      there (inl h) = (h.0, omega (arith, h.1), h.2, h.3)
      there (inr h) = (n, omega arith, begun, h)

      back : (h : IsKnownBelow (n + 1) sig scope metas c ts from to w ctx vars ks) → (h.0 < n) ⊎ (n ≤ h.0)
          → IsKnownBelow n sig scope metas c ts from to w ctx vars ks ⊎ IsKnownBy sig scope metas c ts from to n w ctx vars ks
      back h (inl lt) = inl (h.0, lt, h.2, h.3)
      back h (inr le) =
          let same : h.0 ≡ n = omega (arith, h.1, le) in
          inr (subst (λ m. IsKnownBy sig scope metas c ts from to m w ctx vars ks) same h.3)

  -- entries that begin at different places
  module _ (p : ℕ) (items : List Item) where
    abbrev Below : ℕ → Way → SchemeContext → List Variable → List KnownVariable → Type 0
    Below n = IsEnteredBelow n sig scope metas c ts from to p items

    abbrev At : ℕ → Way → SchemeContext → List Variable → List KnownVariable → Type 0
    At n = IsEnteredAt sig scope metas c ts from to p items n

    pub entries_apart : (n : ℕ) (v w : Way) (a b : SchemeContext) (xs ys : List Variable) (ks ls : List KnownVariable) → Below n v a xs ks → At n w b ys ls → IsBefore v w
    entries_apart n v w a b xs ys ks ls h g =
        let lt : h.0 - from < n - from = omega (arith, h.1, h.2) in
        before_at v w _ _ (h.3).way_is g.way_is (inr (refl, inl (inl lt)))

    pub one_entry_more : (n : ℕ) → from ≤ n → (w : Way) (ctx : SchemeContext) (vars : List Variable) (ks : List KnownVariable)
        → (Below n w ctx vars ks ⊎ At n w ctx vars ks) ↔ Below (n + 1) w ctx vars ks
    one_entry_more n le w ctx vars ks = (there, λ h. back h (cases_lt h.0 n))
      where
        there : Below n w ctx vars ks ⊎ At n w ctx vars ks → Below (n + 1) w ctx vars ks
        there (inl h) = (h.0, h.1, omega (arith, h.2), h.3)
        there (inr h) = (n, le, omega arith, h)

        back : (h : Below (n + 1) w ctx vars ks) → (h.0 < n) ⊎ (n ≤ h.0) → Below n w ctx vars ks ⊎ At n w ctx vars ks
        back h (inl lt) = inl (h.0, h.1, lt, h.3)
        back h (inr ge) =
            let same : h.0 ≡ n = omega (arith, h.2, ge) in
            inr (subst (λ m. At m w ctx vars ks) same h.3)
