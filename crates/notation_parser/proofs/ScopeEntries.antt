-- The shapes of contexts that write a known variable of the scope are those splits of its entry's items whose variable has its name.
use Rattle.std.proofs.Common.{◌≡◌, ◌≢◌, ◌⊎◌, ℕ, ◌+◌, ◌<◌, ◌≤◌, List, [], ◌∷◌, ◌++◌, length, map, take, get_or, inl, inr, refl, ap, ◌∙◌, sym, subst, arith, Option, Some, MatchOption, slice_get, slice_range}
use Rattle.std.specs.List.{Contains, AllByRecursion}
use Rattle.std.proofs.lemmas.List.{length-map, map-append, map_more, append_assoc, append-nil}
use Rattle.std.proofs.lemmas.List.Elements.{Contains-append_left, Contains-append_right}
use Rattle.binding_terms.specs.Signature.{Signature, binders}
use Rattle.binding_terms.specs.declared.grammar.CatId.{CatId}
use Rattle.binding_terms.specs.declared.grammar.Item.{Item}
use Rattle.scheme_terms.specs.Forms.{SchemeEntry, SchemeContext, KnownVariable}
use Rattle.scheme_terms.specs.declared.scheme.MetaDecl.{MetaDecl}
use Rattle.rule_schemes.specs.Reading.{Token, Variable, variables_of, ReadingScope, known_words, IsKnownNumber}
use Rattle.rule_schemes.specs.Said.{Way, way, ComesBefore}
use Rattle.term_reader.specs.Ordered.{ReadsItemsAt}
use Rattle.term_reader.specs.Splitting.{Divided, bound_variable, IsSplit, AreSplits, AreInOrder, AreWithin, Stands, tokens_of, lengths, split, ReadsPieces}
use Rattle.term_reader.specs.View.{token}
use Rattle.term_reader.specs.declared.sheet.Sheet.{Sheet}
use Rattle.term_reader.specs.declared.splitting.Split.{Split}
use Rattle.term_reader.proofs.Pieces.{words_of, split_from, read_split}
use Rattle.term_reader.proofs.Usable.{usable_splits}
use Rattle.notation_parser.specs.Shapes.{ContextShape, scope_entry, WrittenContext, shape_variables, ReadsInShape, IsShapeBefore, AreShapesInOrder, IsUsable, IsScopeKnown, KnownsApart, context_shape}
use Rattle.notation_parser.specs.ContextCases.{IsScopeEntryOf, AreListed, first_variable, IsEntryBy, IsScopeShape, AreScopeShapes}
use Rattle.notation_parser.specs.declared.shaping.Shape.{Shape}
use Rattle.notation_parser.proofs.ContextEntries.{one_variable}
use Rattle.notation_parser.proofs.NewEntries.{one_known}
use Rattle.notation_parser.proofs.ShapeLists.{Sound, before_at, order_append}
use Rattle.binding_terms.proofs.Lists.{all_also, all_append, cons_cases}

-- the known variable with a number, by its entry's production
entry_by : (ks : List KnownVariable) (n p : ℕ) (k : KnownVariable) → slice_get ks n ≡ Some k → k.entry.prod ≡ p → IsEntryBy ks n p
entry_by ks n p k e h = subst (λ (o : Option KnownVariable). MatchOption o ⊥ (λ (l : KnownVariable). l.entry.prod ≡ p)) (sym e) h

named_number : (ks : List KnownVariable) (w : List ℕ) (n : ℕ) (k : KnownVariable) → slice_get ks n ≡ Some k → k.name ≡ w → IsKnownNumber ks w n
named_number ks w n k e h =
    subst (λ (o : Option KnownVariable). MatchOption o ((n ≡ length ks) × AllByRecursion (λ (l : KnownVariable). l.name ≢ w) ks) (λ (l : KnownVariable). l.name ≡ w)) (sym e) h

number_named : (ks : List KnownVariable) (w : List ℕ) (n : ℕ) (k : KnownVariable) → slice_get ks n ≡ Some k → IsKnownNumber ks w n → k.name ≡ w
number_named ks w n k e h =
    subst (λ (o : Option KnownVariable). MatchOption o ((n ≡ length ks) × AllByRecursion (λ (l : KnownVariable). l.name ≢ w) ks) (λ (l : KnownVariable). l.name ≡ w)) e h

module _ (ks : List KnownVariable) (p : ℕ) where
  one_shape_all : (Q : ContextShape → Type 0) (d : Divided) (some : List ContextShape) → IsScopeShape ks p d some
      → ((n : ℕ) → IsKnownNumber ks (first_variable d.0).word n → IsEntryBy ks n p → Q (scope_entry p n d.1)) → AllByRecursion Q some
  one_shape_all Q d some (n, number, inl h) make = subst (AllByRecursion Q) (sym h.1) (make n number h.0, tt)
  one_shape_all Q d some (n, number, inr h) make = subst (AllByRecursion Q) (sym h.1) tt

  -- what holds of each shape of a split holds of all
  scope_all : (P : Divided → Type 0) (Q : ContextShape → Type 0) (ds : List Divided) (all : List ContextShape) → AreScopeShapes ks p ds all
      → ((d : Divided) (n : ℕ) → P d → IsKnownNumber ks (first_variable d.0).word n → IsEntryBy ks n p → Q (scope_entry p n d.1)) → AllByRecursion P ds → AllByRecursion Q all
  scope_all P Q [] all a make h = subst (AllByRecursion Q) (sym a) tt
  scope_all P Q (d ∷ ds) all (some, rest, e, here, more) make h =
      subst (AllByRecursion Q) (sym e)
      (all_append Q some rest (one_shape_all Q d some here (λ n number by. make d n h.0 number by)) (scope_all P Q ds rest more make h.1))

  one_shape_is : (d : Divided) (some : List ContextShape) (n : ℕ) → KnownsApart ks → IsScopeShape ks p d some → IsKnownNumber ks (first_variable d.0).word n → IsEntryBy ks n p
      → Contains some (scope_entry p n d.1)
  one_shape_is d some n apart (m, number, inl h) is by =
      let same : m ≡ n = one_known ks (first_variable d.0).word m n apart number is in
      subst (λ xs. Contains xs (scope_entry p n d.1)) (sym h.1) (0, omega arith, ap (λ i. scope_entry p i d.1) same)
  one_shape_is d some n apart (m, number, inr h) is by =
      let same : n ≡ m = one_known ks (first_variable d.0).word n m apart is number in
      absurd (h.0 (subst (λ i. IsEntryBy ks i p) same by))

  -- the shape of a split with a known variable's name is there
  scope_contains : (ds : List Divided) (all : List ContextShape) (d : Divided) (n : ℕ) → KnownsApart ks → AreScopeShapes ks p ds all → Contains ds d
      → IsKnownNumber ks (first_variable d.0).word n → IsEntryBy ks n p → Contains all (scope_entry p n d.1)
  scope_contains [] all d n apart a h is by = absurd (omega (arith, h.1))
  scope_contains (x ∷ ds) all d n apart (some, rest, e, here, more) h is by =
      subst (λ xs. Contains xs (scope_entry p n d.1)) (sym e) (go (λ k. scope_contains ds rest d n apart more k is by) (cons_cases x ds d h))
    where
      go : (Contains ds d → Contains rest (scope_entry p n d.1)) → (x ≡ d) ⊎ Contains ds d → Contains (some ++ rest) (scope_entry p n d.1)
      go behind (inl same) =
          Contains-append_left some rest (scope_entry p n d.1) (one_shape_is d some n apart (subst (λ (y : Divided). IsScopeShape ks p y some) same here) is by)
      go behind (inr later) = Contains-append_right some rest (scope_entry p n d.1) (behind later)

  scope_last : (ds : List Divided) (all some : List ContextShape) (d : Divided) → AreScopeShapes ks p ds all → IsScopeShape ks p d some
      → AreScopeShapes ks p (ds ++ d ∷ []) (all ++ some)
  scope_last [] all some d a h = (some, [], ap (λ xs. xs ++ some) a ∙ sym (append-nil some), h, refl)
  scope_last (x ∷ ds) all some d (first, rest, e, here, more) h =
      (first, rest ++ some, ap (λ xs. xs ++ some) e ∙ append_assoc first rest some, here, scope_last ds rest some d more h)

-- one split more
pub scope_more : (ks : List KnownVariable) (p : ℕ) (found : List Split) (j : ℕ) (here : Split) (all some : List Shape) → j < length found → here ≡ get_or found j here
    → AreScopeShapes ks p (map split (take j found)) (map context_shape all) → IsScopeShape ks p (split here) (map context_shape some)
    → AreScopeShapes ks p (map split (take (j + 1) found)) (map context_shape (all ++ some))
scope_more ks p found j here all some lt is a h =
    subst (λ ds. AreScopeShapes ks p ds (map context_shape (all ++ some))) (sym (map_more split found j here lt ∙ ap (λ y. map split (take j found) ++ split y ∷ []) (sym is)))
    (subst (AreScopeShapes ks p (map split (take j found) ++ split here ∷ [])) (sym (map-append context_shape all some))
    (scope_last ks p (map split (take j found)) (map context_shape all) (map context_shape some) (split here) a h))

module _ (sheet : Sheet) (scope : ReadingScope) (c : CatId) (from to p : ℕ) (items : List Item) (some : from < to)
    (within : to ≤ length (tokens_of sheet)) (one : length (binders items) ≡ 1) where
  abbrev sig : Signature
  sig = sheet.sig.now

  abbrev metas : List MetaDecl
  metas = sheet.metas.now

  abbrev ts : List Token
  ts = tokens_of sheet

  abbrev ks : List KnownVariable
  ks = scope.names.knowns

  abbrev Writes : Way → SchemeContext → List Variable → List KnownVariable → Type 0
  Writes = IsScopeEntryOf sig scope metas c ts from to p items

  abbrev Splits : Divided → Type 0
  Splits d = IsSplit sig ts to items (from + 1) d.0 d.1

  scope_sound : (d : Divided) (n : ℕ) → Splits d → IsKnownNumber ks (first_variable d.0).word n → Sound sig scope metas ts c Writes (scope_entry p n d.1)
  scope_sound d n is number w x r =
      let le : from + 1 ≤ to = omega (arith, some) in
      let v = one_variable sig ts to items (from + 1) d.0 d.1 is one in
      let k : KnownVariable = r.2 in
      let name : k.name ≡ v.0 = number_named ks (first_variable d.0).word n k r.5 number ∙ ap (λ vs. (first_variable vs).word) v.2 in
      let knowns = known_words sig 0 ks in
      let read = read_split sheet knowns [] to items (from + 1) d.0 d.1 r.0 r.1 le within is r.7 in
      record {
        lengths = lengths d.1;
        ways = r.0;
        cat = v.1;
        place = n;
        variable = k;
        parts = r.1;
        way_is = r.3;
        context_is = ap (λ (z : WrittenContext). z.0) r.4;
        knowns_are = ap (λ (z : WrittenContext). z.1) r.4;
        vars_are = refl;
        binder_is = v.3;
        here = r.5;
        entry_is = r.6;
        entry = subst (λ w. ReadsItemsAt sig metas knowns [] (w ∷ []) items (slice_range ts (from + 1) to) (lengths d.1) r.0 r.1) (sym name)
            (subst (λ vs. ReadsItemsAt sig metas knowns [] (words_of vs) items (slice_range ts (from + 1) to) (lengths d.1) r.0 r.1) v.2 read);
      }

  scope_complete : (ds : List Divided) (all : List ContextShape) → IsScopeKnown sheet scope → KnownsApart ks → AreSplits (Stands sheet) (IsSplit sig ts to items (from + 1)) ds
      → AreScopeShapes ks p ds all → (w : Way) (ctx : SchemeContext) (vars : List Variable) (ls : List KnownVariable) → Writes w ctx vars ls
      → (s : ContextShape) × Contains all s × (vars ≡ shape_variables sig scope c.0 s) × ReadsInShape sig scope metas ts c s w (ctx, ls)
  scope_complete ds all known apart splits shapes w ctx vars ls r =
      let le : from + 1 ≤ to = omega (arith, some) in
      let knowns = known_words sig 0 ks in
      let f = split_from sheet r.entry.0 known.1 tt (from + 1) to le within refl in
      let d : Divided = (variables_of (r.variable.name ∷ []) (binders items), f.0) in
      let here : Contains ds d = splits.kept d.0 d.1 f.1 f.3 in
      let first : first_variable d.0 ≡ bound_variable r.variable.name r.cat = ap (λ cs. first_variable (variables_of (r.variable.name ∷ []) cs)) r.binder_is in
      let number : IsKnownNumber ks (first_variable d.0).word r.place =
      named_number ks (first_variable d.0).word r.place r.variable r.here (sym (ap (λ (u : Variable). u.word) first)) in
      let by : IsEntryBy ks r.place p = entry_by ks r.place p r.variable r.here (ap (λ (e : SchemeEntry). e.prod) r.entry_is) in
      let pieces : ReadsPieces sig metas ts knowns [] f.0 r.ways r.parts = subst (λ us. ReadsPieces sig metas ts knowns [] f.0 us r.parts) r.entry.2 f.4 in
      let way_is : w ≡ way (1 + (length sig.prods + p)) (lengths f.0) r.ways =
      r.way_is ∙ ap (λ ms. way (1 + (length sig.prods + p)) ms r.ways) (sym (f.2 ∙ r.entry.1)) in (
        scope_entry p r.place f.0,
        scope_contains ks p ds all d r.place apart shapes here number by,
        r.vars_are,
        (r.ways, r.parts, r.variable, way_is, (λ i. (r.context_is i, r.knowns_are i)), r.here, r.entry_is, pieces),
      )

  scope_before : (d e : Divided) (n m : ℕ) → ComesBefore (lengths d.1) (lengths e.1) → IsShapeBefore sig scope metas ts c (scope_entry p n d.1) (scope_entry p m e.1)
  scope_before d e n m h v w x y a b = before_at v w _ _ a.3 b.3 (inr (refl, inl h))

  one_ordered : (d : Divided) (all : List ContextShape) → IsScopeShape ks p d all → AreShapesInOrder sig scope metas ts c all
  one_ordered d all (n, number, inl h) = subst (AreShapesInOrder sig scope metas ts c) (sym h.1) (tt, tt)
  one_ordered d all (n, number, inr h) = subst (AreShapesInOrder sig scope metas ts c) (sym h.1) tt

  scope_order : (ds : List Divided) (all : List ContextShape) → AreScopeShapes ks p ds all → AreInOrder ds → AreShapesInOrder sig scope metas ts c all
  scope_order [] all a h = subst (AreShapesInOrder sig scope metas ts c) (sym a) tt
  scope_order (d ∷ ds) all (front, rest, e, here, more) h =
      subst (AreShapesInOrder sig scope metas ts c) (sym e)
      (order_append sig scope metas ts c front rest (one_ordered d front here) (scope_order ds rest more h.1)
      (one_shape_all ks p (λ s. AllByRecursion (IsShapeBefore sig scope metas ts c s) rest) d front here
      (λ n number by. scope_all ks p (λ (x : Divided). ComesBefore (lengths d.1) (lengths x.1)) (IsShapeBefore sig scope metas ts c (scope_entry p n d.1)) ds rest more
      (λ x m b _ _. scope_before d x n m b) h.0)))

  pub scope_listed : (ds : List Divided) (all : List ContextShape) → IsScopeKnown sheet scope → KnownsApart ks → AreSplits (Stands sheet) (IsSplit sig ts to items (from + 1)) ds
      → AreScopeShapes ks p ds all → AreListed sheet scope c Writes all
  scope_listed ds all known apart splits shapes = (
    record {
      sound = scope_all ks p Splits (Sound sig scope metas ts c Writes) ds all shapes (λ d n is number _. scope_sound d n is number) splits.each;
      complete = scope_complete ds all known apart splits shapes;
      in_order = scope_order ds all shapes splits.in_order;
    },
    scope_all ks p (λ (d : Divided). AreWithin (length sheet.tokens.now) d.1) (IsUsable sheet) ds all shapes (λ d n k _ _. k) usable,
  )
    where
      within_tokens : to ≤ length sheet.tokens.now
      within_tokens = omega (arith, within, length-map sheet.tokens.now token)

      usable : AllByRecursion (λ (d : Divided). AreWithin (length sheet.tokens.now) d.1) ds
      usable = all_also _ (λ (d : Divided). AreWithin (length sheet.tokens.now) d.1) ds (λ d u. u.1) (usable_splits sheet (from + 1) to within_tokens items ds splits)
