-- The shapes of contexts that write a new known variable are the splits of its entry's items.
use Rattle.std.proofs.Common.{◌≡◌, ◌≢◌, ◌⊎◌, ℕ, zero, suc, ◌+◌, ◌<◌, ◌≤◌, List, [], ◌∷◌, ◌++◌, length, map, take, get_or, inl, inr, refl, ap, ◌∙◌, sym, subst, arith, Option, Some, None, MatchOption, slice_get, slice_range}
use Rattle.std.specs.List.{Contains, AllByRecursion}
use Rattle.std.proofs.lemmas.List.{length-map, map-append, map_more}
use Rattle.std.proofs.lemmas.List.Elements.{Contains-append_right}
use Rattle.binding_terms.specs.Signature.{Signature, binders}
use Rattle.binding_terms.specs.declared.grammar.CatId.{CatId}
use Rattle.binding_terms.specs.declared.grammar.Item.{Item}
use Rattle.scheme_terms.specs.Forms.{SchemeContext, KnownVariable}
use Rattle.scheme_terms.specs.declared.scheme.MetaDecl.{MetaDecl}
use Rattle.rule_schemes.specs.Reading.{Token, Variable, entry_of, variables_of, ReadingScope, known_words, bare, IsKnownNumber}
use Rattle.rule_schemes.specs.Said.{Way, way}
use Rattle.term_reader.specs.Ordered.{ReadsItemsAt}
use Rattle.term_reader.specs.Splitting.{SlotRange, Divided, bound_variable, IsSplit, AreSplits, AreInOrder, AreKnown, AreWithin, Stands, tokens_of, lengths, split, ReadsPieces}
use Rattle.rule_schemes.specs.Said.{ComesBefore}
use Rattle.term_reader.specs.View.{token}
use Rattle.term_reader.specs.declared.sheet.Sheet.{Sheet}
use Rattle.term_reader.proofs.Pieces.{words_of, split_from, read_split}
use Rattle.term_reader.proofs.Usable.{usable_splits}
use Rattle.notation_parser.specs.Shapes.{ContextShape, new_entry, EntryShape, WrittenContext, shape_variables, ReadsInShape, IsShapeBefore, AreShapesInOrder, IsUsable, IsScopeKnown, KnownsApart, context_shape}
use Rattle.notation_parser.specs.ContextCases.{IsNewEntryOf, AreListed, first_variable, entry_of_split, new_entry_of, IsNewShape, AreNewShapes}
use Rattle.notation_parser.specs.declared.shaping.Shape.{Shape}
use Rattle.term_reader.specs.declared.splitting.Split.{Split}
use Rattle.notation_parser.proofs.ContextEntries.{one_variable}
use Rattle.notation_parser.proofs.ShapeLists.{Sound, before_at}
use Rattle.binding_terms.proofs.Lists.{all_also, all_at, all_joined, cons_cases}

-- a name has one number among known variables that are told apart
pub known_case : (ks : List KnownVariable) (w : List ℕ) (n : ℕ) → IsKnownNumber ks w n
    → ((k : KnownVariable) × (slice_get ks n ≡ Some k) × (k.name ≡ w)) ⊎ ((n ≡ length ks) × AllByRecursion (λ (k : KnownVariable). k.name ≢ w) ks)
known_case ks w n h = go (slice_get ks n) refl h
  where
    go : (o : Option KnownVariable) → slice_get ks n ≡ o → MatchOption o ((n ≡ length ks) × AllByRecursion (λ (k : KnownVariable). k.name ≢ w) ks) (λ (k : KnownVariable). k.name ≡ w)
        → ((k : KnownVariable) × (slice_get ks n ≡ Some k) × (k.name ≡ w)) ⊎ ((n ≡ length ks) × AllByRecursion (λ (k : KnownVariable). k.name ≢ w) ks)
    go None e h = inr h
    go (Some k) e h = inl (k, e, h)

pub two_places : (ks : List KnownVariable) (n m : ℕ) (k l : KnownVariable) → KnownsApart ks → slice_get ks n ≡ Some k → slice_get ks m ≡ Some l → k.name ≡ l.name → n ≡ m
two_places [] n m k l apart e f same = cc
two_places (x ∷ ks) zero zero k l apart e f same = refl
two_places (x ∷ ks) zero (suc m) k l apart e f same =
    let is : x ≡ k = cc in
    absurd (all_at (λ (y : KnownVariable). x.name ≢ y.name) ks m l apart.0 f (ap (λ (y : KnownVariable). y.name) is ∙ same))
two_places (x ∷ ks) (suc n) zero k l apart e f same =
    let is : x ≡ l = cc in
    absurd (all_at (λ (y : KnownVariable). x.name ≢ y.name) ks n k apart.0 e (ap (λ (y : KnownVariable). y.name) is ∙ sym same))
two_places (x ∷ ks) (suc n) (suc m) k l apart e f same = ap suc (two_places ks n m k l apart.1 e f same)

pub one_known : (ks : List KnownVariable) (w : List ℕ) (n m : ℕ) → KnownsApart ks → IsKnownNumber ks w n → IsKnownNumber ks w m → n ≡ m
one_known ks w n m apart f g = go (known_case ks w n f) (known_case ks w m g)
  where
    Case : ℕ → Type 0
    Case i = ((k : KnownVariable) × (slice_get ks i ≡ Some k) × (k.name ≡ w)) ⊎ ((i ≡ length ks) × AllByRecursion (λ (k : KnownVariable). k.name ≢ w) ks)

    go : Case n → Case m → n ≡ m
    go (inl a) (inl b) = two_places ks n m a.0 b.0 apart a.1 b.1 (a.2 ∙ sym b.2)
    go (inl a) (inr b) = absurd (all_at (λ (k : KnownVariable). k.name ≢ w) ks n a.0 b.1 a.1 a.2)
    go (inr a) (inl b) = absurd (all_at (λ (k : KnownVariable). k.name ≢ w) ks m b.0 a.1 b.1 b.2)
    go (inr a) (inr b) = a.0 ∙ sym b.0

module _ (ks : List KnownVariable) (p : ℕ) where
  -- each split has its shape
  pub new_all : (P : Divided → Type 0) (Q : ContextShape → Type 0) (ds : List Divided) (all : List ContextShape) → AreNewShapes ks p ds all
      → ((d : Divided) (s : ContextShape) → P d → IsNewShape ks p d s → Q s) → AllByRecursion P ds → AllByRecursion Q all
  new_all P Q [] [] a h g = tt
  new_all P Q [] (s ∷ all) a h g = absurd a
  new_all P Q (d ∷ ds) [] a h g = absurd a
  new_all P Q (d ∷ ds) (s ∷ all) a h g = (h d s g.0 a.0, new_all P Q ds all a.1 h g.1)

  pub new_contains : (ds : List Divided) (all : List ContextShape) (d : Divided) → AreNewShapes ks p ds all → Contains ds d
      → (s : ContextShape) × Contains all s × IsNewShape ks p d s
  new_contains [] all d a h = absurd (omega (arith, h.1))
  new_contains (x ∷ ds) [] d a h = absurd a
  new_contains (x ∷ ds) (s ∷ all) d a h = go (λ more. new_contains ds all d a.1 more) (cons_cases x ds d h)
    where
      go : (Contains ds d → (t : ContextShape) × Contains all t × IsNewShape ks p d t) → (x ≡ d) ⊎ Contains ds d → (t : ContextShape) × Contains (s ∷ all) t × IsNewShape ks p d t
      go rest (inl same) = (s, (0, omega arith, refl), subst (λ (y : Divided). IsNewShape ks p y s) same a.0)
      go rest (inr more) = let t = rest more in (t.0, Contains-append_right (s ∷ []) all t.0 t.1, t.2)

  pub new_last : (ds : List Divided) (all : List ContextShape) (d : Divided) (s : ContextShape) → AreNewShapes ks p ds all → IsNewShape ks p d s → AreNewShapes ks p (ds ++ d ∷ []) (all ++ s ∷ [])
  new_last [] [] d s a h = (h, tt)
  new_last [] (t ∷ all) d s a h = absurd a
  new_last (x ∷ ds) [] d s a h = absurd a
  new_last (x ∷ ds) (t ∷ all) d s a h = (a.0, new_last ds all d s a.1 h)

module _ (sheet : Sheet) (scope : ReadingScope) (c : CatId) (from to p : ℕ) (items : List Item) (some : from < to)
    (within : to ≤ length (tokens_of sheet)) (one : length (binders items) ≡ 1) where
  abbrev sig : Signature
  sig = sheet.sig.now

  abbrev metas : List MetaDecl
  metas = sheet.metas.now

  abbrev ts : List Token
  ts = tokens_of sheet

  abbrev ks : List KnownVariable
  ks = scope.names.knowns

  abbrev Writes : Way → SchemeContext → List Variable → List KnownVariable → Type 0
  Writes = IsNewEntryOf sig scope metas c ts from to p items

  abbrev Splits : Divided → Type 0
  Splits d = IsSplit sig ts to items (from + 1) d.0 d.1

  new_sound : (d : Divided) (s : ContextShape) → Splits d → IsNewShape ks p d s → Sound sig scope metas ts c Writes s
  new_sound d s is new = subst (Sound sig scope metas ts c Writes) (sym new.2) (λ w x r.
      (let le : from + 1 ≤ to = omega (arith, some) in
      let v = one_variable sig ts to items (from + 1) d.0 d.1 is one in
      let first : first_variable d.0 ≡ bound_variable v.0 v.1 = ap first_variable v.2 in
      let knowns = known_words sig 0 ks in
      let read = read_split sheet knowns [] to items (from + 1) d.0 d.1 r.0 r.1 le within is r.4 in
      record {
        lengths = lengths d.1;
        ways = r.0;
        name = v.0;
        cat = v.1;
        known = new.0;
        parts = r.1;
        way_is = r.2;
        context_is = ap (λ (z : WrittenContext). z.0) r.3;
        knowns_are = ap (λ (z : WrittenContext). z.1) r.3 ∙ ap (λ (u : Variable). record { name = u.word; entry = record { prod = p; args = bare r.1 } } ∷ []) first;
        vars_are = ap (λ (u : Variable). record { word = u.word; cat = u.cat; means = entry_of new.0 } ∷ knowns) first;
        binder_is = v.3;
        number_is = subst (λ (u : Variable). IsKnownNumber ks u.word new.0) first new.1;
        entry = subst (λ vs. ReadsItemsAt sig metas knowns [] (words_of vs) items (slice_range ts (from + 1) to) (lengths d.1) r.0 r.1) v.2 read;
      }))

  new_before : (d e : Divided) (s t : ContextShape) → ComesBefore (lengths d.1) (lengths e.1) → IsNewShape ks p d s → IsNewShape ks p e t → IsShapeBefore sig scope metas ts c s t
  new_before d e s t h f g =
      subst (λ u. IsShapeBefore sig scope metas ts c u t) (sym f.2)
      (subst (IsShapeBefore sig scope metas ts c (new_entry (new_entry_of p d f.0))) (sym g.2)
      (λ v w x y a b. before_at v w _ _ a.2 b.2 (inr (refl, inl h))))

  new_order : (ds : List Divided) (all : List ContextShape) → AreNewShapes ks p ds all → AreInOrder ds → AreShapesInOrder sig scope metas ts c all
  new_order [] [] a h = tt
  new_order [] (s ∷ all) a h = absurd a
  new_order (d ∷ ds) [] a h = absurd a
  new_order (d ∷ ds) (s ∷ all) a h = (
    new_all ks p (λ (e : Divided). ComesBefore (lengths d.1) (lengths e.1)) (IsShapeBefore sig scope metas ts c s) ds all a.1 (λ e t b new. new_before d e s t b a.0 new) h.0,
    new_order ds all a.1 h.1,
  )

  new_complete : (ds : List Divided) (all : List ContextShape) → IsScopeKnown sheet scope → KnownsApart ks → AreSplits (Stands sheet) (IsSplit sig ts to items (from + 1)) ds
      → AreNewShapes ks p ds all → (w : Way) (ctx : SchemeContext) (vars : List Variable) (ls : List KnownVariable) → Writes w ctx vars ls
      → (s : ContextShape) × Contains all s × (vars ≡ shape_variables sig scope c.0 s) × ReadsInShape sig scope metas ts c s w (ctx, ls)
  new_complete ds all known apart splits new w ctx vars ls r =
      let le : from + 1 ≤ to = omega (arith, some) in
      let knowns = known_words sig 0 ks in
      let f = split_from sheet r.entry.0 known.1 tt (from + 1) to le within refl in
      let d : Divided = (variables_of (r.name ∷ []) (binders items), f.0) in
      let here : Contains ds d = splits.kept d.0 d.1 f.1 f.3 in
      let s = new_contains ks p ds all d new here in
      let first : first_variable d.0 ≡ bound_variable r.name r.cat = ap (λ cs. first_variable (variables_of (r.name ∷ []) cs)) r.binder_is in
      let number : s.2.0 ≡ r.known = one_known ks r.name s.2.0 r.known apart (subst (λ (u : Variable). IsKnownNumber ks u.word s.2.0) first s.2.1) r.number_is in
      let vars_are : vars ≡ record { word = (first_variable d.0).word; cat = (first_variable d.0).cat; means = entry_of s.2.0 } ∷ knowns =
      r.vars_are ∙ ap (λ (u : Variable). record { word = u.word; cat = u.cat; means = entry_of r.known } ∷ knowns) (sym first)
      ∙ ap (λ n. record { word = (first_variable d.0).word; cat = (first_variable d.0).cat; means = entry_of n } ∷ knowns) (sym number) in
      let pieces : ReadsPieces sig metas ts knowns [] f.0 r.ways r.parts = subst (λ us. ReadsPieces sig metas ts knowns [] f.0 us r.parts) r.entry.2 f.4 in
      let way_is : w ≡ way (1 + (length sig.prods + p)) (lengths f.0) r.ways =
      r.way_is ∙ ap (λ ms. way (1 + (length sig.prods + p)) ms r.ways) (sym (f.2 ∙ r.entry.1)) in
      let knowns_are : ls ≡ record { name = (first_variable d.0).word; entry = record { prod = p; args = bare r.parts } } ∷ [] =
      r.knowns_are ∙ ap (λ (u : Variable). record { name = u.word; entry = record { prod = p; args = bare r.parts } } ∷ []) (sym first) in
      let shape = new_entry (new_entry_of p d s.2.0) in (
        s.0,
        s.1,
        vars_are ∙ ap (shape_variables sig scope c.0) (sym s.2.2),
        subst (λ u. ReadsInShape sig scope metas ts c u w (ctx, ls)) (sym s.2.2)
            (r.ways, r.parts, way_is, (λ i. (r.context_is i, knowns_are i)), pieces),
      )

  pub new_listed : (ds : List Divided) (all : List ContextShape) → IsScopeKnown sheet scope → KnownsApart ks → AreSplits (Stands sheet) (IsSplit sig ts to items (from + 1)) ds
      → AreNewShapes ks p ds all → AreListed sheet scope c Writes all
  new_listed ds all known apart splits new = (
    record {
      sound = new_all ks p Splits (Sound sig scope metas ts c Writes) ds all new new_sound splits.each;
      complete = new_complete ds all known apart splits new;
      in_order = new_order ds all new splits.in_order;
    },
    new_all ks p (λ (d : Divided). AreKnown sheet (first_variable d.0 ∷ []) × AreWithin (length sheet.tokens.now) d.1) (IsUsable sheet) ds all new
        (λ d s k new. subst (IsUsable sheet) (sym new.2) ((k.0.0, tt), k.1))
        (all_joined Splits (λ (d : Divided). AreKnown sheet d.0 × AreWithin (length sheet.tokens.now) d.1)
        (λ (d : Divided). AreKnown sheet (first_variable d.0 ∷ []) × AreWithin (length sheet.tokens.now) d.1) ds
        (λ d is u. (let v = one_variable sig ts to items (from + 1) d.0 d.1 is one in (first_known d.0 (bound_variable v.0 v.1) v.2 u.0, u.1)))
        splits.each (usable_splits sheet (from + 1) to within_tokens items ds splits)),
  )
    where
      within_tokens : to ≤ length sheet.tokens.now
      within_tokens = omega (arith, within, length-map sheet.tokens.now token)

      first_known : (vs : List Variable) → (v : Variable) → vs ≡ v ∷ [] → AreKnown sheet vs → AreKnown sheet (first_variable vs ∷ [])
      first_known vs v e k = subst (λ us. AreKnown sheet (first_variable us ∷ [])) (sym e) (subst (AreKnown sheet) e k)

-- the shape of a split, by the entry that is made of it
pub new_shape_is : (ks : List KnownVariable) (p n : ℕ) (d : Divided) (e : EntryShape) → e ≡ entry_of_split p 1 d → IsKnownNumber ks e.variable.word n
    → IsNewShape ks p d (new_entry (record { prod = e.prod; before = e.before; variable = record { word = e.variable.word; cat = e.variable.cat; means = entry_of n }; slots = e.slots }))
new_shape_is ks p n d e h number = (
  n,
  subst (λ (x : EntryShape). IsKnownNumber ks x.variable.word n) h number,
  ap (λ (x : EntryShape). new_entry (record { prod = x.prod; before = x.before; variable = record { word = x.variable.word; cat = x.variable.cat; means = entry_of n }; slots = x.slots })) h,
)

-- each split has a variable
pub some_new : (sig : Signature) (us : List Token) (Stand : SlotRange → Type 0) (from to : ℕ) (items : List Item) → length (binders items) ≡ 1 → (ds : List Divided)
    → AreSplits Stand (IsSplit sig us to items from) ds → AllByRecursion (λ (d : Divided). 0 < length d.0) ds
some_new sig us Stand from to items one ds splits =
    all_also (λ (d : Divided). IsSplit sig us to items from d.0 d.1) (λ (d : Divided). 0 < length d.0) ds
    (λ d is. (let v = one_variable sig us to items from d.0 d.1 is one in omega (arith, ap length v.2))) splits.each

pub new_of_more : (ks : List KnownVariable) (p : ℕ) (found : List Split) (j : ℕ) (here : Split) (all : List Shape) (x : Shape) → j < length found → here ≡ get_or found j here
    → AreNewShapes ks p (map split (take j found)) (map context_shape all) → IsNewShape ks p (split here) (context_shape x)
    → AreNewShapes ks p (map split (take (j + 1) found)) (map context_shape (all ++ x ∷ []))
new_of_more ks p found j here all x lt is a h =
    subst (λ ds. AreNewShapes ks p ds (map context_shape (all ++ x ∷ []))) (sym (map_more split found j here lt ∙ ap (λ y. map split (take j found) ++ split y ∷ []) (sym is)))
    (subst (AreNewShapes ks p (map split (take j found) ++ split here ∷ [])) (sym (map-append context_shape all (x ∷ [])))
    (new_last ks p (map split (take j found)) (map context_shape all) (split here) (context_shape x) a h))
