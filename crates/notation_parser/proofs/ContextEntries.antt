-- The shapes of contexts with an entry more are those of the shorter contexts with the splits of the entry's items.
use Rattle.std.proofs.Common.{◌≡◌, ℕ, ◌+◌, ◌-◌, ◌<◌, ◌≤◌, List, [], ◌∷◌, ◌++◌, length, refl, ap, ◌∙◌, sym, subst, arith, slice_get, slice_range, Bool, true, false, ◌==◌, if◌then◌else◌}
use Rattle.std.proofs.lemmas.List.{length-map}
use Rattle.std.specs.List.{Contains, AllByRecursion}
use Rattle.binding_terms.specs.Signature.{Signature, binders}
use Rattle.binding_terms.specs.declared.grammar.CatId.{CatId}
use Rattle.binding_terms.specs.declared.grammar.Item.{Item}
use Rattle.binding_terms.specs.declared.grammar.Item.TheVariants.{Word, Slot, Binder}
use Rattle.scheme_terms.specs.Forms.{SchemeContext, KnownVariable}
use Rattle.scheme_terms.specs.declared.scheme.MetaDecl.{MetaDecl}
use Rattle.scheme_terms.specs.declared.scheme.Root.{Root}
use Rattle.scheme_terms.specs.declared.scheme.Root.TheVariants.{Closed, Empty, Whole}
use Rattle.rule_schemes.specs.Reading.{Token, Variable, variables_of, ReadingScope, known_words, with_root, IsEntryForm, ReadsContext, root, empty_form, entry, known_entry, head_entry}
use Rattle.rule_schemes.specs.Said.{Way, way, then_way}
use Rattle.term_reader.specs.Chart.{MayBeVariable}
use Rattle.term_reader.specs.Ordered.{ReadsItemsAt}
use Rattle.term_reader.specs.Splitting.{SlotRange, Divided, bound_variable, IsSplit, AreSplits, AreKnown, AreWithin, Stands, tokens_of, lengths, ReadsPieces}
use Rattle.term_reader.specs.View.{token}
use Rattle.term_reader.specs.declared.sheet.Sheet.{Sheet}
use Rattle.term_reader.proofs.Pieces.{words_of, split_from, read_split, known_own}
use Rattle.term_reader.proofs.Usable.{usable_splits}
use Rattle.notation_parser.specs.Shapes.{ReadsContextAt, ContextShape, named, empty, new_entry, scope_entry, entered, WrittenContext, shape_variables, ReadsInShape, IsUsable, IsScopeKnown}
use Rattle.notation_parser.specs.ContextCases.{IsEnteredAt, AreListed, first_variable, entry_of_split, crossed}
use Rattle.notation_parser.proofs.ShapeLists.{Sound, no_shapes, all_crossed, contains_crossed, order_crossed}
use Rattle.binding_terms.proofs.Lists.{all_also, all_append, all_joined, match_to}

-- a split of items without binders has no variable, and one of items with one binder has one
no_variable : (sig : Signature) (us : List Token) (to : ℕ) (items : List Item) (n : ℕ) (vs : List Variable) (ps : List SlotRange) → IsSplit sig us to items n vs ps
    → length (binders items) ≡ 0 → vs ≡ []
no_variable sig us to [] n vs ps s none = s.1
no_variable sig us to (Word text quoted ∷ items) n vs ps s none = no_variable sig us to items (n + 1) vs ps s.4 none
no_variable sig us to (Binder c ∷ items) n vs ps s none = absurd (omega (arith, none))
no_variable sig us to (Slot c binds ∷ items) n vs [] s none = absurd s
no_variable sig us to (Slot c binds ∷ items) n vs (p ∷ ps) s none = no_variable sig us to items p.to vs ps s.3 none

no_binder : (items : List Item) → length (binders items) ≡ 0 → binders items ≡ []
no_binder [] e = refl
no_binder (Word text quoted ∷ items) e = no_binder items e
no_binder (Binder c ∷ items) e = absurd (omega (arith, e))
no_binder (Slot c binds ∷ items) e = no_binder items e

pub one_variable : (sig : Signature) (us : List Token) (to : ℕ) (items : List Item) (n : ℕ) (vs : List Variable) (ps : List SlotRange) → IsSplit sig us to items n vs ps
    → length (binders items) ≡ 1 → (name : List ℕ) × (cat : ℕ) × (vs ≡ bound_variable name cat ∷ []) × (binders items ≡ cat ∷ [])
one_variable sig us to [] n vs ps s one = absurd (omega (arith, one))
one_variable sig us to (Word text quoted ∷ items) n vs ps s one = one_variable sig us to items (n + 1) vs ps s.4 one
one_variable sig us to (Binder c ∷ items) n [] ps s one = absurd s
one_variable sig us to (Binder c ∷ items) n (v ∷ vs) ps s one =
    let none : length (binders items) ≡ 0 = omega (arith, one) in
    (v.word, c.0, ap (λ us. v ∷ us) (no_variable sig us to items (n + 1) vs ps s.4 none) ∙ ap (λ u. u ∷ []) s.1, ap (λ cs. c.0 ∷ cs) (no_binder items none))
one_variable sig us to (Slot c binds ∷ items) n vs [] s one = absurd s
one_variable sig us to (Slot c binds ∷ items) n vs (p ∷ ps) s one = one_variable sig us to items p.to vs ps s.3 one

-- the variables after a usable shape are known
known_root : (sheet : Sheet) (root : Root) (c : ℕ) (vars knowns : List Variable) → AreKnown sheet vars → AreKnown sheet knowns → AreKnown sheet (with_root root c vars knowns)
known_root sheet Closed c vars knowns v k = k
known_root sheet (Empty r) c vars knowns v k = k
known_root sheet (Whole r) c vars knowns v k = go (r.0 == c)
  where
    go : (b : Bool) → AreKnown sheet (if b then (vars ++ knowns) else knowns)
    go true = all_append (λ (v : Variable). MayBeVariable sheet.sig.now sheet.words.now v.cat v.word) vars knowns v k
    go false = k

pub known_shape : (sheet : Sheet) (scope : ReadingScope) (c : ℕ) (s : ContextShape) → IsScopeKnown sheet scope → IsUsable sheet s
    → AreKnown sheet (shape_variables sheet.sig.now scope c s)
known_shape sheet scope c named k u =
    known_root sheet scope.names.root c scope.vars (known_words sheet.sig.now 0 scope.names.knowns) k.0 k.1
known_shape sheet scope c (empty p) k u = k.1
known_shape sheet scope c (new_entry e) k u = (u.0.0, k.1)
known_shape sheet scope c (scope_entry p n ps) k u = k.1
known_shape sheet scope c (entered s e) k u = (u.1.0, known_shape sheet scope c s k u.0)

one_of : (sheet : Sheet) (c p b : ℕ) (items : List Item) → IsEntryForm sheet.sig.now c p b items → binders items ≡ b ∷ []
one_of sheet c p b items form = match_to (slice_get sheet.sig.now.prods p) _ (binders items ≡ b ∷ []) (λ prod h. h.2) form

known_variable_of : (sheet : Sheet) (name : List ℕ) (b : ℕ) (items : List Item) → AreKnown sheet (variables_of (name ∷ []) (binders items)) → binders items ≡ b ∷ []
    → MayBeVariable sheet.sig.now sheet.words.now b name
known_variable_of sheet name b items k e = (subst (λ cs. AreKnown sheet (variables_of (name ∷ []) cs)) e k).0

-- the variables after a context that reads are known
pub known_context : (sheet : Sheet) (scope : ReadingScope) {c : ℕ} {tokens : List Token} {ctx : SchemeContext} {vars : List Variable} {ks : List KnownVariable} → IsScopeKnown sheet scope
    → ReadsContext sheet.sig.now scope sheet.metas.now c tokens ctx vars ks → AreKnown sheet vars
known_context sheet scope {c} k (root e same) =
    known_root sheet scope.names.root c scope.vars (known_words sheet.sig.now 0 scope.names.knowns) k.0 k.1
known_context sheet scope k (empty_form p found cat same is r) = k.1
known_context sheet scope {c} k (entry p {b = b} {items = items} {w = name} form split r ri) =
    (known_variable_of sheet name b items (known_own sheet ri) (one_of sheet c p b items form), known_context sheet scope k r)
known_context sheet scope k (known_entry p b n f e h same form r found name is) = k.1
known_context sheet scope {c} k (head_entry {p = p} {b = b} {items = items} {w = name} f e h same form r number) =
    (known_variable_of sheet name b items (known_own sheet r) (one_of sheet c p b items form), k.1)

module _ (sheet : Sheet) (scope : ReadingScope) (c : CatId) (from place to p : ℕ) (items : List Item) (start : from ≤ place) (some : place < to)
    (within : to ≤ length (tokens_of sheet)) (one : length (binders items) ≡ 1) where
  abbrev sig : Signature
  sig = sheet.sig.now

  abbrev metas : List MetaDecl
  metas = sheet.metas.now

  abbrev ts : List Token
  ts = tokens_of sheet

  abbrev Shorter : Way → SchemeContext → List Variable → List KnownVariable → Type 0
  Shorter = ReadsContextAt sig scope metas c.0 (slice_range ts from place)

  abbrev Longer : Way → SchemeContext → List Variable → List KnownVariable → Type 0
  Longer = IsEnteredAt sig scope metas c ts from to p items place

  entered_sound : (d : Divided) (s : ContextShape) → IsSplit sig ts to items place d.0 d.1 → Sound sig scope metas ts c Shorter s
      → Sound sig scope metas ts c Longer (entered s (entry_of_split p (place - from) d))
  entered_sound d s is sound w x r =
      let le : place ≤ to = omega (arith, some) in
      let v = one_variable sig ts to items place d.0 d.1 is one in
      let vars = shape_variables sig scope c.0 s in
      let read = read_split sheet vars [] to items place d.0 d.1 r.1 r.3 le within is r.7 in
      record {
        inner_way = r.0;
        lengths = lengths d.1;
        ways = r.1;
        inner = r.2.0;
        inner_vars = vars;
        name = v.0;
        cat = v.1;
        parts = r.3;
        way_is = r.4;
        context_is = ap (λ (z : WrittenContext). z.0) r.5;
        vars_are = ap (λ vs. first_variable vs ∷ vars) v.2;
        binder_is = v.3;
        context = subst (λ ks. ReadsContextAt sig scope metas c.0 (slice_range ts from place) r.0 r.2.0 vars ks) (sym (ap (λ (z : WrittenContext). z.1) r.5)) (sound r.0 r.2 r.6);
        entry = subst (λ vs. ReadsItemsAt sig metas vars [] (words_of vs) items (slice_range ts place to) (lengths d.1) r.1 r.3) v.2 read;
      }

  entered_complete : (inner : List ContextShape) (ds : List Divided) → IsScopeKnown sheet scope → AreSplits (Stands sheet) (IsSplit sig ts to items place) ds
      → AreListed sheet scope c Shorter inner → (w : Way) (ctx : SchemeContext) (vars : List Variable) (ks : List KnownVariable) → Longer w ctx vars ks
      → (s : ContextShape) × Contains (crossed p (place - from) inner ds) s × (vars ≡ shape_variables sig scope c.0 s) × ReadsInShape sig scope metas ts c s w (ctx, ks)
  entered_complete inner ds known splits listed w ctx vars ks r =
      let le : place ≤ to = omega (arith, some) in
      let s = listed.0.complete r.inner_way r.inner r.inner_vars ks r.context in
      let allowed : AreKnown sheet r.inner_vars = known_context sheet scope known r.context.0 in
      let f = split_from sheet r.entry.0 allowed tt place to le within refl in
      let d : Divided = (variables_of (r.name ∷ []) (binders items), f.0) in
      let here : Contains ds d = splits.kept d.0 d.1 f.1 f.3 in
      let long : lengths f.0 ≡ r.lengths = f.2 ∙ r.entry.1 in
      let one_more = entry_of_split p (place - from) d in
      let pieces : ReadsPieces sig metas ts (shape_variables sig scope c.0 s.0) [] f.0 r.ways r.parts =
      subst (λ vs. ReadsPieces sig metas ts vs [] f.0 r.ways r.parts) s.2 (subst (λ us. ReadsPieces sig metas ts r.inner_vars [] f.0 us r.parts) r.entry.2 f.4) in
      let first : first_variable d.0 ≡ bound_variable r.name r.cat = ap (λ cs. first_variable (variables_of (r.name ∷ []) cs)) r.binder_is in (
        entered s.0 one_more,
        contains_crossed p (place - from) inner ds d s.0 here s.1,
        r.vars_are ∙ ap (λ u. u ∷ r.inner_vars) (sym first) ∙ ap (λ us. first_variable d.0 ∷ us) s.2,
        (
          r.inner_way,
          r.ways,
          (r.inner, ks),
          r.parts,
          r.way_is ∙ ap (λ ls. way (1 + p) ((place - from) ∷ ls) (then_way r.inner_way r.ways)) (sym long),
          ap (λ (z : SchemeContext). (z, ks)) r.context_is,
          s.3,
          pieces,
        ),
      )

  -- each split has a variable
  pub some_own : (ds : List Divided) → AreSplits (Stands sheet) (IsSplit sig ts to items place) ds → AllByRecursion (λ (d : Divided). 0 < length d.0) ds
  some_own ds splits =
      all_also (λ (d : Divided). IsSplit sig ts to items place d.0 d.1) (λ (d : Divided). 0 < length d.0) ds
      (λ d is. (let v = one_variable sig ts to items place d.0 d.1 is one in omega (arith, ap length v.2))) splits.each

  pub no_entry : IsScopeKnown sheet scope → AreSplits (Stands sheet) (IsSplit sig ts to items place) [] → AreListed sheet scope c Longer []
  no_entry known splits = (
    no_shapes sig scope metas ts c Longer (λ w ctx vars ks r.
        (let le : place ≤ to = omega (arith, some) in
        let f = split_from sheet r.entry.0 (known_context sheet scope known r.context.0) tt place to le within refl in
        let none = splits.kept _ f.0 f.1 f.3 in
        omega (arith, none.1))),
    tt,
  )

  pub entered_shapes : (inner : List ContextShape) (ds : List Divided) → IsScopeKnown sheet scope → AreSplits (Stands sheet) (IsSplit sig ts to items place) ds
      → AreListed sheet scope c Shorter inner → AreListed sheet scope c Longer (crossed p (place - from) inner ds)
  entered_shapes inner ds known splits listed = (
    record {
      sound = all_crossed p (place - from) inner (Sound sig scope metas ts c Shorter) (λ (d : Divided). IsSplit sig ts to items place d.0 d.1) (Sound sig scope metas ts c Longer) ds
          entered_sound listed.0.sound splits.each;
      complete = entered_complete inner ds known splits listed;
      in_order = order_crossed sig scope metas ts c p (place - from) inner ds listed.0.in_order splits.in_order;
    },
    usable,
  )
    where
      within_tokens : to ≤ length sheet.tokens.now
      within_tokens = omega (arith, within, length-map sheet.tokens.now token)

      first_known : (vs : List Variable) → (v : Variable) → vs ≡ v ∷ [] → AreKnown sheet vs → AreKnown sheet (first_variable vs ∷ [])
      first_known vs v e k =
          subst (λ us. AreKnown sheet (first_variable us ∷ [])) (sym e) (subst (AreKnown sheet) e k)

      usable : AllByRecursion (IsUsable sheet) (crossed p (place - from) inner ds)
      usable = all_crossed p (place - from) inner (IsUsable sheet)
          (λ (d : Divided). AreKnown sheet (first_variable d.0 ∷ []) × AreWithin (length sheet.tokens.now) d.1) (IsUsable sheet) ds (λ d s k u. (u, k.0, k.1)) listed.1
          (all_joined (λ (d : Divided). IsSplit sig ts to items place d.0 d.1) (λ (d : Divided). AreKnown sheet d.0 × AreWithin (length sheet.tokens.now) d.1)
          (λ (d : Divided). AreKnown sheet (first_variable d.0 ∷ []) × AreWithin (length sheet.tokens.now) d.1) ds
          (λ d is u. (let v = one_variable sig ts to items place d.0 d.1 is one in (first_known d.0 (bound_variable v.0 v.1) v.2 u.0, u.1)))
          splits.each (usable_splits sheet place to within_tokens items ds splits))
