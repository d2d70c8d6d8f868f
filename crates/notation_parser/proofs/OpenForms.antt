-- The readings of a judgment's form of which one slot takes the context, by the splits of its items.
use Rattle.std.proofs.Common.{◌≡◌, ◌≢◌, ◌↔◌, ◌==◌, ℕ, zero, suc, ◌+◌, ◌-◌, ◌<◌, ◌≤◌, List, [], ◌∷◌, ◌++◌, length, take, drop, inl, inr, refl, ap, ◌∙◌, sym, subst, arith, Option, Some, slice_get, slice_range}
use Rattle.std.specs.Prelude.{count_by}
use Rattle.std.specs.List.{AllByRecursion}
use Rattle.binding_terms.specs.Signature.{Signature, Fits, binders, slots}
use Rattle.binding_terms.specs.declared.grammar.CatId.{CatId}
use Rattle.binding_terms.specs.declared.grammar.Item.{Item}
use Rattle.binding_terms.specs.declared.grammar.Item.TheVariants.{Word, Slot, Binder}
use Rattle.scheme_terms.specs.SchemeTree.{SchemeTree, Parts, no_parts, part}
use Rattle.scheme_terms.specs.declared.scheme.MetaDecl.{MetaDecl}
use Rattle.rule_schemes.specs.Reading.{Token, Variable, slot_variables, bare, ReadingScope, ReadsTerm, ReadsForm, form_end, form_terminal, form_context, form_slot}
use Rattle.rule_schemes.specs.Said.{Way, way, Ways, no_ways, then_way, way_of_term, IsBefore, form_lengths, ways_of_form}
use Rattle.term_reader.specs.Ordered.{ReadsTermAt}
use Rattle.term_reader.specs.Splitting.{SlotRange, Divided, lengths, IsSplit, AreSplits, AreInOrder, AreKnown, Stands, tokens_of, ReadsPieces}
use Rattle.term_reader.specs.declared.sheet.Sheet.{Sheet}
use Rattle.term_reader.proofs.Pieces.{split_from, read_split}
use Rattle.term_reader.proofs.Ranges.{range_all, range_length, range_cons, range_begins, range_front, range_two, range_some}
use Rattle.term_reader.proofs.SplitLemmas.{in_order_apart}
use Rattle.notation_parser.specs.Forms.{judged, then_ways, IsContextPlace, IsReadAround, IsReadInSlots, IsOpenForm}
use Rattle.notation_parser.specs.Ordered.{WrittenForm}
use Rattle.notation_parser.specs.Shapes.{ReadsContextAt, IsScopeKnown}
use Rattle.notation_parser.proofs.ContextPlaces.{one_of_none, none_behind, one_behind}
use Rattle.notation_parser.proofs.FormCases.{none_of_slots, no_slot_variables, ReadsFormAt, form_items, items_form}
use Rattle.notation_parser.proofs.Several.{InOneOf, AreApart}
use Rattle.notation_parser.proofs.Shaped.{context_some, context_known}
use Rattle.binding_terms.proofs.Lists.{all_contained}

some_token : (ts : List Token) → ts ≢ [] → 0 < length ts
some_token [] e = absurd (e refl)
some_token (t ∷ ts) e = omega arith

-- no form of a judgment writes a variable
pub form_binders : {sig : Signature} {metas : List MetaDecl} {vars : List Variable} {ctx : Option CatId} {front : List Token} {items : List Item} {tokens : List Token} {ss : List SchemeTree}
    → ReadsForm sig metas vars ctx front items tokens ss → binders items ≡ []
form_binders form_end = refl
form_binders (form_terminal this r) = form_binders r
form_binders (form_context e split r) = form_binders r
form_binders (form_slot other split some t r) = form_binders r

-- What a split of a form's items gives where its reading has a context of these tokens at that place: the slots read around it.
pub record IsSplitAround (sheet : Sheet) (vars : List Variable) (front : List Token) (ls : List ℕ) (v : Way) (vs : Ways) (ss : List SchemeTree)
    (place : ℕ) (p : SlotRange) (ps : List SlotRange) (us ws : Ways) (xs zs : Parts) : Type 0 where
  pub lengths_are : lengths ps ≡ ls
  pub stand : AllByRecursion (Stands sheet) ps
  pub here : slice_get ps place ≡ Some p
  pub tokens_are : slice_range (tokens_of sheet) p.from p.to ≡ front
  pub ways_are : vs ≡ then_ways us (then_way v ws)
  pub terms_are : ss ≡ bare xs ++ bare zs
  pub in_front : ReadsPieces sheet.sig.now sheet.metas.now (tokens_of sheet) vars [] (take place ps) us xs
  pub behind : ReadsPieces sheet.sig.now sheet.metas.now (tokens_of sheet) vars [] (drop (suc place) ps) ws zs

module _ (sheet : Sheet) (scope : ReadingScope) (c : CatId) where
  abbrev sig : Signature
  sig = sheet.sig.now

  abbrev metas : List MetaDecl
  metas = sheet.metas.now

  abbrev ts : List Token
  ts = tokens_of sheet

  -- exactly one slot of the category
  abbrev HasOne : List Item → Type 0
  HasOne items = count_by (λ s. s.cat == c.0) (slots items) ≡ 1

  -- readings in earlier splits stand first
  pub splits_apart : (k : ℕ) (all : List Divided) → AreInOrder all → AreApart IsBefore (λ (d : Divided). IsReadInSlots sig scope metas ts c k d.1) all
  splits_apart k all order xs ys e s t a b v w x y f g =
      let shorter = in_order_apart xs ys s t (subst AreInOrder (sym e) order) a b in
      let r = f.4 in
      let q = g.4 in
      subst (λ u. IsBefore u w) (sym r.8) (subst (IsBefore (way k (lengths s.1) (then_ways r.1 (then_way r.2 r.3)))) (sym q.8) (inr (refl, inl shorter)))

  -- the slots of a split, read from the context's on
  context_from : (to : ℕ) (vars : List Variable) (v : Way) (d : CatId) (binds : List ℕ) (items : List Item) (n : ℕ) (us : List Variable) (p : SlotRange) (ps : List SlotRange) (ws : Ways) (zs : Parts)
      → n ≤ to → to ≤ length ts → binders items ≡ [] → HasOne (Slot d binds ∷ items) → IsSplit sig ts to (Slot d binds ∷ items) n us (p ∷ ps) → p.cat.0 ≡ c.0
      → ReadsPieces sig metas ts vars [] ps ws zs
      → ReadsFormAt sig metas vars (Some c) (slice_range ts p.from p.to) v (Slot d binds ∷ items) (slice_range ts n to) (lengths (p ∷ ps)) (then_way v ws) (bare zs)
  context_from to vars v d binds items n us p ps ws zs h k b one s here r =
      let number : d.0 ≡ c.0 = sym (ap (λ (q : SlotRange). q.cat.0) s.0) ∙ here in
      let cat : c ≡ d = (λ i. record { 0 = sym number i }) in
      let le : n ≤ p.to = omega (arith, s.1) in
      let end : p.to ≤ to = omega (arith, s.2) in
      let within : p.to ≤ length ts = omega (arith, k) in
      let from : p.from ≡ n = ap (λ (q : SlotRange). q.from) s.0 in
      let whole : slice_range ts n to ≡ slice_range ts p.from p.to ++ slice_range ts p.to to =
      range_two ts n p.to to le end k ∙ ap (λ m. slice_range ts m p.to ++ slice_range ts p.to to) (sym from) in
      let rest = read_split sheet vars [] to items p.to us ps ws zs end k s.3 r in
      let none = none_behind c.0 (record { cat = d.0; binds = binds }) (slots items) one number in
      let q = items_form sig metas (Some c) (slice_range ts p.from p.to) v rest.0 refl b (none_of_slots c items none) in
      let long : length (slice_range ts p.from p.to) ≡ p.to - p.from =
      range_length ts p.from p.to (omega arith) within in
      (form_context (ap Some cat) whole q.0, ap (λ l. l ∷ form_lengths q.0) long ∙ ap (λ ls. (p.to - p.from) ∷ ls) (q.1 ∙ rest.1), ap (then_way v) (q.2 ∙ rest.2))

  -- a slot in front of the context, and a form behind it
  slot_from : (to : ℕ) (vars : List Variable) (front : List Token) (v : Way) (d : CatId) (binds : List ℕ) (items : List Item) (n : ℕ) (p : SlotRange) (ls : List ℕ) (w : Way) (ws : Ways)
      (x : SchemeTree) (ss : List SchemeTree) → to ≤ length ts → p ≡ record { cat = d; binds = binds; from = n; to = p.to } → n + 1 ≤ p.to → p.to < to + 1 → d.0 ≢ c.0
      → ReadsTermAt sig metas (slot_variables [] p.binds ++ vars) p.cat.0 (slice_range ts p.from p.to) w x
      → ReadsFormAt sig metas vars (Some c) front v items (slice_range ts p.to to) ls ws ss
      → ReadsFormAt sig metas vars (Some c) front v (Slot d binds ∷ items) (slice_range ts n to) ((p.to - p.from) ∷ ls) (then_way w ws) (x ∷ ss)
  slot_from to vars front v d binds items n p ls w ws x ss k is low high differs r rest =
      let le : n ≤ p.to = omega (arith, low) in
      let lt : n < p.to = omega (arith, low) in
      let end : p.to ≤ to = omega (arith, high) in
      let within : p.to ≤ length ts = omega (arith, k, end) in
      let from : p.from ≡ n = ap (λ (q : SlotRange). q.from) is in
      let long : length (slice_range ts n p.to) ≡ p.to - p.from = range_length ts n p.to le within ∙ ap (λ i. p.to - i) (sym from) in
      let other : Some c ≢ Some d = λ e. (let same : c ≡ d = cc in differs (ap (λ (i : CatId). i.0) (sym same))) in
      let under : slot_variables [] binds ++ vars ≡ vars = ap (λ vs. vs ++ vars) (no_slot_variables binds) in
      let read : ReadsTermAt sig metas vars d.0 (slice_range ts n p.to) w x =
      subst (λ vs. ReadsTermAt sig metas vs d.0 (slice_range ts n p.to) w x) under
      (subst (λ (q : SlotRange). ReadsTermAt sig metas (slot_variables [] q.binds ++ vars) q.cat.0 (slice_range ts q.from q.to) w x) is r) in (
        form_slot other (range_two ts n p.to to le end k) (range_some ts n p.to lt within) read.0 rest.0,
        ap (λ l. l ∷ form_lengths rest.0) long ∙ ap (λ ls. (p.to - p.from) ∷ ls) rest.1,
        ap (λ u. then_way u (ways_of_form v rest.0)) read.1 ∙ ap (then_way w) rest.2,
      )

  -- the slots of a split, read around a context, are a reading of the form
  form_from : (to : ℕ) (vars : List Variable) (v : Way) (items : List Item) (n : ℕ) (us : List Variable) (m : ℕ) (p : SlotRange) (ps : List SlotRange) (fs ws : Ways) (xs zs : Parts)
      → n ≤ to → to ≤ length ts → binders items ≡ [] → HasOne items → IsSplit sig ts to items n us ps → IsContextPlace c.0 m ps → slice_get ps m ≡ Some p
      → ReadsPieces sig metas ts vars [] (take m ps) fs xs → ReadsPieces sig metas ts vars [] (drop (suc m) ps) ws zs
      → ReadsFormAt sig metas vars (Some c) (slice_range ts p.from p.to) v items (slice_range ts n to) (lengths ps) (then_ways fs (then_way v ws)) (bare xs ++ bare zs)
  form_from to vars v [] n us m p ps fs ws xs zs h k b one s place is r q = absurd (one_of_none c.0 one)
  form_from to vars v (Word text quoted ∷ items) n us m p ps fs ws xs zs h k b one s place is r q =
      let lt = s.0 in
      let more : n + 1 ≤ to = omega arith in
      let f = form_from to vars v items (n + 1) us m p ps fs ws xs zs more k b one s.4 place is r q in
      subst (λ rs. ReadsFormAt sig metas vars (Some c) (slice_range ts p.from p.to) v (Word text quoted ∷ items) rs (lengths ps) (then_ways fs (then_way v ws)) (bare xs ++ bare zs))
      (sym (range_cons ts n to s.1 lt k s.2)) (form_terminal s.3 f.0, f.1, f.2)
  form_from to vars v (Binder d ∷ items) n us m p ps fs ws xs zs h k b one s place is r q = absurd (cc)
  form_from to vars v (Slot d binds ∷ items) n us m p [] fs ws xs zs h k b one s place is r q = absurd s
  form_from to vars v (Slot d binds ∷ items) n us zero p (o ∷ ps) fs ws xs zs h k b one s place is r q =
      let same : o ≡ p = cc in
      let f = context_from to vars v d binds items n us o ps ws zs h k b one s place q in
      subst (λ (i : SlotRange). ReadsFormAt sig metas vars (Some c) (slice_range ts i.from i.to) v (Slot d binds ∷ items) (slice_range ts n to) (lengths (o ∷ ps)) (then_ways fs (then_way v ws)) (bare xs ++ bare zs)) same
      (subst (λ gs. ReadsFormAt sig metas vars (Some c) (slice_range ts o.from o.to) v (Slot d binds ∷ items) (slice_range ts n to) (lengths (o ∷ ps)) (then_ways gs (then_way v ws)) (bare xs ++ bare zs)) (sym r.0)
      (subst (λ ys. ReadsFormAt sig metas vars (Some c) (slice_range ts o.from o.to) v (Slot d binds ∷ items) (slice_range ts n to) (lengths (o ∷ ps)) (then_way v ws) (bare ys ++ bare zs)) (sym r.1) f))
  form_from to vars v (Slot d binds ∷ items) n us (suc m) p (o ∷ ps) no_ways ws xs zs h k b one s place is r q = absurd r
  form_from to vars v (Slot d binds ∷ items) n us (suc m) p (o ∷ ps) (then_way w fs) ws no_parts zs h k b one s place is r q = absurd r
  form_from to vars v (Slot d binds ∷ items) n us (suc m) p (o ∷ ps) (then_way w fs) ws (part j x xs) zs h k b one s place is r q =
      let number : o.cat.0 ≡ d.0 = ap (λ (i : SlotRange). i.cat.0) s.0 in
      let differs : d.0 ≢ c.0 = λ e. place.0 (number ∙ e) in
      let end : o.to ≤ to = omega (arith, s.2) in
      let more = one_behind c.0 (record { cat = d.0; binds = binds }) (slots items) one differs in
      slot_from to vars (slice_range ts p.from p.to) v d binds items n o (lengths ps) w (then_ways fs (then_way v ws)) x (bare xs ++ bare zs) k s.0 s.1 s.2 differs r.1
      (form_from to vars v items o.to us m p ps fs ws xs zs end k b more s.3 place.1 is r.2 q)

  -- and the other way round
  abbrev FormSplit : (to n : ℕ) (vars : List Variable) (front : List Token) (items : List Item) (ls : List ℕ) (v : Way) (vs : Ways) (ss : List SchemeTree) → Type 0
  FormSplit to n vars front items ls v vs ss =
      (m : ℕ) × (p : SlotRange) × (ps : List SlotRange) × (us : Ways) × (ws : Ways) × (xs : Parts) × (zs : Parts)
      × IsSplit sig ts to items n [] ps × IsContextPlace c.0 m ps × IsSplitAround sheet vars front ls v vs ss m p ps us ws xs zs

  -- from the context's slot on
  context_split : {vars : List Variable} {front : List Token} {items : List Item} {rest : List Token} {ss : List SchemeTree} (to : ℕ) (v : Way) (id : CatId) (binds : List ℕ) → sheet.contexts ≡ Some c
      → front ≢ [] → AreKnown sheet vars → c ≡ id → HasOne (Slot id binds ∷ items) → (r : ReadsForm sig metas vars (Some c) front items rest ss)
      → (n : ℕ) → n ≤ to → to ≤ length ts → slice_range ts n to ≡ front ++ rest
      → FormSplit to n vars front (Slot id binds ∷ items) (length front ∷ form_lengths r) v (then_way v (ways_of_form v r)) ss
  context_split {vars} {front} {items} {rest} {ss} to v id binds asks some known same one r n h k whole =
      let number : id.0 ≡ c.0 = ap (λ (i : CatId). i.0) (sym same) in
      let d = range_front ts n to front rest h k whole in
      let none = none_behind c.0 (record { cat = id.0; binds = binds }) (slots items) one number in
      let q = form_items sig metas (Some c) front v r (none_of_slots c items none) in
      let m = split_from sheet (q.2).0 known tt (n + length front) to d.0 k (sym d.2) in
      let lt : 0 < length front = some_token front some in
      let long : n + length front - n ≡ length front = omega arith in
      let p : SlotRange = record { cat = id; binds = binds; from = n; to = n + length front } in (
        0,
        p,
        p ∷ m.0,
        no_ways,
        ways_of_form v r,
        no_parts,
        q.0,
        (refl, omega arith, omega (arith, d.0), m.1),
        number,
        record {
          lengths_are = ap (λ i. i ∷ lengths m.0) long ∙ ap (λ ls. length front ∷ ls) (m.2 ∙ (q.2).1);
          stand = (inl (asks ∙ ap Some same), m.3);
          here = refl;
          tokens_are = d.1;
          ways_are = refl;
          terms_are = q.1;
          in_front = (refl, refl);
          behind = subst (λ us. ReadsPieces sig metas ts vars [] m.0 us q.0) (q.2).2 m.4;
        },
      )

  -- with a slot in front of that
  slot_split : {vars : List Variable} {front : List Token} {first : List Token} {s : SchemeTree} (items : List Item) (rest : List Token) (to : ℕ) (v : Way) (id : CatId) (binds : List ℕ) (ls : List ℕ) (vs : Ways)
      (ss : List SchemeTree) → AreKnown sheet vars → id.0 ≢ c.0 → first ≢ [] → (t : ReadsTerm sig metas vars id.0 first s) → (n : ℕ) → n ≤ to → to ≤ length ts → slice_range ts n to ≡ first ++ rest
      → FormSplit to (n + length first) vars front items ls v vs ss
      → FormSplit to n vars front (Slot id binds ∷ items) (length first ∷ ls) v (then_way (way_of_term t) vs) (s ∷ ss)
  slot_split {vars} {front} {first} {s} items rest to v id binds ls vs ss known differs some t n h k whole f =
      let d = range_front ts n to first rest h k whole in
      let g = f.9 in
      let lt : 0 < length first = some_token first some in
      let long : n + length first - n ≡ length first = omega arith in
      let under : slot_variables [] binds ++ vars ≡ vars = ap (λ us. us ++ vars) (no_slot_variables binds) in
      let here : ReadsTermAt sig metas vars id.0 (slice_range ts n (n + length first)) (way_of_term t) s =
      subst (λ us. ReadsTermAt sig metas vars id.0 us (way_of_term t) s) (sym d.1) (t, refl) in
      let read : ReadsTermAt sig metas (slot_variables [] binds ++ vars) id.0 (slice_range ts n (n + length first)) (way_of_term t) s =
      subst (λ us. ReadsTermAt sig metas us id.0 (slice_range ts n (n + length first)) (way_of_term t) s) (sym under) here in (
        suc f.0,
        f.1,
        record { cat = id; binds = binds; from = n; to = n + length first } ∷ f.2,
        then_way (way_of_term t) f.3,
        f.4,
        part (length binds) s f.5,
        f.6,
        (refl, omega arith, omega (arith, d.0), f.7),
        (differs, f.8),
        record {
          lengths_are = ap (λ i. i ∷ lengths f.2) long ∙ ap (λ is. length first ∷ is) g.lengths_are;
          stand = (inr (vars, s, known, here.0), g.stand);
          here = g.here;
          tokens_are = g.tokens_are;
          ways_are = ap (then_way (way_of_term t)) g.ways_are;
          terms_are = ap (λ us. s ∷ us) g.terms_are;
          in_front = (refl, read, g.in_front);
          behind = g.behind;
        },
      )

  form_split : {vars : List Variable} {front : List Token} {items : List Item} {tokens : List Token} {ss : List SchemeTree} (to : ℕ) (v : Way) → sheet.contexts ≡ Some c → front ≢ [] → AreKnown sheet vars
      → (r : ReadsForm sig metas vars (Some c) front items tokens ss) → HasOne items → (n : ℕ) → n ≤ to → to ≤ length ts → tokens ≡ slice_range ts n to
      → FormSplit to n vars front items (form_lengths r) v (ways_of_form v r) ss
  form_split to v asks some known form_end one n h k e = absurd (one_of_none c.0 one)
  form_split to v asks some known (form_terminal {t = t} {tokens = tokens} this r) one n h k e =
      let d = range_begins ts n to t tokens h k e in
      let more : n + 1 ≤ to = omega (arith, d.0) in
      let f = form_split to v asks some known r one (n + 1) more k d.2 in
      (f.0, f.1, f.2, f.3, f.4, f.5, f.6, (d.0, t, d.1, this, f.7), f.8, f.9)
  form_split to v asks some known (form_context {id = id} {binds = binds} {items = items} e split r) one n h k f =
      let same : c ≡ id = cc in
      context_split to v id binds asks some known same one r n h k (sym f ∙ split)
  form_split to v asks some known (form_slot {id = id} {binds = binds} {items = items} {first = first} {rest = rest} {ss = ss} other split more t r) one n h k e =
      let differs : id.0 ≢ c.0 = λ same. (let cat : c ≡ id = (λ i. record { 0 = sym same i }) in other (ap Some cat)) in
      let still = one_behind c.0 (record { cat = id.0; binds = binds }) (slots items) one differs in
      let whole : slice_range ts n to ≡ first ++ rest = sym e ∙ split in
      let d = range_front ts n to first rest h k whole in
      slot_split items rest to v id binds (form_lengths r) (ways_of_form v r) ss known differs more t n h k whole
      (form_split to v asks some known r still (n + length first) d.0 k (sym d.2))

  -- the readings in the splits are those of the form
  pub form_read : (k : ℕ) (items : List Item) (all : List Divided) (to : ℕ) → to ≤ length ts → length ts ≤ to → Fits sig → IsScopeKnown sheet scope → sheet.contexts ≡ Some c
      → binders items ≡ [] → count_by (λ s. s.cat == c.0) (slots items) ≡ 1 → AreSplits (Stands sheet) (IsSplit sig ts to items 0) all → (w : Way) (x : WrittenForm)
      → InOneOf (λ (d : Divided). IsReadInSlots sig scope metas ts c k d.1) all w x ↔ IsOpenForm sig scope metas c k items ts w x
  form_read k items all to within past fits known asks none one splits w x = (there, back)
    where
      some : 0 ≤ to
      some = omega arith

      whole : slice_range ts 0 to ≡ ts
      whole = range_all ts to past

      there_slots : (us : List Variable) (ps : List SlotRange) → IsSplit sig ts to items 0 us ps → IsReadInSlots sig scope metas ts c k ps w x → IsOpenForm sig scope metas c k items ts w x
      there_slots us ps s h =
          let p = h.1 in
          let r = h.4 in
          let a = r.0 in
          let vs = then_ways r.1 (then_way r.2 r.3) in
          let f = form_from to r.6 r.2 items 0 us h.0 p ps r.1 r.3 r.4 r.5 some within none one s h.2 h.3 r.12 r.13 in
          let g = subst (λ qs. ReadsFormAt sig metas r.6 (Some c) (slice_range ts p.from p.to) r.2 items qs (lengths ps) vs (bare r.4 ++ bare r.5)) whole f in
          let terms : a.0 ++ a.1.1 ≡ bare r.4 ++ bare r.5 = ap (λ us. us ++ a.1.1) r.9 ∙ ap (λ us. bare r.4 ++ us) r.10 in (
            r.2,
            slice_range ts p.from p.to,
            a.1.0,
            r.6,
            bare r.4 ++ bare r.5,
            r.7 ∙ ap (judged k a.1.0) terms,
            r.11,
            (g.0, r.8 ∙ ap (λ ls. way k ls vs) (sym g.1) ∙ ap (way k (form_lengths g.0)) (sym g.2)),
          )

      there : InOneOf (λ (d : Divided). IsReadInSlots sig scope metas ts c k d.1) all w x → IsOpenForm sig scope metas c k items ts w x
      there h = there_slots h.0.0 h.0.1 (all_contained (λ (d : Divided). IsSplit sig ts to items 0 d.0 d.1) all h.0 splits.each h.1) h.2

      back : IsOpenForm sig scope metas c k items ts w x → InOneOf (λ (d : Divided). IsReadInSlots sig scope metas ts c k d.1) all w x
      back h =
          let vars = h.3 in
          let r = (h.7).0 in
          let f = form_split to h.0 asks (context_some fits (h.6).0) (context_known sheet scope known (h.6).0) r one 0 some within (sym whole) in
          let p = f.1 in
          let ps = f.2 in
          let g = f.9 in
          let context : ReadsContextAt sig scope metas c.0 (slice_range ts p.from p.to) h.0 h.2.0 vars h.2.1 =
          subst (λ us. ReadsContextAt sig scope metas c.0 us h.0 h.2.0 vars h.2.1) (sym g.tokens_are) h.6 in
          let place : w ≡ way k (lengths ps) (then_ways f.3 (then_way h.0 f.4)) =
          (h.7).1 ∙ ap (λ ls. way k ls (ways_of_form h.0 r)) (sym g.lengths_are) ∙ ap (way k (lengths ps)) g.ways_are in
          let around : IsReadAround sig scope metas ts c k f.0 ps p w x =
          ((bare f.5, (h.2, bare f.6)), f.3, h.0, f.4, f.5, f.6, vars, h.5 ∙ ap (judged k h.2) g.terms_are, place, refl, refl, context, g.in_front, g.behind) in
          (([], ps), splits.kept [] ps f.7 g.stand, (f.0, p, f.8, g.here, around))
