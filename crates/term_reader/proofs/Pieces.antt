-- The readings of items, and of brackets, are the readings of the slots in their splits.
use Rattle.std.proofs.Common.{◌≡◌, ◌≢◌, ℕ, zero, suc, ◌+◌, ◌-◌, ◌<◌, ◌≤◌, List, [], ◌∷◌, ◌++◌, length, map, inl, inr, refl, ap, ◌∙◌, sym, subst, arith, Some, slice_get, slice_range}
use Rattle.std.specs.List.{AllByRecursion}
use Rattle.binding_terms.specs.Signature.{Signature, IsSingle, binders}
use Rattle.binding_terms.specs.declared.grammar.Item.{Item}
use Rattle.binding_terms.specs.declared.grammar.Item.TheVariants.{Word, Slot, Binder}
use Rattle.binding_terms.specs.declared.grammar.CatId.{CatId}
use Rattle.scheme_terms.specs.SchemeTree.{SchemeTree, Values, no_values, value, values, Parts, no_parts, part}
use Rattle.scheme_terms.specs.declared.scheme.MetaDecl.{MetaDecl}
use Rattle.rule_schemes.specs.Reading.{Token, word, punctuation, Variable, variables_of, slot_variables, variable_at, IsVariableWord, bare, ReadsTerm, ReadsBrackets, no_brackets, brackets, ReadsArguments, one_more, last_one, ReadsItems, all_read, terminal, binder, slot}
use Rattle.rule_schemes.specs.Said.{Way, Ways, no_ways, then_way, way_of_term, item_lengths, ways_of_items, bracket_lengths, ways_of_brackets, argument_lengths, ways_of_arguments}
use Rattle.term_reader.specs.Chart.{MayBeVariable, SaysNo}
use Rattle.term_reader.specs.Ordered.{ReadsTermAt, ReadsBracketsAt, ReadsItemsAt}
use Rattle.term_reader.specs.Splitting.{SlotRange, IsHead, IsSplit, GoesOn, AreArguments, IsBracketed, IsSheet, AreKnown, Stands, tokens_of, AreWithin, longest, lengths, ReadsPieces}
use Rattle.term_reader.specs.declared.sheet.Sheet.{Sheet}
use Rattle.term_reader.proofs.Ranges.{range_length, range_cons, range_end, range_none, range_begins, range_two, range_front, range_some}
use Rattle.term_reader.proofs.SplitLemmas.{range_of}
use Rattle.binding_terms.proofs.Lists.{all_append}

some_token : (ts : List Token) → ts ≢ [] → 0 < length ts
some_token [] e = absurd (e refl)
some_token (x ∷ ts) e = omega arith

abbrev pub words_of : List Variable → List (List ℕ)
words_of vs = map (λ (v : Variable). v.word) vs

-- the categories of parameters, as readings see them
abbrev pub numbers : List CatId → List ℕ
numbers cs = map (λ (c : CatId). c.0) cs

module _ (sheet : Sheet) where
  abbrev sig : Signature
  sig = sheet.sig.now

  abbrev metas : List MetaDecl
  metas = sheet.metas.now

  abbrev ts : List Token
  ts = tokens_of sheet

  -- what a slot is under is known where the variables are from which it takes them
  pub known_slot : (own : List Variable) (ns : List ℕ) → AreKnown sheet own → AreKnown sheet (slot_variables own ns)
  known_slot own [] k = tt
  known_slot own (n ∷ ns) k =
      all_append (λ (v : Variable). MayBeVariable sig sheet.words.now v.cat v.word) (slot_variables own ns) (variable_at (slice_get own n)) (known_slot own ns k) (one own n k)
    where
      one : (own : List Variable) (n : ℕ) → AreKnown sheet own → AreKnown sheet (variable_at (slice_get own n))
      one [] n k = tt
      one (v ∷ own) zero k = (k.0, tt)
      one (v ∷ own) (suc n) k = one own n k.1

  pub known_scope : (vars own : List Variable) (ns : List ℕ) → AreKnown sheet vars → AreKnown sheet own → AreKnown sheet (slot_variables own ns ++ vars)
  known_scope vars own ns k o = all_append (λ (v : Variable). MayBeVariable sig sheet.words.now v.cat v.word) (slot_variables own ns) vars (known_slot own ns o) k

  -- the variables that binders write are known
  pub known_own : {vars own : List Variable} {words : List (List ℕ)} {items : List Item} {tokens : List Token} {xs : Parts}
      → ReadsItems sig metas vars own words items tokens xs → AreKnown sheet (variables_of words (binders items))
  known_own all_read = tt
  known_own (terminal this r) = known_own r
  known_own (binder h r) = (inr h, known_own r)
  known_own (slot e h t r) = known_own r

  pub known_split : (to : ℕ) (items : List Item) (n : ℕ) (vs : List Variable) (ps : List SlotRange) → IsSplit sig ts to items n vs ps → AreKnown sheet vs
  known_split to [] n vs ps s = subst (AreKnown sheet) (sym s.1) tt
  known_split to (Word text quoted ∷ items) n vs ps s = known_split to items (n + 1) vs ps s.4
  known_split to (Binder c ∷ items) n [] ps s = absurd s
  known_split to (Binder c ∷ items) n (v ∷ vs) ps s =
      let cat : v.cat ≡ c.0 = ap (λ (u : Variable). u.cat) s.1 in
      (inr (subst (λ k. IsVariableWord sig k v.word) (sym cat) s.3), known_split to items (n + 1) vs ps s.4)
  known_split to (Slot c binds ∷ items) n vs [] s = absurd s
  known_split to (Slot c binds ∷ items) n vs (p ∷ ps) s = known_split to items p.to vs ps s.3

  pub own_words : (to : ℕ) (items : List Item) (n : ℕ) (vs : List Variable) (ps : List SlotRange) → IsSplit sig ts to items n vs ps
      → vs ≡ variables_of (words_of vs) (binders items)
  own_words to [] n vs ps s = s.1 ∙ ap (λ us. variables_of (words_of us) []) (sym s.1)
  own_words to (Word text quoted ∷ items) n vs ps s = own_words to items (n + 1) vs ps s.4
  own_words to (Binder c ∷ items) n [] ps s = absurd s
  own_words to (Binder c ∷ items) n (v ∷ vs) ps s =
      ap (λ us. v ∷ us) (own_words to items (n + 1) vs ps s.4) ∙ ap (λ u. u ∷ variables_of (words_of vs) (binders items)) s.1
  own_words to (Slot c binds ∷ items) n vs [] s = absurd s
  own_words to (Slot c binds ∷ items) n vs (p ∷ ps) s = own_words to items p.to vs ps s.3

  -- a slot that reads stands
  stands_read : (vars : List Variable) (c : CatId) (binds : List ℕ) (n k : ℕ) (first : List Token) (s : SchemeTree) → AreKnown sheet vars
      → slice_range ts n k ≡ first → ReadsTerm sig metas vars c.0 first s → Stands sheet (range_of c binds n k)
  stands_read vars c binds n k first s known e t = inr (vars, s, known, subst (λ us. ReadsTerm sig metas vars c.0 us s) (sym e) t)

  -- where the chart says no, no slot stands
  pub cannot_stand : (c : CatId) (binds : List ℕ) (n k : ℕ) → IsSheet sheet → ((sheet.contexts ≡ Some c) → ⊥) × SaysNo sheet.chart.now c.0 n k
      → Stands sheet (range_of c binds n k) → ⊥
  cannot_stand c binds n k is says (inl e) = says.0 e
  cannot_stand c binds n k is says (inr s) = is.chart c.0 n k says.1 s.0 s.1 s.2 s.3

  -- a reading of items gives a split and readings of its slots
  pub split_from : {vars own : List Variable} {words : List (List ℕ)} {items : List Item} {tokens : List Token} {xs : Parts} → (r : ReadsItems sig metas vars own words items tokens xs)
      → AreKnown sheet vars → AreKnown sheet own → (n to : ℕ) → n ≤ to → to ≤ length ts → tokens ≡ slice_range ts n to
      → (ps : List SlotRange) × IsSplit sig ts to items n (variables_of words (binders items)) ps × (lengths ps ≡ item_lengths r) × AllByRecursion (Stands sheet) ps
      × ReadsPieces sig metas ts vars own ps (ways_of_items r) xs
  split_from all_read v o n to h k e = ([], (range_end ts n to h k e, refl, refl), refl, tt, (refl, refl))
  split_from (terminal {t = t} {tokens = tokens} this r) v o n to h k e =
      let d = range_begins ts n to t tokens h k e in
      let more : n + 1 ≤ to = omega (arith, d.0) in
      let s = split_from r v o (n + 1) to more k d.2 in
      (s.0, (d.0, t, d.1, this, s.1), s.2, s.3, s.4)
  split_from (binder {w = w} {c = c} {tokens = tokens} this r) v o n to h k e =
      let d = range_begins ts n to (word w) tokens h k e in
      let more : n + 1 ≤ to = omega (arith, d.0) in
      let s = split_from r v o (n + 1) to more k d.2 in
      (s.0, (d.0, refl, d.1, this, s.1), s.2, s.3, s.4)
  split_from (slot {vars = vars} {own = own} {c = c} {binds = binds} {first = first} {rest = rest} {s = s} e some t r) v o n to h k f =
      let d = range_front ts n to first rest h k (sym f ∙ e) in
      let more = split_from r v o (n + length first) to d.0 k (sym d.2) in
      let scope = slot_variables own binds ++ vars in
      let known : AreKnown sheet scope = known_scope vars own binds v o in
      let read : ReadsTermAt sig metas scope c.0 (slice_range ts n (n + length first)) (way_of_term t) s =
      subst (λ us. ReadsTermAt sig metas scope c.0 us (way_of_term t) s) (sym d.1) (t, refl) in
      let lt : 0 < length first = some_token first some in
      let long : n + length first - n ≡ length first = omega arith in (
        range_of c binds n (n + length first) ∷ more.0,
        (refl, omega arith, omega (arith, d.0), more.1),
        ap (λ i. i ∷ lengths more.0) long ∙ ap (λ ls. length first ∷ ls) more.2,
        (stands_read scope c binds n (n + length first) first s known d.1 t, more.3),
        (refl, read, more.4),
      )

  -- and the other way round
  pub read_split : (vars own : List Variable) (to : ℕ) (items : List Item) (n : ℕ) (vs : List Variable) (ps : List SlotRange) (ws : Ways) (xs : Parts) → n ≤ to → to ≤ length ts
      → IsSplit sig ts to items n vs ps → ReadsPieces sig metas ts vars own ps ws xs
      → ReadsItemsAt sig metas vars own (words_of vs) items (slice_range ts n to) (lengths ps) ws xs
  read_split vars own to [] n vs ps ws xs h k s r =
      let e : ReadsPieces sig metas ts vars own [] ws xs = subst (λ qs. ReadsPieces sig metas ts vars own qs ws xs) s.2 r in
      let none : slice_range ts n to ≡ [] = ap (λ m. slice_range ts m to) s.0 ∙ range_none ts to k in
      subst (λ us. ReadsItemsAt sig metas vars own (words_of us) [] (slice_range ts n to) (lengths ps) ws xs) (sym s.1)
      (subst (λ qs. ReadsItemsAt sig metas vars own [] [] (slice_range ts n to) (lengths qs) ws xs) (sym s.2)
      (subst (λ us. ReadsItemsAt sig metas vars own [] [] us [] ws xs) (sym none)
      (subst (λ us. ReadsItemsAt sig metas vars own [] [] [] [] us xs) (sym e.0)
      (subst (λ ys. ReadsItemsAt sig metas vars own [] [] [] [] no_ways ys) (sym e.1) (all_read, refl, refl)))))
  read_split vars own to (Word text quoted ∷ items) n vs ps ws xs h k s r =
      let lt = s.0 in
      let more : n + 1 ≤ to = omega arith in
      let m = read_split vars own to items (n + 1) vs ps ws xs more k s.4 r in
      subst (λ us. ReadsItemsAt sig metas vars own (words_of vs) (Word text quoted ∷ items) us (lengths ps) ws xs) (sym (range_cons ts n to s.1 lt k s.2))
      (terminal s.3 m.0, m.1, m.2)
  read_split vars own to (Binder c ∷ items) n [] ps ws xs h k s r = absurd s
  read_split vars own to (Binder c ∷ items) n (v ∷ vs) ps ws xs h k s r =
      let lt = s.0 in
      let more : n + 1 ≤ to = omega arith in
      let m = read_split vars own to items (n + 1) vs ps ws xs more k s.4 r in
      subst (λ us. ReadsItemsAt sig metas vars own (words_of (v ∷ vs)) (Binder c ∷ items) us (lengths ps) ws xs) (sym (range_cons ts n to (word v.word) lt k s.2))
      (binder s.3 m.0, m.1, m.2)
  read_split vars own to (Slot c binds ∷ items) n vs [] ws xs h k s r = absurd s
  read_split vars own to (Slot c binds ∷ items) n vs (p ∷ ps) no_ways xs h k s r = absurd r
  read_split vars own to (Slot c binds ∷ items) n vs (p ∷ ps) (then_way w ws) no_parts h k s r = absurd r
  read_split vars own to (Slot c binds ∷ items) n vs (p ∷ ps) (then_way w ws) (part m x xs) h k s r =
      let le : n ≤ p.to = omega (arith, s.1) in
      let lt : n < p.to = omega (arith, s.1) in
      let end : p.to ≤ to = omega (arith, s.2) in
      let within : p.to ≤ length ts = omega (arith, k) in
      let first = slice_range ts n p.to in
      let whole : slice_range ts n to ≡ first ++ slice_range ts p.to to = range_two ts n p.to to le end k in
      let some : first ≢ [] = range_some ts n p.to lt within in
      let binds_is : p.binds ≡ binds = ap (λ (q : SlotRange). q.binds) s.0 in
      let from : p.from ≡ n = ap (λ (q : SlotRange). q.from) s.0 in
      let count : m ≡ length binds = r.0 ∙ ap length binds_is in
      let long : length first ≡ p.to - p.from = range_length ts n p.to le within ∙ ap (λ i. p.to - i) (sym from) in
      let read : ReadsTermAt sig metas (slot_variables own binds ++ vars) c.0 first w x =
      subst (λ (q : SlotRange). ReadsTermAt sig metas (slot_variables own q.binds ++ vars) q.cat.0 (slice_range ts q.from q.to) w x) s.0 r.1 in
      let rest = read_split vars own to items p.to vs ps ws xs end k s.3 r.2 in
      subst (λ j. ReadsItemsAt sig metas vars own (words_of vs) (Slot c binds ∷ items) (slice_range ts n to) (lengths (p ∷ ps)) (then_way w ws) (part j x xs)) (sym count)
      (slot whole some read.0 rest.0, ap (λ l. l ∷ item_lengths rest.0) long ∙ ap (λ ls. (p.to - p.from) ∷ ls) rest.1, ap (λ v. then_way v (ways_of_items rest.0)) read.1 ∙ ap (then_way w) rest.2)

  -- a reading of arguments, with the lengths and the readings of each
  abbrev ReadsArgumentsAt : List Variable → (params : List ℕ) → List Token → List ℕ → Ways → Values → Type 0
  ReadsArgumentsAt vars params us ls ws vs = (r : ReadsArguments sig metas vars params us vs) × (argument_lengths r ≡ ls) × (ways_of_arguments r ≡ ws)

  -- what a reading of arguments gives: slots, and parts with the schemes of the values
  abbrev AreSlots : (Is : List SlotRange → Type 0) → List Variable → List ℕ → Ways → Values → Type 0
  AreSlots Is vars ls ws vs =
      (ps : List SlotRange) × Is ps × (lengths ps ≡ ls) × AllByRecursion (Stands sheet) ps × ((xs : Parts) × (values (bare xs) ≡ vs) × ReadsPieces sig metas ts vars [] ps ws xs)

  after_comma : (params : List CatId) (k to : ℕ) (ps : List SlotRange) → slice_get ts k ≡ Some (punctuation 44) → AreArguments ts to params (k + 1) [] ps → GoesOn ts to params k [] ps
  after_comma [] k to ps e a = absurd a
  after_comma (c ∷ params) k to ps e a = inl (e, a)

  after_bracket : (params : List CatId) (k to : ℕ) (ps : List SlotRange) → slice_get ts k ≡ Some (punctuation 93) → IsBracketed ts to params (k + 1) [] ps → GoesOn ts to params k [] ps
  after_bracket [] k to ps e b = (e, b.0, b.1, b.2)
  after_bracket (c ∷ params) k to ps e b = inr (e, b.0, b.1, b.2)

  -- an argument before others
  first_argument : {vars : List Variable} → AreKnown sheet vars → (c : CatId) (n count to : ℕ) (first : List Token) (w : Way) (s : SchemeTree) → n + count < to
      → slice_range ts n (n + count) ≡ first → ReadsTermAt sig metas vars c.0 first w s
      → (params : List CatId) (ps : List SlotRange) → GoesOn ts to params (n + count) [] ps → (ls : List ℕ) → lengths ps ≡ ls → AllByRecursion (Stands sheet) ps
      → (ws : Ways) {vs : Values} → ((xs : Parts) × (values (bare xs) ≡ vs) × ReadsPieces sig metas ts vars [] ps ws xs)
      → AreSlots (AreArguments ts to (c ∷ params) n []) vars (count ∷ ls) (then_way w ws) (value s vs)
  first_argument {vars} known c n count to first w s lt is t params ps goes ls e stand ws rest =
      let long : n + count - n ≡ count = omega arith in (
        range_of c [] n (n + count) ∷ ps,
        (refl, omega arith, lt, goes),
        ap (λ i. i ∷ lengths ps) long ∙ ap (λ l. count ∷ l) e,
        (stands_read vars c [] n (n + count) first s known is t.0, stand),
        (part 0 s rest.0, ap (value s) rest.1, (refl, subst (λ us. ReadsTermAt sig metas vars c.0 us w s) (sym is) t, rest.2)),
      )

  mutual
    -- a reading of brackets gives a split and readings of its slots
    pub brackets_from : {vars : List Variable} {cs : List ℕ} {tokens : List Token} {vs : Values} → (r : ReadsBrackets sig metas vars cs tokens vs) → AreKnown sheet vars
        → (params : List CatId) → cs ≡ numbers params → (n to : ℕ) → n ≤ to → to ≤ length ts → tokens ≡ slice_range ts n to
        → AreSlots (IsBracketed ts to params n []) vars (bracket_lengths r) (ways_of_brackets r) vs
    brackets_from no_brackets v [] c n to h k e = ([], (range_end ts n to h k e, refl, refl), refl, tt, (no_parts, refl, (refl, refl)))
    brackets_from no_brackets v (p ∷ params) c n to h k e = absurd (cc)
    brackets_from (brackets {rest = rest} f r) v [] c n to h k e = absurd (no_arguments r c)
      where
        no_arguments : {vars : List Variable} {cs : List ℕ} {tokens : List Token} {vs : Values} → ReadsArguments sig metas vars cs tokens vs → cs ≡ [] → ⊥
        no_arguments (one_more {p = p} {params = params} e t r) k = let h : p ∷ params ≡ [] = k in cc
        no_arguments (last_one {p = p} {params = params} e t r) k = let h : p ∷ params ≡ [] = k in cc
    brackets_from (brackets {rest = rest} f r) v (p ∷ params) c n to h k e =
        let d = range_begins ts n to (punctuation 91) rest h k (sym f ∙ e) in
        let more : n + 1 ≤ to = omega (arith, d.0) in
        let s = arguments_from r v (p ∷ params) c (n + 1) to more k d.2 in
        (s.0, (d.0, d.1, s.1), s.2, s.3, s.4)

    arguments_from : {vars : List Variable} {cs : List ℕ} {tokens : List Token} {vs : Values} → (r : ReadsArguments sig metas vars cs tokens vs) → AreKnown sheet vars
        → (params : List CatId) → cs ≡ numbers params → (n to : ℕ) → n ≤ to → to ≤ length ts → tokens ≡ slice_range ts n to
        → AreSlots (AreArguments ts to params n []) vars (argument_lengths r) (ways_of_arguments r) vs
    arguments_from (one_more {p = p} {params = cs} f t r) v [] c n to h k e = absurd (let never : p ∷ cs ≡ [] = c in cc)
    arguments_from (one_more {vars = vars} {p = p} {params = cs} {first = first} {rest = rest} {s = s} f t r) v (a ∷ params) c n to h k e =
        let cat : p ≡ a.0 = cc in
        let others : cs ≡ numbers params = cc in
        let d = range_front ts n to first (punctuation 44 ∷ rest) h k (sym e ∙ f) in
        let b = range_begins ts (n + length first) to (punctuation 44) rest d.0 k (sym d.2) in
        let more : n + length first + 1 ≤ to = omega (arith, b.0) in
        let m = arguments_from r v params others (n + length first + 1) to more k b.2 in
        let goes : GoesOn ts to params (n + length first) [] m.0 = after_comma params (n + length first) to m.0 b.1 m.1 in
        first_argument v a n (length first) to first (way_of_term t) s b.0 d.1 (subst (λ q. ReadsTermAt sig metas vars q first (way_of_term t) s) cat (t, refl)) params m.0 goes
        (argument_lengths r) m.2 m.3 (ways_of_arguments r) m.4
    arguments_from (last_one {p = p} {params = cs} f t r) v [] c n to h k e = absurd (let never : p ∷ cs ≡ [] = c in cc)
    arguments_from (last_one {vars = vars} {p = p} {params = cs} {first = first} {rest = rest} {s = s} f t r) v (a ∷ params) c n to h k e =
        let cat : p ≡ a.0 = cc in
        let others : cs ≡ numbers params = cc in
        let d = range_front ts n to first (punctuation 93 ∷ rest) h k (sym e ∙ f) in
        let b = range_begins ts (n + length first) to (punctuation 93) rest d.0 k (sym d.2) in
        let more : n + length first + 1 ≤ to = omega (arith, b.0) in
        let m = brackets_from r v params others (n + length first + 1) to more k b.2 in
        let goes : GoesOn ts to params (n + length first) [] m.0 = after_bracket params (n + length first) to m.0 b.1 m.1 in
        first_argument v a n (length first) to first (way_of_term t) s b.0 d.1 (subst (λ q. ReadsTermAt sig metas vars q first (way_of_term t) s) cat (t, refl)) params m.0 goes
        (bracket_lengths r) m.2 m.3 (ways_of_brackets r) m.4

  -- and the other way round
  arguments_read : (vars own : List Variable) (to : ℕ) (c : CatId) (params : List CatId) (n : ℕ) (vs : List Variable) (ps : List SlotRange) (ws : Ways) (xs : Parts)
      → n ≤ to → to ≤ length ts → AreArguments ts to (c ∷ params) n vs ps → ReadsPieces sig metas ts vars own ps ws xs
      → ReadsArgumentsAt vars (c.0 ∷ numbers params) (slice_range ts n to) (lengths ps) ws (values (bare xs))
  arguments_read vars own to c params n vs [] ws xs h k s r = absurd s
  arguments_read vars own to c params n vs (p ∷ ps) no_ways xs h k s r = absurd r
  arguments_read vars own to c params n vs (p ∷ ps) (then_way w ws) no_parts h k s r = absurd r
  arguments_read vars own to c params n vs (p ∷ ps) (then_way w ws) (part m x xs) h k s r =
      go params s.3 (λ d ds i j a. arguments_read vars own to d ds i vs ps ws xs j k a r.2)
    where
      le : n ≤ p.to
      le = s.1

      lt : p.to < to
      lt = s.2

      end : p.to ≤ to
      end = omega (arith, s.2)

      within : p.to ≤ length ts
      within = omega (arith, s.2, k)

      next : p.to + 1 ≤ to
      next = omega (arith, s.2)

      first : List Token
      first = slice_range ts n p.to

      whole : slice_range ts n to ≡ first ++ slice_range ts p.to to
      whole = range_two ts n p.to to le end k

      from : p.from ≡ n
      from = ap (λ (q : SlotRange). q.from) s.0

      long : length first ≡ p.to - p.from
      long = range_length ts n p.to le within ∙ ap (λ i. p.to - i) (sym from)

      read : ReadsTermAt sig metas vars c.0 first w x
      read = subst (λ (q : SlotRange). ReadsTermAt sig metas (slot_variables own q.binds ++ vars) q.cat.0 (slice_range ts q.from q.to) w x) s.0 r.1

      go : (params : List CatId) → GoesOn ts to params p.to vs ps
          → ((d : CatId) (ds : List CatId) (i : ℕ) → i ≤ to → AreArguments ts to (d ∷ ds) i vs ps → ReadsArgumentsAt vars (d.0 ∷ numbers ds) (slice_range ts i to) (lengths ps) ws (values (bare xs)))
          → ReadsArgumentsAt vars (c.0 ∷ numbers params) (slice_range ts n to) (lengths (p ∷ ps)) (then_way w ws) (value x (values (bare xs)))
      go [] g again =
          let e : ReadsPieces sig metas ts vars own [] ws xs = subst (λ qs. ReadsPieces sig metas ts vars own qs ws xs) g.3 r.2 in
          let none : slice_range ts (p.to + 1) to ≡ [] = ap (λ m. slice_range ts m to) g.1 ∙ range_none ts to k in
          let tokens : slice_range ts n to ≡ first ++ punctuation 93 ∷ [] =
          whole ∙ ap (λ us. first ++ us) (range_cons ts p.to to (punctuation 93) lt k g.0 ∙ ap (λ us. punctuation 93 ∷ us) none) in
          let here : ReadsArgumentsAt vars (c.0 ∷ []) (slice_range ts n to) ((p.to - p.from) ∷ []) (then_way w no_ways) (value x no_values) =
          (last_one tokens read.0 no_brackets, ap (λ l. l ∷ []) long, ap (λ v. then_way v no_ways) read.1) in
          subst (λ qs. ReadsArgumentsAt vars (c.0 ∷ []) (slice_range ts n to) (lengths (p ∷ qs)) (then_way w ws) (value x (values (bare xs)))) (sym g.3)
          (subst (λ us. ReadsArgumentsAt vars (c.0 ∷ []) (slice_range ts n to) ((p.to - p.from) ∷ []) (then_way w us) (value x (values (bare xs)))) (sym e.0)
          (subst (λ ys. ReadsArgumentsAt vars (c.0 ∷ []) (slice_range ts n to) ((p.to - p.from) ∷ []) (then_way w no_ways) (value x (values (bare ys)))) (sym e.1) here))
      go (d ∷ params) (inl g) again =
          let tokens : slice_range ts n to ≡ first ++ punctuation 44 ∷ slice_range ts (p.to + 1) to =
          whole ∙ ap (λ us. first ++ us) (range_cons ts p.to to (punctuation 44) lt k g.0) in
          let rest = again d params (p.to + 1) next g.1 in
          (one_more tokens read.0 rest.0, ap (λ l. l ∷ argument_lengths rest.0) long ∙ ap (λ ls. (p.to - p.from) ∷ ls) rest.1, ap (λ v. then_way v (ways_of_arguments rest.0)) read.1 ∙ ap (then_way w) rest.2)
      go (d ∷ params) (inr g) again =
          let more : p.to + 1 + 1 ≤ to = omega (arith, g.1) in
          let inner : slice_range ts (p.to + 1) to ≡ punctuation 91 ∷ slice_range ts (p.to + 1 + 1) to = range_cons ts (p.to + 1) to (punctuation 91) g.1 k g.2 in
          let tokens : slice_range ts n to ≡ first ++ punctuation 93 ∷ slice_range ts (p.to + 1) to =
          whole ∙ ap (λ us. first ++ us) (range_cons ts p.to to (punctuation 93) lt k g.0) in
          let rest = again d params (p.to + 1 + 1) more g.3 in
          (last_one tokens read.0 (brackets inner rest.0), ap (λ l. l ∷ argument_lengths rest.0) long ∙ ap (λ ls. (p.to - p.from) ∷ ls) rest.1, ap (λ v. then_way v (ways_of_arguments rest.0)) read.1 ∙ ap (then_way w) rest.2)

  pub brackets_read : (vars own : List Variable) (to : ℕ) (params : List CatId) (n : ℕ) (vs : List Variable) (ps : List SlotRange) (ws : Ways) (xs : Parts)
      → n ≤ to → to ≤ length ts → IsBracketed ts to params n vs ps → ReadsPieces sig metas ts vars own ps ws xs
      → ReadsBracketsAt sig metas vars (numbers params) (slice_range ts n to) (lengths ps) ws (values (bare xs))
  brackets_read vars own to [] n vs ps ws xs h k s r =
      let e : ReadsPieces sig metas ts vars own [] ws xs = subst (λ qs. ReadsPieces sig metas ts vars own qs ws xs) s.2 r in
      let none : slice_range ts n to ≡ [] = ap (λ m. slice_range ts m to) s.0 ∙ range_none ts to k in
      subst (λ qs. ReadsBracketsAt sig metas vars [] (slice_range ts n to) (lengths qs) ws (values (bare xs))) (sym s.2)
      (subst (λ us. ReadsBracketsAt sig metas vars [] us [] ws (values (bare xs))) (sym none)
      (subst (λ us. ReadsBracketsAt sig metas vars [] [] [] us (values (bare xs))) (sym e.0)
      (subst (λ ys. ReadsBracketsAt sig metas vars [] [] [] no_ways (values (bare ys))) (sym e.1) (no_brackets, refl, refl))))
  brackets_read vars own to (c ∷ params) n vs ps ws xs h k s r =
      let lt = s.0 in
      let more : n + 1 ≤ to = omega arith in
      let rest = arguments_read vars own to c params (n + 1) vs ps ws xs more k s.2 r in
      (brackets (range_cons ts n to (punctuation 91) lt k s.1) rest.0, rest.1, rest.2)

-- where the slots of a split lie
pub split_within : (sig : Signature) (ts : List Token) (to : ℕ) (items : List Item) (n : ℕ) (vs : List Variable) (ps : List SlotRange) → IsSplit sig ts to items n vs ps → AreWithin to ps
split_within sig ts to [] n vs ps s = subst (AreWithin to) (sym s.2) tt
split_within sig ts to (Word text quoted ∷ items) n vs ps s = split_within sig ts to items (n + 1) vs ps s.4
split_within sig ts to (Binder c ∷ items) n [] ps s = absurd s
split_within sig ts to (Binder c ∷ items) n (v ∷ vs) ps s = split_within sig ts to items (n + 1) vs ps s.4
split_within sig ts to (Slot c binds ∷ items) n vs [] s = absurd s
split_within sig ts to (Slot c binds ∷ items) n vs (p ∷ ps) s =
    let from : p.from ≡ n = ap (λ (q : SlotRange). q.from) s.0 in
    ((omega (arith, s.1), omega (arith, s.2)), split_within sig ts to items p.to vs ps s.3)

longest_within : (sig : Signature) (ts : List Token) (to : ℕ) (items : List Item) (n : ℕ) (vs : List Variable) (ps : List SlotRange) → IsSplit sig ts to items n vs ps → longest ps + n ≤ to
longest_within sig ts to [] n vs ps s = let e : longest ps ≡ 0 = ap longest s.2 in omega (arith, s.0)
longest_within sig ts to (Word text quoted ∷ items) n vs ps s = omega (arith, longest_within sig ts to items (n + 1) vs ps s.4)
longest_within sig ts to (Binder c ∷ items) n [] ps s = absurd s
longest_within sig ts to (Binder c ∷ items) n (v ∷ vs) ps s = omega (arith, longest_within sig ts to items (n + 1) vs ps s.4)
longest_within sig ts to (Slot c binds ∷ items) n vs [] s = absurd s
longest_within sig ts to (Slot c binds ∷ items) n vs (p ∷ ps) s =
    let from : p.from ≡ n = ap (λ (q : SlotRange). q.from) s.0 in
    omega (arith, s.1, s.2, longest_within sig ts to items p.to vs ps s.3)

starts_within : (sig : Signature) (ts : List Token) (to : ℕ) (items : List Item) (n : ℕ) (vs : List Variable) (ps : List SlotRange) → items ≢ [] → IsSplit sig ts to items n vs ps → n < to
starts_within sig ts to [] n vs ps some s = absurd (some refl)
starts_within sig ts to (Word text quoted ∷ items) n vs ps some s = s.0
starts_within sig ts to (Binder c ∷ items) n [] ps some s = absurd s
starts_within sig ts to (Binder c ∷ items) n (v ∷ vs) ps some s = s.0
starts_within sig ts to (Slot c binds ∷ items) n vs [] some s = absurd s
starts_within sig ts to (Slot c binds ∷ items) n vs (p ∷ ps) some s = omega (arith, s.1, s.2)

-- a slot of several items does not take all the tokens
pub longest_short : (sig : Signature) (ts : List Token) (to : ℕ) (items : List Item) (n : ℕ) (vs : List Variable) (ps : List SlotRange) → items ≢ [] → (IsSingle items → ⊥)
    → IsSplit sig ts to items n vs ps → longest ps + n < to
longest_short sig ts to [] n vs ps some single s = absurd (some refl)
longest_short sig ts to (Word text quoted ∷ items) n vs ps some single s = omega (arith, longest_within sig ts to items (n + 1) vs ps s.4)
longest_short sig ts to (Binder c ∷ items) n [] ps some single s = absurd s
longest_short sig ts to (Binder c ∷ items) n (v ∷ vs) ps some single s = omega (arith, longest_within sig ts to items (n + 1) vs ps s.4)
longest_short sig ts to (Slot c binds ∷ []) n vs ps some single s = absurd (single tt)
longest_short sig ts to (Slot c binds ∷ (x ∷ items)) n vs [] some single s = absurd s
longest_short sig ts to (Slot c binds ∷ (x ∷ items)) n vs (p ∷ ps) some single s =
    let from : p.from ≡ n = ap (λ (q : SlotRange). q.from) s.0 in
    let more : (x ∷ items) ≢ [] = λ e. cc in
    omega (arith, s.1, s.2, longest_within sig ts to (x ∷ items) p.to vs ps s.3, starts_within sig ts to (x ∷ items) p.to vs ps more s.3)

-- where the arguments lie
head_within : (us : List Token) (to : ℕ) (c : CatId) (params : List CatId) (m : ℕ) (vs : List Variable) (p : SlotRange) (ps : List SlotRange)
    → IsHead c [] m m to (GoesOn us to params) vs (p ∷ ps) → AreWithin to ps × (longest ps + p.to ≤ to) × (vs ≡ [])
    → AreWithin to (p ∷ ps) × (longest (p ∷ ps) + m ≤ to) × (vs ≡ [])
head_within us to c params m vs p ps s rest =
    let from : p.from ≡ m = ap (λ (q : SlotRange). q.from) s.0 in
    (((omega (arith, s.1), omega (arith, s.2)), rest.0), omega (arith, s.1, s.2, rest.1), rest.2)

goes_within : (us : List Token) (to : ℕ) (params : List CatId) (k : ℕ) (vs : List Variable) (ps : List SlotRange) → GoesOn us to params k vs ps
    → AreWithin to ps × (longest ps + k ≤ to) × (vs ≡ [])
goes_within us to [] k vs ps s =
    (subst (AreWithin to) (sym s.3) tt, (let e : longest ps ≡ 0 = ap longest s.3 in omega (arith, s.1)), s.2)
goes_within us to (c ∷ params) k vs [] (inl s) = absurd s.1
goes_within us to (c ∷ params) k vs (p ∷ ps) (inl s) =
    let r = head_within us to c params (k + 1) vs p ps s.1 (goes_within us to params p.to vs ps (s.1).3) in (r.0, omega (arith, r.1), r.2)
goes_within us to (c ∷ params) k vs [] (inr s) = absurd s.3
goes_within us to (c ∷ params) k vs (p ∷ ps) (inr s) =
    let r = head_within us to c params (k + 1 + 1) vs p ps s.3 (goes_within us to params p.to vs ps (s.3).3) in (r.0, omega (arith, r.1), r.2)

pub brackets_within : (us : List Token) (to : ℕ) (params : List CatId) (n : ℕ) (vs : List Variable) (ps : List SlotRange) → IsBracketed us to params n vs ps
    → AreWithin to ps × (longest ps + n ≤ to) × (vs ≡ [])
brackets_within us to [] n vs ps s =
    (subst (AreWithin to) (sym s.2) tt, (let e : longest ps ≡ 0 = ap longest s.2 in omega (arith, s.0)), s.1)
brackets_within us to (c ∷ params) n vs [] s = absurd s.2
brackets_within us to (c ∷ params) n vs (p ∷ ps) s =
    let r = head_within us to c params (n + 1) vs p ps s.2 (goes_within us to params p.to vs ps (s.2).3) in (r.0, omega (arith, r.1), r.2)
