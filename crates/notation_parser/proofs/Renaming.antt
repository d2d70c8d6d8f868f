-- Readings stay readings, at their places, where the metavariables are numbered anew.
use Rattle.std.proofs.Common.{◌≡◌, ◌≢◌, ℕ, zero, suc, ◌+◌, ◌<◌, List, [], ◌∷◌, ◌++◌, length, map, inl, inr, refl, ap, ◌∙◌, sym, subst, Option, Some, slice_get, append-nil}
use Rattle.std.specs.List.{AllByRecursion}
use Rattle.std.proofs.lemmas.List.{map-append}
use Rattle.std.proofs.lemmas.Option.{slice_get_within}
use Rattle.binding_terms.specs.Numbered.{AnyByRecursion, AllNumbered}
use Rattle.binding_terms.specs.Signature.{Signature}
use Rattle.binding_terms.specs.declared.grammar.CatId.{CatId}
use Rattle.binding_terms.specs.declared.grammar.Item.{Item}
use Rattle.scheme_terms.specs.SchemeTree.{SchemeTree, meta, known, local, con, Values, no_values, value, Parts, no_parts, part, OccursIn, OccursInValues, OccursInParts}
use Rattle.scheme_terms.specs.Forms.{SchemeEntry, SchemeContext, KnownVariable}
use Rattle.scheme_terms.specs.declared.scheme.MetaDecl.{MetaDecl}
use Rattle.rule_schemes.specs.Reading.{Token, Meaning, bound, entry_of, Variable, meant, counted, Means, bare, ReadsTerm, group, metavariable, variable, production, ReadsBrackets, no_brackets, brackets, ReadsArguments, one_more, last_one, ReadsItems, all_read, terminal, binder, slot, known_words, ReadingScope, not_fresh, fresh_head, ReadsContext, root, empty_form, entry, known_entry, head_entry, ReadsForm, form_end, form_terminal, form_context, form_slot, ReadsJudgment, without_context, with_context}
use Rattle.scheme_terms.specs.declared.scheme.Root.TheVariants.{Whole}
use Rattle.rule_schemes.specs.NewNames.{IsNewMeta, AreInOrder}
use Rattle.rule_schemes.specs.Rules.{JudgmentScheme}
use Rattle.rule_schemes.specs.Said.{Want, Written, a_term, a_judgment, a_context, Said, ReadsWanted, reads_term, reads_judgment, reads_context, OccursInEntries, OccursInWritten, OccursInSaid, AreNewMetas, Reads, ReadsAs, HasOneReading, Way, way, Ways, no_ways, then_way, way_of_term, bracket_lengths, argument_lengths, ways_of_brackets, ways_of_arguments, item_lengths, ways_of_items, way_of_context, form_lengths, ways_of_form, way_of_judgment, way_of_wanted}
use Rattle.rule_schemes.specs.declared.rule.Judgment.{Judgment}
use Rattle.term_reader.specs.Ordered.{ReadsTermAt, ReadsBracketsAt, ReadsItemsAt}
use Rattle.notation_parser.specs.Ordered.{ReadsWantedAt}
use Rattle.notation_parser.specs.Renaming.{OccursInKnowns, OccursInWanted, renamed, renamed_values, renamed_parts, renamed_entry, renamed_context, renamed_judgment, renamed_known, renamed_written, renamed_said, KeepsUsed, KeepsKnowns, with_metas, AreReordered}
use Rattle.notation_parser.proofs.OccurringAnew.{known_same}
use Rattle.notation_parser.proofs.Within.{bare_occurs, parts_occur, OccursInContext, OccursInJudgment, items_within, wanted_within}
use Rattle.binding_terms.proofs.Lists.{any_at, any_back, any_front}

-- a reading of arguments, with the lengths and the readings of the arguments
abbrev pub ReadsArgumentsAt : Signature → List MetaDecl → List Variable → (params : List ℕ) → List Token → List ℕ → Ways → Values → Type 0
ReadsArgumentsAt sig metas vars params ts ls ws vs =
    (r : ReadsArguments sig metas vars params ts vs) × (argument_lengths r ≡ ls) × (ways_of_arguments r ≡ ws)

-- what a variable reads as has no metavariable
meant_renamed : (new : ℕ → ℕ) (means : Meaning) (n : ℕ) → renamed new (meant means n) ≡ meant means n
meant_renamed new bound n = refl
meant_renamed new (entry_of k) n = refl

variable_renamed : (new : ℕ → ℕ) (n : ℕ) (vars : List Variable) (w : List ℕ) (c : ℕ) (s : SchemeTree) → Means n vars w c s → renamed new s ≡ s
variable_renamed new n [] w c s h = absurd h
variable_renamed new n (v ∷ vars) w c s (inl h) = ap (renamed new) h.2 ∙ meant_renamed new v.means n ∙ sym h.2
variable_renamed new n (v ∷ vars) w c s (inr h) = variable_renamed new (n + counted v.means) vars w c s h.1

module _ (sig : Signature) (metas others : List MetaDecl) (new : ℕ → ℕ) where
  mutual
    pub term_renamed : {vars : List Variable} {c : ℕ} {ts : List Token} {s : SchemeTree} (r : ReadsTerm sig metas vars c ts s)
        → KeepsUsed new metas others (λ m. OccursIn m s) → ReadsTermAt sig others vars c ts (way_of_term r) (renamed new s)
    term_renamed (group e r) keeps = let k = term_renamed r keeps in (group e k.0, ap (λ w. way 0 [] (then_way w no_ways)) k.1)
    term_renamed (metavariable {m = m} {decl = decl} e found c r) keeps =
        let k = brackets_renamed r (λ n d o. keeps n d (inr o)) in (
          metavariable e (keeps m decl (inl refl) found) c k.0,
          ap (λ ls. way 1 ls (ways_of_brackets k.0)) k.1 ∙ ap (way 1 (bracket_lengths r)) k.2,
        )
    term_renamed {vars} {c} {ts} (variable {w = w} {s = s} e h) keeps =
        subst (λ x. ReadsTermAt sig others vars c ts (way 2 [] no_ways) x) (sym (variable_renamed new 0 vars w c s h)) (variable e h, refl)
    term_renamed (production {p = p} found c r) keeps =
        let k = items_renamed r keeps in
        (production found c k.0, ap (λ ls. way (3 + p) ls (ways_of_items k.0)) k.1 ∙ ap (way (3 + p) (item_lengths r)) k.2)

    pub brackets_renamed : {vars : List Variable} {params : List ℕ} {ts : List Token} {vs : Values} (r : ReadsBrackets sig metas vars params ts vs)
        → KeepsUsed new metas others (λ m. OccursInValues m vs)
        → ReadsBracketsAt sig others vars params ts (bracket_lengths r) (ways_of_brackets r) (renamed_values new vs)
    brackets_renamed no_brackets keeps = (no_brackets, refl, refl)
    brackets_renamed (brackets e r) keeps = let k = arguments_renamed r keeps in (brackets e k.0, k.1, k.2)

    pub arguments_renamed : {vars : List Variable} {params : List ℕ} {ts : List Token} {vs : Values} (r : ReadsArguments sig metas vars params ts vs)
        → KeepsUsed new metas others (λ m. OccursInValues m vs)
        → ReadsArgumentsAt sig others vars params ts (argument_lengths r) (ways_of_arguments r) (renamed_values new vs)
    arguments_renamed (one_more {first = first} e t r) keeps =
        let k = term_renamed t (λ n d o. keeps n d (inl o)) in
        let q = arguments_renamed r (λ n d o. keeps n d (inr o)) in
        (one_more e k.0 q.0, ap (λ ls. length first ∷ ls) q.1, ap (λ w. then_way w (ways_of_arguments q.0)) k.1 ∙ ap (then_way (way_of_term t)) q.2)
    arguments_renamed (last_one {first = first} e t r) keeps =
        let k = term_renamed t (λ n d o. keeps n d (inl o)) in
        let q = brackets_renamed r (λ n d o. keeps n d (inr o)) in
        (last_one e k.0 q.0, ap (λ ls. length first ∷ ls) q.1, ap (λ w. then_way w (ways_of_brackets q.0)) k.1 ∙ ap (then_way (way_of_term t)) q.2)

    pub items_renamed : {vars own : List Variable} {words : List (List ℕ)} {items : List Item} {ts : List Token} {xs : Parts}
        (r : ReadsItems sig metas vars own words items ts xs) → KeepsUsed new metas others (λ m. OccursInParts m xs)
        → ReadsItemsAt sig others vars own words items ts (item_lengths r) (ways_of_items r) (renamed_parts new xs)
    items_renamed all_read keeps = (all_read, refl, refl)
    items_renamed (terminal h r) keeps = let k = items_renamed r keeps in (terminal h k.0, k.1, k.2)
    items_renamed (binder h r) keeps = let k = items_renamed r keeps in (binder h k.0, k.1, k.2)
    items_renamed (slot {first = first} split some t r) keeps =
        let k = term_renamed t (λ n d o. keeps n d (inl o)) in
        let q = items_renamed r (λ n d o. keeps n d (inr o)) in
        (slot split some k.0 q.0, ap (λ ls. length first ∷ ls) q.1, ap (λ w. then_way w (ways_of_items q.0)) k.1 ∙ ap (then_way (way_of_term t)) q.2)

-- schemes of parts
pub bare_renamed : (new : ℕ → ℕ) (xs : Parts) → map (renamed new) (bare xs) ≡ bare (renamed_parts new xs)
bare_renamed new no_parts = refl
bare_renamed new (part n s xs) = ap (λ ss. renamed new s ∷ ss) (bare_renamed new xs)

-- readings of forms, contexts and judgments at their places
abbrev pub ReadsFormOver : Signature → List MetaDecl → List Variable → Option CatId → List Token → List Item → List Token → Way → List ℕ → Ways → List SchemeTree → Type 0
ReadsFormOver sig metas vars ctx front items ts of_context ls ws ss =
    (r : ReadsForm sig metas vars ctx front items ts ss) × (form_lengths r ≡ ls) × (ways_of_form of_context r ≡ ws)

abbrev pub ReadsContextAt : Signature → ReadingScope → List MetaDecl → ℕ → List Token → Way → SchemeContext → List Variable → List KnownVariable → Type 0
ReadsContextAt sig scope metas c ts w ctx vars ks = (r : ReadsContext sig scope metas c ts ctx vars ks) × (way_of_context r ≡ w)

abbrev pub ReadsJudgmentAt : Signature → List Judgment → ReadingScope → List MetaDecl → List Token → Way → JudgmentScheme → List KnownVariable → Type 0
ReadsJudgmentAt sig js scope metas ts w j ks = (r : ReadsJudgment sig js scope metas ts j ks) × (way_of_judgment r ≡ w)

-- an entry more
entries_renamed : (new : ℕ → ℕ) (es : List SchemeEntry) (p : ℕ) (xs : Parts)
    → map (renamed_entry new) (es ++ record { prod = p; args = bare xs } ∷ []) ≡ map (renamed_entry new) es ++ record { prod = p; args = bare (renamed_parts new xs) } ∷ []
entries_renamed new es p xs =
    map-append (renamed_entry new) es (record { prod = p; args = bare xs } ∷ [])
    ∙ ap (λ (ss : List SchemeTree). map (renamed_entry new) es ++ record { prod = p; args = ss } ∷ []) (bare_renamed new xs)

module _ (sig : Signature) (metas others : List MetaDecl) (new : ℕ → ℕ) where
  pub form_renamed : {vars : List Variable} {ctx : Option CatId} {front : List Token} {items : List Item} {ts : List Token} {ss : List SchemeTree} (of_context : Way)
      (r : ReadsForm sig metas vars ctx front items ts ss) → KeepsUsed new metas others (λ m. AnyByRecursion (OccursIn m) ss)
      → ReadsFormOver sig others vars ctx front items ts of_context (form_lengths r) (ways_of_form of_context r) (map (renamed new) ss)
  form_renamed of_context form_end keeps = (form_end, refl, refl)
  form_renamed of_context (form_terminal h r) keeps = let k = form_renamed of_context r keeps in (form_terminal h k.0, k.1, k.2)
  form_renamed {front = front} of_context (form_context e split r) keeps =
      let k = form_renamed of_context r keeps in (form_context e split k.0, ap (λ ls. length front ∷ ls) k.1, ap (then_way of_context) k.2)
  form_renamed of_context (form_slot {first = first} e split some t r) keeps =
      let k = term_renamed sig metas others new t (λ n d o. keeps n d (inl o)) in
      let q = form_renamed of_context r (λ n d o. keeps n d (inr o)) in
      (form_slot e split some k.0 q.0, ap (λ ls. length first ∷ ls) q.1, ap (λ w. then_way w (ways_of_form of_context q.0)) k.1 ∙ ap (then_way (way_of_term t)) q.2)

  module _ (scope : ReadingScope) (outer : List MetaDecl) (knowns : scope.fresh ≢ fresh_head → KeepsKnowns new metas scope.names.knowns) where
    pub context_renamed : {c : ℕ} {ts : List Token} {ctx : SchemeContext} {vars : List Variable} {ks : List KnownVariable} (r : ReadsContext sig scope metas c ts ctx vars ks)
        → KeepsUsed new metas others (λ m. OccursInContext m ctx ks)
        → ReadsContextAt sig (with_metas scope outer) others c ts (way_of_context r) (renamed_context new ctx) vars (map (renamed_known new) ks)
    context_renamed (root e c) keeps = (root e c, refl)
    context_renamed (empty_form p e c d h r) keeps =
        let k = items_renamed sig metas others new r (λ n d o. absurd o) in (empty_form p e c d h k.0, refl)
    context_renamed {c} {ts} {ks = ks} (entry p {b = b} {first = first} {w = w} {xs = xs} {ctx = ctx} {vars = vars} e split context r) keeps =
        let k = context_renamed context (λ n d o. keeps n d (in_front n o)) in
        let q = items_renamed sig metas others new r (λ n d o. keeps n d (inl (any_back _ ctx.entries _ (inl (bare_occurs n xs o))))) in
        subst (λ (es : List SchemeEntry). ReadsContextAt sig (with_metas scope outer) others c ts (way (1 + p) (length first ∷ item_lengths r) (then_way (way_of_context context) (ways_of_items r)))
        (record { root = ctx.root; entries = es }) (record { word = w; cat = b; means = bound } ∷ vars) (map (renamed_known new) ks)) (sym (entries_renamed new ctx.entries p xs)) (
          entry p e split k.0 q.0,
          ap (λ ls. way (1 + p) (length first ∷ ls) (then_way (way_of_context k.0) (ways_of_items q.0))) q.1
              ∙ ap (λ v. way (1 + p) (length first ∷ item_lengths r) (then_way v (ways_of_items q.0))) k.1
              ∙ ap (λ vs. way (1 + p) (length first ∷ item_lengths r) (then_way (way_of_context context) vs)) q.2,
        )
      where
        in_front : (n : ℕ) → OccursInContext n ctx ks → OccursInContext n (record { root = ctx.root; entries = ctx.entries ++ record { prod = p; args = bare xs } ∷ [] }) ks
        in_front n (inl o) = inl (any_front _ ctx.entries _ o)
        in_front n (inr o) = inr o
    context_renamed {c} {ts} (known_entry p b n {xs = xs} {id = id} {k = k} f e h is d r found named here) keeps =
        let occurs : (m : ℕ) → OccursInParts m xs → AnyByRecursion (OccursIn m) k.entry.args =
        λ m o. subst (λ (e : SchemeEntry). AnyByRecursion (OccursIn m) e.args) (sym here) (bare_occurs m xs o) in
        let q = items_renamed sig metas others new r (λ m d o. keeps m d (inr (inl (occurs m o)))) in
        let back : (m : ℕ) → AnyByRecursion (OccursIn m) k.entry.args → OccursInParts m xs =
        λ m o. parts_occur m xs (subst (λ (e : SchemeEntry). AnyByRecursion (OccursIn m) e.args) here o) in
        let same : renamed_known new k ≡ k =
        known_same new k (λ m o. knowns f m (any_at (λ (l : KnownVariable). AnyByRecursion (OccursIn m) l.entry.args) scope.names.knowns n k found o) (items_within sig metas r m (back m o))) in
        let still : k.entry ≡ record { prod = p; args = bare (renamed_parts new xs) } =
        sym (ap (λ (k : KnownVariable). k.entry) same) ∙ ap (renamed_entry new) here ∙ ap (λ (ss : List SchemeTree). record { prod = p; args = ss }) (bare_renamed new xs) in
        subst (λ (x : KnownVariable). ReadsContextAt sig (with_metas scope outer) others c ts (way (1 + (length sig.prods + p)) (item_lengths r) (ways_of_items r))
        (record { root = Whole id; entries = [] }) (known_words sig 0 scope.names.knowns) (x ∷ [])) (sym same) (
          known_entry p b n f e h is d q.0 found named still,
          ap (λ ls. way (1 + (length sig.prods + p)) ls (ways_of_items q.0)) q.1 ∙ ap (way (1 + (length sig.prods + p)) (item_lengths r)) q.2,
        )
    context_renamed {c} {ts} (head_entry {p = p} {b = b} {n = n} {w = w} {xs = xs} {id = id} f e h is d r number) keeps =
        let q = items_renamed sig metas others new r (λ m d o. keeps m d (inr (inl (bare_occurs m xs o)))) in
        subst (λ (ss : List SchemeTree). ReadsContextAt sig (with_metas scope outer) others c ts (way (1 + (length sig.prods + p)) (item_lengths r) (ways_of_items r))
        (record { root = Whole id; entries = [] }) (record { word = w; cat = b; means = entry_of n } ∷ known_words sig 0 scope.names.knowns)
        (record { name = w; entry = record { prod = p; args = ss } } ∷ [])) (sym (bare_renamed new xs)) (
          head_entry f e h is d q.0 number,
          ap (λ ls. way (1 + (length sig.prods + p)) ls (ways_of_items q.0)) q.1 ∙ ap (way (1 + (length sig.prods + p)) (item_lengths r)) q.2,
        )

    module _ (js : List Judgment) where
      pub judgment_renamed : {ts : List Token} {j : JudgmentScheme} {ks : List KnownVariable} (r : ReadsJudgment sig js scope metas ts j ks)
          → KeepsUsed new metas others (λ m. OccursInJudgment m j ks)
          → ReadsJudgmentAt sig js (with_metas scope outer) others ts (way_of_judgment r) (renamed_judgment new j) (map (renamed_known new) ks)
      judgment_renamed (without_context {k = k} e c r) keeps =
          let q = form_renamed (way 0 [] no_ways) r (λ n d o. keeps n d (inl (inr o))) in
          (without_context e c q.0, ap (λ ls. way k ls (ways_of_form (way 0 [] no_ways) q.0)) q.1 ∙ ap (way k (form_lengths r)) q.2)
      judgment_renamed {ks = ks} (with_context {k = k} {ctx = ctx} {ss = ss} e c once context r) keeps =
          let f = context_renamed context (λ n d o. keeps n d (in_context n o)) in
          let q = form_renamed (way_of_context f.0) r (λ n d o. keeps n d (inl (inr o))) in (
            with_context e c once f.0 q.0,
            ap (λ ls. way k ls (ways_of_form (way_of_context f.0) q.0)) q.1 ∙ ap (way k (form_lengths r)) q.2
                ∙ ap (λ w. way k (form_lengths r) (ways_of_form w r)) f.1,
          )
        where
          in_context : (n : ℕ) → OccursInContext n ctx ks → OccursInJudgment n (record { judgment = k; context = ctx; args = ss }) ks
          in_context n (inl o) = inl (inl o)
          in_context n (inr o) = inr o

      pub wanted_renamed : {ts : List Token} {want : Want} {written : Written} {ks : List KnownVariable} (r : ReadsWanted sig js scope metas ts want written ks)
          → KeepsUsed new metas others (λ m. OccursInWanted m written ks)
          → ReadsWantedAt sig js (with_metas scope outer) others want ts (way_of_wanted r) (renamed_written new written, map (renamed_known new) ks)
      wanted_renamed (reads_term r) keeps = let k = term_renamed sig metas others new r (λ n d o. keeps n d (inl o)) in (reads_term k.0, k.1)
      wanted_renamed (reads_judgment r) keeps = let k = judgment_renamed r keeps in (reads_judgment k.0, k.1)
      wanted_renamed (reads_context r) keeps = let k = context_renamed r keeps in (reads_context k.0, k.1)

-- schemes in which each metavariable gets its number back
mutual
  pub scheme_back : (there back : ℕ → ℕ) (s : SchemeTree) → ((m : ℕ) → OccursIn m s → there (back m) ≡ m) → renamed there (renamed back s) ≡ s
  scheme_back there back (meta m vs) h =
      ap (λ n. meta n (renamed_values there (renamed_values back vs))) (h m (inl refl)) ∙ ap (meta m) (values_back there back vs (λ n o. h n (inr o)))
  scheme_back there back (known k) h = refl
  scheme_back there back (local i) h = refl
  scheme_back there back (con p xs) h = ap (con p) (parts_back there back xs h)

  pub values_back : (there back : ℕ → ℕ) (vs : Values) → ((m : ℕ) → OccursInValues m vs → there (back m) ≡ m) → renamed_values there (renamed_values back vs) ≡ vs
  values_back there back no_values h = refl
  values_back there back (value s vs) h =
      ap (λ x. value x (renamed_values there (renamed_values back vs))) (scheme_back there back s (λ n o. h n (inl o)))
      ∙ ap (value s) (values_back there back vs (λ n o. h n (inr o)))

  pub parts_back : (there back : ℕ → ℕ) (xs : Parts) → ((m : ℕ) → OccursInParts m xs → there (back m) ≡ m) → renamed_parts there (renamed_parts back xs) ≡ xs
  parts_back there back no_parts h = refl
  parts_back there back (part n s xs) h =
      ap (λ x. part n x (renamed_parts there (renamed_parts back xs))) (scheme_back there back s (λ n o. h n (inl o)))
      ∙ ap (part n s) (parts_back there back xs (λ n o. h n (inr o)))

module _ (there back : ℕ → ℕ) where
  pub schemes_back : (ss : List SchemeTree) → ((m : ℕ) → AnyByRecursion (OccursIn m) ss → there (back m) ≡ m) → map (renamed there) (map (renamed back) ss) ≡ ss
  schemes_back [] h = refl
  schemes_back (s ∷ ss) h =
      ap (λ x. x ∷ map (renamed there) (map (renamed back) ss)) (scheme_back there back s (λ n o. h n (inl o))) ∙ ap (λ xs. s ∷ xs) (schemes_back ss (λ n o. h n (inr o)))

  entry_back : (e : SchemeEntry) → ((m : ℕ) → AnyByRecursion (OccursIn m) e.args → there (back m) ≡ m) → renamed_entry there (renamed_entry back e) ≡ e
  entry_back e h = ap (λ (ss : List SchemeTree). record { prod = e.prod; args = ss }) (schemes_back e.args h)

  entries_back : (es : List SchemeEntry) → ((m : ℕ) → OccursInEntries m es → there (back m) ≡ m) → map (renamed_entry there) (map (renamed_entry back) es) ≡ es
  entries_back [] h = refl
  entries_back (e ∷ es) h =
      ap (λ x. x ∷ map (renamed_entry there) (map (renamed_entry back) es)) (entry_back e (λ n o. h n (inl o))) ∙ ap (λ xs. e ∷ xs) (entries_back es (λ n o. h n (inr o)))

  context_back : (ctx : SchemeContext) → ((m : ℕ) → OccursInEntries m ctx.entries → there (back m) ≡ m) → renamed_context there (renamed_context back ctx) ≡ ctx
  context_back ctx h = ap (λ (es : List SchemeEntry). record { root = ctx.root; entries = es }) (entries_back ctx.entries h)

  pub written_back : (w : Written) → ((m : ℕ) → OccursInWritten m w → there (back m) ≡ m) → renamed_written there (renamed_written back w) ≡ w
  written_back (a_term s) h = ap a_term (scheme_back there back s h)
  written_back (a_judgment j) h =
      let context : renamed_context there (renamed_context back j.context) ≡ j.context = context_back j.context (λ n o. h n (inl o)) in
      let args : map (renamed there) (map (renamed back) j.args) ≡ j.args = schemes_back j.args (λ n o. h n (inr o)) in
      λ i. a_judgment (record { judgment = j.judgment; context = context i; args = args i })
  written_back (a_context ctx) h = ap a_context (context_back ctx h)

  pub knowns_back : (ks : List KnownVariable) → ((m : ℕ) → OccursInKnowns m ks → there (back m) ≡ m) → map (renamed_known there) (map (renamed_known back) ks) ≡ ks
  knowns_back [] h = refl
  knowns_back (k ∷ ks) h =
      ap (λ (x : SchemeEntry). record { name = k.name; entry = x } ∷ map (renamed_known there) (map (renamed_known back) ks)) (entry_back k.entry (λ n o. h n (inl o)))
      ∙ ap (λ xs. k ∷ xs) (knowns_back ks (λ n o. h n (inr o)))

-- no new metavariable
pub no_new_name : (sig : Signature) (scope : ReadingScope) (ts : List Token) (said : Said) → said.metas ≡ [] → AreNewMetas sig scope ts said
no_new_name sig scope ts said none = record {
  allowed = λ _. none;
  each = subst (AllByRecursion (IsNewMeta sig scope.names.metas ts)) (sym none) tt;
  used = subst (AllNumbered (λ m decl. OccursInSaid m said) (length scope.names.metas)) (sym none) tt;
  in_order = subst (AreInOrder ts) (sym none) tt;
}

module _ (sig : Signature) (js : List Judgment) (scope : ReadingScope) (ts : List Token) (knowns : scope.names.knowns ≡ []) (fresh : scope.fresh ≡ not_fresh) where
  -- what forms without new names say, in the scope whose metavariables are in another order
  pub reads_renamed : (others : List MetaDecl) (there : ℕ → ℕ) → ((m : ℕ) → m < length scope.names.metas → slice_get others (there m) ≡ slice_get scope.names.metas m)
      → (want : Want) (said : Said) → Reads sig js scope want ts said → Reads sig js (with_metas scope others) want ts (renamed_said there said)
  reads_renamed others there kept want said r =
      let none : said.metas ≡ [] = r.metas.allowed fresh in
      let all : scope.names.metas ++ said.metas ≡ scope.names.metas = ap (λ ms. scope.names.metas ++ ms) none ∙ append-nil scope.names.metas in
      let read : ReadsWanted sig js scope scope.names.metas ts want said.written said.knowns = subst (λ ms. ReadsWanted sig js scope ms ts want said.written said.knowns) all r.form in
      let keeps : scope.fresh ≢ fresh_head → KeepsKnowns there scope.names.metas scope.names.knowns = λ _ m o. absurd (subst (OccursInKnowns m) knowns o) in
      let again = wanted_renamed sig scope.names.metas others there scope others keeps js read
      (λ m d o e. kept m (slice_get_within scope.names.metas m d e) ∙ e) in
      record {
        metas = no_new_name sig (with_metas scope others) ts (renamed_said there said) none;
        form = subst (λ ms. ReadsWanted sig js (with_metas scope others) ms ts want (renamed_written there said.written) (map (renamed_known there) said.knowns))
            (sym (ap (λ ms. others ++ ms) none ∙ append-nil others)) again.0;
      }

  pub said_back : (there back : ℕ → ℕ) → ((m : ℕ) → m < length scope.names.metas → there (back m) ≡ m) → (want : Want) (said : Said) → Reads sig js scope want ts said
      → renamed_said there (renamed_said back said) ≡ said
  said_back there back again want said r =
      let none : said.metas ≡ [] = r.metas.allowed fresh in
      let all : scope.names.metas ++ said.metas ≡ scope.names.metas = ap (λ ms. scope.names.metas ++ ms) none ∙ append-nil scope.names.metas in
      let read : ReadsWanted sig js scope scope.names.metas ts want said.written said.knowns = subst (λ ms. ReadsWanted sig js scope ms ts want said.written said.knowns) all r.form in
      let within = wanted_within sig scope.names.metas scope js read in
      let w : renamed_written there (renamed_written back said.written) ≡ said.written = written_back there back said.written (λ m o. again m (within m (inl o))) in
      let k : map (renamed_known there) (map (renamed_known back) said.knowns) ≡ said.knowns = knowns_back there back said.knowns (λ m o. again m (within m (inr o))) in
      λ i. record { written = w i; metas = said.metas; knowns = k i }

-- exactly one reading stays exactly one where the metavariables stand in another order
pub one_reading_renamed : (sig : Signature) (js : List Judgment) (scope : ReadingScope) (others : List MetaDecl) (there back : ℕ → ℕ) (want : Want) (ts : List Token) (said : Said)
    → AreReordered scope.names.metas others there back → scope.names.knowns ≡ [] → scope.fresh ≡ not_fresh → HasOneReading sig js scope (want ∷ []) ts (0, said)
    → HasOneReading sig js (with_metas scope others) (want ∷ []) ts (0, renamed_said there said)
one_reading_renamed sig js scope others there back want ts said order knowns fresh one = record {
  reads = record {
    want = one.reads.want;
    here = one.reads.here;
    reads = reads_renamed sig js scope ts knowns fresh others there order.kept one.reads.want said one.reads.reads;
  };
  no_other = only;
}
  where
    only : (other : ℕ × Said) → ReadsAs sig js (with_metas scope others) (want ∷ []) ts other → other ≡ (0, renamed_said there said)
    only other r =
        let before = reads_renamed sig js (with_metas scope others) ts knowns fresh scope.names.metas back order.from r.want other.1 r.reads in
        let same : (other.0, renamed_said back other.1) ≡ (0, said) =
        one.no_other (other.0, renamed_said back other.1) (record { want = r.want; here = r.here; reads = before }) in
        let returned : renamed_said there (renamed_said back other.1) ≡ other.1 =
        said_back sig js (with_metas scope others) ts knowns fresh there back order.again r.want other.1 r.reads in
        let number : other.0 ≡ 0 = ap (λ (o : ℕ × Said). o.0) same in
        let what : other.1 ≡ renamed_said there said = sym returned ∙ ap (λ (o : ℕ × Said). renamed_said there o.1) same in
        λ i. (number i, what i)
