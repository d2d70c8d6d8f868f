-- What cannot read: terms by their cases, and items one by one.
use Rattle.std.proofs.Common.{◌≡◌, ◌≢◌, ◌⊎◌, ℕ, zero, suc, ◌+◌, ◌-◌, ◌<◌, ◌≤◌, Bool, List, [], ◌∷◌, ◌++◌, length, map, reverse, inl, inr, ◌↔◌, IsTrue, refl, ap, ◌∙◌, sym, subst, arith, Some, slice_get, slice_range}
use Rattle.std.specs.List.{AllByRecursion}
use Rattle.std.proofs.lemmas.List.{append_assoc, append_cancel_left, reverse-append}
use Rattle.binding_terms.specs.Numbered.{AnyByRecursion}
use Rattle.binding_terms.specs.Signature.{Signature, binders, ProdFits}
use Rattle.binding_terms.specs.declared.grammar.CatId.{CatId}
use Rattle.binding_terms.specs.declared.grammar.Item.{Item}
use Rattle.binding_terms.specs.declared.grammar.Item.TheVariants.{Word, Slot, Binder}
use Rattle.binding_terms.specs.declared.grammar.Prod.{Prod}
use Rattle.binding_terms.specs.declared.text.Text.{Text}
use Rattle.scheme_terms.specs.SchemeTree.{SchemeTree, Values, Parts}
use Rattle.scheme_terms.specs.declared.scheme.MetaDecl.{MetaDecl}
use Rattle.rule_schemes.specs.Reading.{Token, word, punctuation, IsEnding, IsSpelling, bound, counted, Means, Variable, variables_of, variable_at, slot_variables, IsVariableWord, IsTerminal, ReadsTerm, group, metavariable, variable, production, ReadsBrackets, no_brackets, brackets, ReadsArguments, one_more, last_one, ReadsItems, all_read, terminal, binder, slot}
use Rattle.term_reader.specs.Chart.{IsAmong, MayBeVariable, AreAllowed}
use Rattle.term_reader.specs.Charting.{Charted, CannotRead, CannotGroup, CannotName, CannotVary, CannotTake, CannotProduce}
use Rattle.term_reader.specs.View.{scope_words}
use Rattle.term_reader.proofs.ChartRanges.{range_long, range_parts, range_front, range_last}
use Rattle.binding_terms.proofs.Lists.{all_append, all_reverse}

-- the words of a scope's variables are allowed where they stand among the others
pub scope_allowed : (sig : Signature) (base : List (Text × CatId)) → AreAllowed sig base (scope_words base)
scope_allowed sig base =
    all_reverse (λ (v : Variable). MayBeVariable sig base v.cat v.word) (map (λ v. record { word = v.0; cat = v.1.0; means = bound }) base) (each base (λ c w h. h))
  where
    each : (some : List (Text × CatId)) → ((c : ℕ) (w : List ℕ) → IsAmong some c w → IsAmong base c w)
        → AreAllowed sig base (map (λ v. record { word = v.0; cat = v.1.0; means = bound }) some)
    each [] among = tt
    each (v ∷ some) among = (inl (among v.1.0 v.0 (inl (refl, refl))), each some (λ c w h. among c w (inr h)))

module _ (sig : Signature) (base : List (Text × CatId)) where
  -- the variables that a slot is under are some of the production's
  pub slot_allowed : (vs : List Variable) (ns : List ℕ) → AreAllowed sig base vs → AreAllowed sig base (slot_variables vs ns)
  slot_allowed vs [] h = tt
  slot_allowed vs (n ∷ ns) h =
      all_append (λ (v : Variable). MayBeVariable sig base v.cat v.word) (slot_variables vs ns) (variable_at (slice_get vs n)) (slot_allowed vs ns h) (one vs n h)
    where
      one : (vs : List Variable) (n : ℕ) → AreAllowed sig base vs → AreAllowed sig base (variable_at (slice_get vs n))
      one [] n h = tt
      one (v ∷ vs) zero h = (h.0, tt)
      one (v ∷ vs) (suc n) h = one vs n h.1

  -- a slot's variables stand before those of the production
  pub under_allowed : (own vars : List Variable) (ns : List ℕ) → AreAllowed sig base own → AreAllowed sig base vars → AreAllowed sig base (slot_variables own ns ++ vars)
  under_allowed own vars ns h k = all_append (λ (v : Variable). MayBeVariable sig base v.cat v.word) (slot_variables own ns) vars (slot_allowed own ns h) k

  -- the binders of a production that reads are spelled as variables of their categories
  pub binders_allowed : {metas : List MetaDecl} {vars own : List Variable} {words : List (List ℕ)} {items : List Item} {tokens : List Token} {xs : Parts}
      → ReadsItems sig metas vars own words items tokens xs → AreAllowed sig base (variables_of words (binders items))
  binders_allowed all_read = tt
  binders_allowed (terminal h r) = binders_allowed r
  binders_allowed (binder h r) = (inr h, binders_allowed r)
  binders_allowed (slot e some t r) = binders_allowed r

  -- a word that is in scope may be a variable
  pub means_allowed : (n : ℕ) (vars : List Variable) (w : List ℕ) (c : ℕ) (s : SchemeTree) → AreAllowed sig base vars → Means n vars w c s → MayBeVariable sig base c w
  means_allowed n [] w c s all h = absurd h
  means_allowed n (v ∷ vs) w c s all (inl h) = subst (MayBeVariable sig base c) h.0 (subst (λ d. MayBeVariable sig base d v.word) h.1 all.0)
  means_allowed n (v ∷ vs) w c s all (inr h) = means_allowed (n + counted v.means) vs w c s all.1 h.1

-- a bracket, and then nothing or what ends with a bracket
after : {tokens : List Token} (first rest : List Token) → tokens ≡ first ++ punctuation 93 ∷ rest
    → (rest ≡ []) ⊎ ((front : List Token) × (rest ≡ front ++ punctuation 93 ∷ [])) → (front : List Token) × (tokens ≡ front ++ punctuation 93 ∷ [])
after first rest e (inl none) = (first, e ∙ ap (λ us. first ++ punctuation 93 ∷ us) none)
after first rest e (inr k) =
    (first ++ (punctuation 93 ∷ k.0), e ∙ ap (λ us. first ++ punctuation 93 ∷ us) k.1 ∙ sym (append_assoc first (punctuation 93 ∷ k.0) (punctuation 93 ∷ [])))

module _ {sig : Signature} {metas : List MetaDecl} where
  -- brackets begin with one and end with one
  pub brackets_begin : {vars : List Variable} {params : List ℕ} {tokens : List Token} {vs : Values} → ReadsBrackets sig metas vars params tokens vs
      → (tokens ≡ []) ⊎ ((rest : List Token) × (tokens ≡ punctuation 91 ∷ rest))
  brackets_begin no_brackets = inl refl
  brackets_begin (brackets {rest = rest} e r) = inr (rest, e)

  mutual
    pub brackets_end : {vars : List Variable} {params : List ℕ} {tokens : List Token} {vs : Values} → ReadsBrackets sig metas vars params tokens vs
        → (tokens ≡ []) ⊎ ((front : List Token) × (tokens ≡ front ++ punctuation 93 ∷ []))
    brackets_end no_brackets = inl refl
    brackets_end (brackets e r) = let k = arguments_end r in inr (punctuation 91 ∷ k.0, e ∙ ap (λ us. punctuation 91 ∷ us) k.1)

    arguments_end : {vars : List Variable} {params : List ℕ} {tokens : List Token} {vs : Values} → ReadsArguments sig metas vars params tokens vs
        → (front : List Token) × (tokens ≡ front ++ punctuation 93 ∷ [])
    arguments_end (one_more {first = first} e t r) =
        let k = arguments_end r in
        (first ++ (punctuation 44 ∷ k.0), e ∙ ap (λ us. first ++ punctuation 44 ∷ us) k.1 ∙ sym (append_assoc first (punctuation 44 ∷ k.0) (punctuation 93 ∷ [])))
    arguments_end (last_one {tokens = tokens} {first = first} {rest = rest} e t r) = after first rest e (brackets_end r)

  -- items take a token each at least
  pub items_take : {vars own : List Variable} {words : List (List ℕ)} {items : List Item} {tokens : List Token} {xs : Parts}
      → ReadsItems sig metas vars own words items tokens xs → tokens ≡ [] → items ≡ []
  items_take all_read e = refl
  items_take (terminal {t = t} {tokens = tokens} h r) e = let never : t ∷ tokens ≡ [] = e in absurd (cc)
  items_take (binder {w = w} {tokens = tokens} h r) e = let never : word w ∷ tokens ≡ [] = e in absurd (cc)
  items_take (slot {first = first} {rest = rest} split some t r) e = absurd (some (none first rest (sym split ∙ e)))
    where
      none : (first rest : List Token) → first ++ rest ≡ [] → first ≡ []
      none [] rest e = refl
      none (u ∷ us) rest e = absurd (cc)

  -- no term reads as nothing
  pub term_takes : {vars : List Variable} {c : ℕ} {tokens : List Token} {s : SchemeTree} → AllByRecursion (ProdFits sig) sig.prods
      → ReadsTerm sig metas vars c tokens s → tokens ≡ [] → ⊥
  term_takes fits (group {inner = inner} e r) k = let never : punctuation 40 ∷ (inner ++ punctuation 41 ∷ []) ≡ [] = sym e ∙ k in cc
  term_takes fits (metavariable {rest = rest} {decl = decl} e m c r) k = let never : word decl.name ∷ rest ≡ [] = sym e ∙ k in cc
  term_takes fits (variable {w = w} e h) k = let never : word w ∷ [] ≡ [] = sym e ∙ k in cc
  term_takes fits (production {p = p} {prod = prod} e c r) k = (fit sig.prods p prod fits e).some_item (items_take r k)
    where
      fit : (prods : List Prod) (p : ℕ) (prod : Prod) → AllByRecursion (ProdFits sig) prods → slice_get prods p ≡ Some prod → ProdFits sig prod
      fit [] p prod all e = absurd (cc)
      fit (q ∷ prods) zero prod all e = let same : q ≡ prod = cc in subst (ProdFits sig) same all.0
      fit (q ∷ prods) (suc p) prod all e = fit prods p prod all.1 e

  -- the first item of items that read, and what the others take
  pub word_read : {vars own : List Variable} {words : List (List ℕ)} {text : List ℕ} {quoted : Bool} {items : List Item} {tokens : List Token} {xs : Parts}
      → ReadsItems sig metas vars own words (Word text quoted ∷ items) tokens xs
      → (t : Token) × (rest : List Token) × (ys : Parts) × (tokens ≡ t ∷ rest) × IsTerminal text t × ReadsItems sig metas vars own words items rest ys
  word_read (terminal {t = t} {tokens = rest} {xs = xs} h r) = (t, rest, xs, refl, h, r)

  pub binder_read : {vars own : List Variable} {words : List (List ℕ)} {c : CatId} {items : List Item} {tokens : List Token} {xs : Parts}
      → ReadsItems sig metas vars own words (Binder c ∷ items) tokens xs
      → (w : List ℕ) × (others : List (List ℕ)) × (rest : List Token) × (ys : Parts) × (tokens ≡ word w ∷ rest) × IsVariableWord sig c.0 w
      × ReadsItems sig metas vars own others items rest ys
  binder_read (binder {words = words} {w = w} {tokens = rest} {xs = xs} h r) = (w, words, rest, xs, refl, h, r)

  pub slot_read : {vars own : List Variable} {words : List (List ℕ)} {c : CatId} {binds : List ℕ} {items : List Item} {tokens : List Token} {xs : Parts}
      → ReadsItems sig metas vars own words (Slot c binds ∷ items) tokens xs
      → (first : List Token) × (rest : List Token) × (s : SchemeTree) × (ys : Parts) × (tokens ≡ first ++ rest) × (first ≢ [])
      × ReadsTerm sig metas (slot_variables own binds ++ vars) c.0 first s × ReadsItems sig metas vars own words items rest ys
  slot_read (slot {first = first} {rest = rest} {s = s} {xs = xs} e some t r) = (first, rest, s, xs, e, some, t, r)

module _ (f : Charted) where
  -- a term cannot read where none of its cases can
  pub no_case : (c from to : ℕ) → CannotGroup f c from to → CannotName f c from to
      → CannotVary f c from to → CannotProduce f c from to → CannotRead f c from to
  no_case c from to no_group no_name no_variable no_product vars s allowed (group {inner = inner} e r) = no_group vars inner s allowed e r
  no_case c from to no_group no_name no_variable no_product vars s allowed (metavariable {rest = rest} {m = m} {decl = decl} {vs = vs} e found cat r) =
      no_name vars m decl rest vs e found cat r
  no_case c from to no_group no_name no_variable no_product vars s allowed (variable {w = w} e h) =
      no_variable w e (means_allowed f.sig f.base 0 vars w c s allowed h)
  no_case c from to no_group no_name no_variable no_product vars s allowed (production {p = p} {prod = prod} {words = words} {xs = xs} found cat r) =
      no_product p prod found cat vars (variables_of words (binders prod.items)) words xs allowed (binders_allowed f.sig f.base r) r

  -- what a metavariable with its brackets begins and ends with
  pub name_read : (vars : List Variable) (params : List ℕ) (name : List ℕ) (rest : List Token) (vs : Values) (from to : ℕ) → to ≤ length f.tokens
      → slice_range f.tokens from to ≡ word name ∷ rest → ReadsBrackets f.sig f.metas vars params rest vs
      → (slice_get f.tokens from ≡ Some (word name))
      × ((to ≡ from + 1) ⊎ ((slice_get f.tokens (from + 1) ≡ Some (punctuation 91)) × (slice_get f.tokens (to - 1) ≡ Some (punctuation 93))))
  name_read vars params name rest vs from to h e r = (front.1, which (brackets_begin r) (brackets_end r))
    where
      front : (from < to) × (slice_get f.tokens from ≡ Some (word name)) × (slice_range f.tokens (from + 1) to ≡ rest)
      front = range_front f.tokens rest (word name) from to h e

      alone : rest ≡ [] → to ≡ from + 1
      alone none = omega (arith, front.0, ap length (front.2 ∙ none), range_long f.tokens (from + 1) to h)

      which : (rest ≡ []) ⊎ ((more : List Token) × (rest ≡ punctuation 91 ∷ more)) → (rest ≡ []) ⊎ ((some : List Token) × (rest ≡ some ++ punctuation 93 ∷ []))
          → (to ≡ from + 1) ⊎ ((slice_get f.tokens (from + 1) ≡ Some (punctuation 91)) × (slice_get f.tokens (to - 1) ≡ Some (punctuation 93)))
      which (inl none) k = inl (alone none)
      which (inr more) (inl none) = inl (alone none)
      which (inr more) (inr some) =
          inr ((range_front f.tokens more.0 (punctuation 91) (from + 1) to h (front.2 ∙ more.1)).1, (range_last f.tokens some.0 (punctuation 93) (from + 1) to h (front.2 ∙ some.1)).1)

  -- some item cannot take nothing
  pub some_item : (item : Item) (items : List Item) (from to : ℕ) → to ≤ from → to ≤ length f.tokens → CannotTake f (item ∷ items) from to
  some_item item items from to le h vars own words xs allowed own_ok r =
      let none : slice_range f.tokens from to ≡ [] = nothing (slice_range f.tokens from to) (omega (arith, range_long f.tokens from to h)) in
      let never : item ∷ items ≡ [] = items_take r none in cc
    where
      nothing : (us : List Token) → length us ≡ 0 → us ≡ []
      nothing [] e = refl
      nothing (u ∷ us) e = absurd (omega (arith, e))

  -- no item cannot take something
  pub no_item : (from to : ℕ) → from < to → to ≤ length f.tokens → CannotTake f [] from to
  no_item from to lt h vars own words xs allowed own_ok r = empty r refl
    where
      empty : {others : List (List ℕ)} {us : List Token} {ys : Parts} → ReadsItems f.sig f.metas vars own others [] us ys → us ≡ slice_range f.tokens from to → ⊥
      empty all_read e = omega (arith, ap length e, range_long f.tokens from to h)

  -- a terminal, a binder, a slot
  pub no_word : (text : List ℕ) (quoted : Bool) (items : List Item) (t : Token) (from to : ℕ) → to ≤ length f.tokens → slice_get f.tokens from ≡ Some t
      → (IsTerminal text t → ⊥) ⊎ CannotTake f items (from + 1) to → CannotTake f (Word text quoted ∷ items) from to
  no_word text quoted items t from to h at fails vars own words xs allowed own_ok r =
      let k = word_read r in
      let front = range_front f.tokens k.1 k.0 from to h k.3 in
      let found : Some k.0 ≡ Some t = sym front.1 ∙ at in
      let same : k.0 ≡ t = cc in
      which k.2 same k.4 (subst (λ us. ReadsItems f.sig f.metas vars own words items us k.2) (sym front.2) k.5) fails
    where
      which : {u : Token} (ys : Parts) → u ≡ t → IsTerminal text u → ReadsItems f.sig f.metas vars own words items (slice_range f.tokens (from + 1) to) ys
          → (IsTerminal text t → ⊥) ⊎ CannotTake f items (from + 1) to → ⊥
      which ys same is rest (inl fails) = fails (subst (IsTerminal text) same is)
      which ys same is rest (inr fails) = fails vars own words ys allowed own_ok rest

  pub no_binder : (c : CatId) (items : List Item) (t : Token) (from to : ℕ) → to ≤ length f.tokens → slice_get f.tokens from ≡ Some t
      → ((t.0 ≡ 0) × IsVariableWord f.sig c.0 t.1 → ⊥) ⊎ CannotTake f items (from + 1) to → CannotTake f (Binder c ∷ items) from to
  no_binder c items t from to h at fails vars own words xs allowed own_ok r =
      let k = binder_read r in
      let front = range_front f.tokens k.2 (word k.0) from to h k.4 in
      let found : Some (word k.0) ≡ Some t = sym front.1 ∙ at in
      let same : word k.0 ≡ t = cc in
      which k.0 k.1 k.3 same k.5 (subst (λ us. ReadsItems f.sig f.metas vars own k.1 items us k.3) (sym front.2) k.6) fails
    where
      which : (w : List ℕ) (others : List (List ℕ)) (ys : Parts) → word w ≡ t → IsVariableWord f.sig c.0 w
          → ReadsItems f.sig f.metas vars own others items (slice_range f.tokens (from + 1) to) ys
          → ((t.0 ≡ 0) × IsVariableWord f.sig c.0 t.1 → ⊥) ⊎ CannotTake f items (from + 1) to → ⊥
      which w others ys same is rest (inl fails) = fails (subst (λ (u : Token). (u.0 ≡ 0) × IsVariableWord f.sig c.0 u.1) same (refl, is))
      which w others ys same is rest (inr fails) = fails vars own others ys allowed own_ok rest

  pub no_slot : (c : CatId) (binds : List ℕ) (items : List Item) (from to : ℕ) → from < to → to ≤ length f.tokens
      → ((mid : ℕ) → from < mid → mid ≤ to → CannotRead f c.0 from mid ⊎ CannotTake f items mid to) → CannotTake f (Slot c binds ∷ items) from to
  no_slot c binds items from to lt h fails vars own words xs allowed own_ok r =
      let k = slot_read r in
      let parts = range_parts f.tokens k.0 k.1 from to h (omega arith) k.4 in
      let some : 0 < length k.0 = long k.0 k.5 in
      which (from + length k.0) k.2 k.3 (subst (λ us. ReadsTerm f.sig f.metas (slot_variables own binds ++ vars) c.0 us k.2) (sym parts.1) k.6)
      (subst (λ us. ReadsItems f.sig f.metas vars own words items us k.3) (sym parts.2) k.7) (fails (from + length k.0) (omega arith) parts.0)
    where
      long : (us : List Token) → us ≢ [] → 0 < length us
      long [] some = absurd (some refl)
      long (u ∷ us) some = omega arith

      which : (mid : ℕ) (s : SchemeTree) (ys : Parts) → ReadsTerm f.sig f.metas (slot_variables own binds ++ vars) c.0 (slice_range f.tokens from mid) s
          → ReadsItems f.sig f.metas vars own words items (slice_range f.tokens mid to) ys → CannotRead f c.0 from mid ⊎ CannotTake f items mid to → ⊥
      which mid s ys t rest (inl fails) = fails (slot_variables own binds ++ vars) s (under_allowed f.sig f.base own vars binds own_ok allowed) t
      which mid s ys t rest (inr fails) = fails vars own words ys allowed own_ok rest
