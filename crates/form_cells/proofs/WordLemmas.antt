-- What the first item and the tokens that are left tell of a reading of items, and which words stand at binders.
use Rattle.std.proofs.Common.{◌≡◌, ◌≢◌, ℕ, ◌+◌, ◌<◌, ◌≤◌, List, [], ◌∷◌, ◌++◌, length, map, inl, inr, refl, ap, ◌∙◌, sym, subst, arith, Some, slice_get, Bool, length-append, Result, Ok, Err, IfOk}
use Rattle.std.proofs.lemmas.Bool.{cases_lt}
use Rattle.std.specs.List.{AllByRecursion}
use Rattle.binding_terms.specs.Numbered.{AnyByRecursion}
use Rattle.binding_terms.specs.Signature.{Signature}
use Rattle.binding_terms.specs.declared.grammar.CatId.{CatId}
use Rattle.binding_terms.specs.declared.grammar.Item.{Item}
use Rattle.binding_terms.specs.declared.grammar.Item.TheVariants.{Word, Slot, Binder}
use Rattle.scheme_terms.specs.SchemeTree.{Parts}
use Rattle.scheme_terms.specs.declared.scheme.MetaDecl.{MetaDecl}
use Rattle.rule_schemes.specs.Reading.{Token, word, Variable, bound, IsTerminal, IsVariableWord, ReadsItems, all_read, terminal, binder, slot}
use Rattle.form_cells.specs.Cells.{tokens_of, range_of}
use Rattle.form_cells.specs.Words.{words_of, AreOwn, AreComplete}
use Rattle.form_cells.specs.View.{variable}
use Rattle.form_cells.specs.declared.sheet.Sheet.{Sheet}
use Rattle.form_cells.specs.declared.variables.Var.{Var}
use Rattle.form_cells.proofs.Ranges.{range_begins, range_front}
use Rattle.binding_terms.proofs.Lists.{any_front, any_back}

some_length : (ts : List Token) → ts ≢ [] → 0 < length ts
some_length [] h = absurd (h refl)
some_length (t ∷ ts) h = omega arith

module _ {sig : Signature} {metas : List MetaDecl} where
  -- each item takes a token at least
  pub enough_tokens : {vars own : List Variable} {words : List (List ℕ)} {items : List Item} {ts : List Token} {xs : Parts}
      → ReadsItems sig metas vars own words items ts xs → length items ≤ length ts
  enough_tokens all_read = omega arith
  enough_tokens (terminal h r) = omega (arith, enough_tokens r)
  enough_tokens (binder h r) = omega (arith, enough_tokens r)
  enough_tokens (slot {first = first} {rest = rest} e some t r) =
      omega (arith, enough_tokens r, some_length first some, ap length e, length-append first rest)

  -- where no item is left, no token is
  pub no_token_left : {vars own : List Variable} {words : List (List ℕ)} {items : List Item} {ts : List Token} {xs : Parts}
      → ReadsItems sig metas vars own words items ts xs → items ≡ [] → ts ≡ []
  no_token_left all_read e = refl
  no_token_left (terminal h r) e = absurd (cc)
  no_token_left (binder h r) e = absurd (cc)
  no_token_left (slot f some t r) e = absurd (cc)

  pub no_word_left : {vars own : List Variable} {words : List (List ℕ)} {items : List Item} {ts : List Token} {xs : Parts}
      → ReadsItems sig metas vars own words items ts xs → items ≡ [] → words ≡ []
  no_word_left all_read e = refl
  no_word_left (terminal h r) e = absurd (cc)
  no_word_left (binder h r) e = absurd (cc)
  no_word_left (slot f some t r) e = absurd (cc)

  -- a terminal stands first
  pub terminal_first : {vars own : List Variable} {words : List (List ℕ)} {items more : List Item} {ts : List Token} {xs : Parts} {text : List ℕ} {quoted : Bool}
      → ReadsItems sig metas vars own words items ts xs → items ≡ Word text quoted ∷ more
      → (t : Token) × (rest : List Token) × (ts ≡ t ∷ rest) × IsTerminal text t
  terminal_first all_read e = absurd (cc)
  terminal_first {text = text} (terminal {text = other} {quoted = q} {t = t} {tokens = rest} h r) e =
      let same : other ≡ text = cc in (t, rest, refl, subst (λ x. IsTerminal x t) same h)
  terminal_first (binder h r) e = absurd (cc)
  terminal_first (slot f some t r) e = absurd (cc)

  -- a binder stands first, and its word is the first of the words
  pub binder_first : {vars own : List Variable} {words : List (List ℕ)} {items more : List Item} {ts : List Token} {xs : Parts} {c : CatId}
      → ReadsItems sig metas vars own words items ts xs → items ≡ Binder c ∷ more
      → (w : List ℕ) × (rest : List Token) × (behind : List (List ℕ)) × (ts ≡ word w ∷ rest) × (words ≡ w ∷ behind) × IsVariableWord sig c.0 w
      × ReadsItems sig metas vars own behind more rest xs
  binder_first all_read e = absurd (cc)
  binder_first (terminal h r) e = absurd (cc)
  binder_first {vars} {own} {more = more} {xs = xs} {c = c} (binder {words = behind} {w = w} {c = d} {items = items} {tokens = rest} h r) e =
      let cat : d ≡ c = cc in
      let left : items ≡ more = cc in
      (w, rest, behind, refl, refl, subst (λ (k : CatId). IsVariableWord sig k.0 w) cat h, subst (λ is. ReadsItems sig metas vars own behind is rest xs) left r)
  binder_first (slot f some t r) e = absurd (cc)

  -- behind a terminal and behind a slot the words are the same, over fewer tokens
  pub words_behind_terminal : {vars own : List Variable} {words : List (List ℕ)} {items more : List Item} {ts : List Token} {xs : Parts} {text : List ℕ} {quoted : Bool}
      → ReadsItems sig metas vars own words items ts xs → items ≡ Word text quoted ∷ more
      → (t : Token) × (rest : List Token) × (ts ≡ t ∷ rest) × ReadsItems sig metas vars own words more rest xs
  words_behind_terminal all_read e = absurd (cc)
  words_behind_terminal {vars} {own} {words} {more = more} {xs = xs} (terminal {items = items} {t = t} {tokens = rest} h r) e =
      let left : items ≡ more = cc in (t, rest, refl, subst (λ is. ReadsItems sig metas vars own words is rest xs) left r)
  words_behind_terminal (binder h r) e = absurd (cc)
  words_behind_terminal (slot f some t r) e = absurd (cc)

  pub words_behind_slot : {vars own : List Variable} {words : List (List ℕ)} {items more : List Item} {ts : List Token} {xs : Parts} {c : CatId} {binds : List ℕ}
      → ReadsItems sig metas vars own words items ts xs → items ≡ Slot c binds ∷ more
      → (first : List Token) × (rest : List Token) × (ts ≡ first ++ rest) × (ys : Parts) × ReadsItems sig metas vars own words more rest ys
  words_behind_slot all_read e = absurd (cc)
  words_behind_slot (terminal h r) e = absurd (cc)
  words_behind_slot (binder h r) e = absurd (cc)
  words_behind_slot {vars} {own} {words} {more = more} (slot {items = items} {first = first} {rest = rest} {xs = ys} f some t r) e =
      let left : items ≡ more = cc in (first, rest, f, ys, subst (λ is. ReadsItems sig metas vars own words is rest ys) left r)

-- the words of each reading over tokens from one of these places on are listed
abbrev pub AreCompleteBelow : Sheet → List Item → (from below to : ℕ) → List (List Var) → Type 0
AreCompleteBelow sheet items from below to all =
    (n : ℕ) (vars own : List Variable) (words : List (List ℕ)) (xs : Parts) → from ≤ n → n < below
    → ReadsItems sheet.sig.now sheet.metas.now vars own words items (range_of sheet n to) xs → AnyByRecursion (λ one. words_of one ≡ words) all

module _ (sheet : Sheet) (from to : ℕ) (within : to ≤ length (tokens_of sheet)) where
  -- where no item is left, no word is
  pub none_complete : (items : List Item) → items ≡ [] → AreComplete sheet items from to ([] ∷ [])
  none_complete items none n vars own words xs h k r = inl (sym (no_word_left r none))

  -- in front of a terminal, and of a slot, the words are those behind it
  pub terminal_complete : (text : List ℕ) (quoted : Bool) (items : List Item) (all : List (List Var)) → AreComplete sheet items from to all
      → AreComplete sheet (Word text quoted ∷ items) from to all
  terminal_complete text quoted items all complete n vars own words xs h k r =
      let rest = words_behind_terminal r refl in
      let b = range_begins (tokens_of sheet) n to rest.0 rest.1 k within (sym rest.2) in
      let le : from ≤ n + 1 = omega arith in
      let end : n + 1 ≤ to = omega (arith, b.0) in
      complete (n + 1) vars own words xs le end (subst (λ us. ReadsItems sheet.sig.now sheet.metas.now vars own words items us xs) b.2 rest.3)

  pub slot_complete : (c : CatId) (binds : List ℕ) (items : List Item) (all : List (List Var)) → AreComplete sheet items from to all
      → AreComplete sheet (Slot c binds ∷ items) from to all
  slot_complete c binds items all complete n vars own words xs h k r =
      let rest = words_behind_slot r refl in
      let b = range_front (tokens_of sheet) n to rest.0 rest.1 k within rest.2 in
      let le : from ≤ n + length rest.0 = omega arith in
      complete (n + length rest.0) vars own words rest.3 le b.0
      (subst (λ us. ReadsItems sheet.sig.now sheet.metas.now vars own words items us rest.3) (sym b.2) rest.4)

  -- where a binder stands the words behind it come after its own
  pub binder_more : (c : CatId) (items : List Item) (all more : List (List Var)) (v : Var) (place : ℕ) → from ≤ place → place < to
      → slice_get (tokens_of sheet) place ≡ Some (word v.word.now) → AreCompleteBelow sheet (Binder c ∷ items) from place to all
      → AreComplete sheet items (place + 1) to more → AreCompleteBelow sheet (Binder c ∷ items) from (place + 1) to (all ++ map (λ own. v ∷ own) more)
  binder_more c items all more v place le lt here below complete n vars own words xs h k r = elim (cases_lt n place) [
    | inl less ↦ any_front (λ one. words_of one ≡ words) all (map (λ own. v ∷ own) more) (below n vars own words xs h less r)
    | inr not ↦ (let same : n ≡ place = omega (arith, k) in any_back (λ one. words_of one ≡ words) all (map (λ own. v ∷ own) more) (at (subst (λ m. ReadsItems sheet.sig.now sheet.metas.now vars own words (Binder c ∷ items) (range_of sheet m to) xs) same r)))
  ]
    where
      behind : (ws : List (List ℕ)) (ones : List (List Var)) → AnyByRecursion (λ one. words_of one ≡ ws) ones → AnyByRecursion (λ one. words_of one ≡ v.word.now ∷ ws) (map (λ own. v ∷ own) ones)
      behind ws [] h = h
      behind ws (one ∷ ones) (inl e) = inl (ap (λ us. v.word.now ∷ us) e)
      behind ws (one ∷ ones) (inr h) = inr (behind ws ones h)

      at : ReadsItems sheet.sig.now sheet.metas.now vars own words (Binder c ∷ items) (range_of sheet place to) xs → AnyByRecursion (λ one. words_of one ≡ words) (map (λ own. v ∷ own) more)
      at r =
          let f = binder_first r refl in
          let some : place ≤ to = omega arith in
          let b = range_begins (tokens_of sheet) place to (word f.0) f.1 some within (sym f.3) in
          let two : Some (word f.0) ≡ Some (word v.word.now) = sym b.1 ∙ here in
          let tokens : word f.0 ≡ word v.word.now = cc in
          let same : f.0 ≡ v.word.now = ap (λ (t : Token). t.1) tokens in
          let end : place + 1 ≤ to = omega (arith, b.0) in
          let start : place + 1 ≤ place + 1 = omega arith in
          let listed = complete (place + 1) vars own f.2 xs start end (subst (λ us. ReadsItems sheet.sig.now sheet.metas.now vars own f.2 items us xs) b.2 f.6) in
          subst (λ ws. AnyByRecursion (λ one. words_of one ≡ ws) (map (λ own. v ∷ own) more)) (ap (λ u. u ∷ f.2) (sym same) ∙ sym f.4) (behind f.2 more listed)

  -- where no binder can stand nothing is added
  pub binder_not : (c : CatId) (items : List Item) (all : List (List Var)) (place : ℕ) (t : Token) → place < to → slice_get (tokens_of sheet) place ≡ Some t
      → ((t.0 ≡ 0) × IsVariableWord sheet.sig.now c.0 t.1 → ⊥) → AreCompleteBelow sheet (Binder c ∷ items) from place to all
      → AreCompleteBelow sheet (Binder c ∷ items) from (place + 1) to all
  binder_not c items all place t lt here not below n vars own words xs h k r = elim (cases_lt n place) [
    | inl less ↦ below n vars own words xs h less r
    | inr le ↦ (let same : n ≡ place = omega (arith, k) in absurd (none (subst (λ m. ReadsItems sheet.sig.now sheet.metas.now vars own words (Binder c ∷ items) (range_of sheet m to) xs) same r)))
  ]
    where
      none : ReadsItems sheet.sig.now sheet.metas.now vars own words (Binder c ∷ items) (range_of sheet place to) xs → ⊥
      none r =
          let f = binder_first r refl in
          let some : place ≤ to = omega arith in
          let b = range_begins (tokens_of sheet) place to (word f.0) f.1 some within (sym f.3) in
          let two : Some (word f.0) ≡ Some t = sym b.1 ∙ here in
          let same : word f.0 ≡ t = cc in
          not (ap (λ (u : Token). u.0) (sym same), subst (λ (u : Token). IsVariableWord sheet.sig.now c.0 u.1) same f.5)

  -- all places are those below the end
  pub binder_all : (c : CatId) (items : List Item) (all : List (List Var)) (below : ℕ) → to ≤ below → AreCompleteBelow sheet (Binder c ∷ items) from below to all
      → AreComplete sheet (Binder c ∷ items) from to all
  binder_all c items all below le complete n vars own words xs h k r =
      let f = binder_first r refl in
      let b = range_begins (tokens_of sheet) n to (word f.0) f.1 k within (sym f.3) in
      let lt : n < below = omega (arith, b.0) in
      complete n vars own words xs h lt r

-- words of their own, with one more before each
pub own_more : (cats : List ℕ) (c : ℕ) (v : Var) (more : List (List Var)) → variable v ≡ record { word = v.word.now; cat = c; means = bound } → AllByRecursion (AreOwn cats) more
    → AllByRecursion (AreOwn (c ∷ cats)) (map (λ own. v ∷ own) more)
own_more cats c v [] is h = tt
own_more cats c v (one ∷ more) is h = (ap (λ x. x ∷ map variable one) is ∙ ap (λ xs. record { word = v.word.now; cat = c; means = bound } ∷ xs) h.0, own_more cats c v more is h.1)

pub if_ok : {T E : Type 0} (r : Result T E) (P Q : T → Type 0) → ((x : T) → P x → Q x) → IfOk r P → IfOk r Q
if_ok (Ok x) P Q f h = f x h
if_ok (Err e) P Q f h = tt
