-- The first readings of rows of items.
use Rattle.std.proofs.Common.{◌≡◌, ◌≢◌, ℕ, ◌+◌, ◌-◌, ◌<◌, ◌≤◌, Bool, List, [], ◌∷◌, ◌++◌, length, inl, inr, refl, ap, ◌∙◌, sym, subst, arith, length-append, length-drop, drop, get_or, slice_range, true, false, true≢false, if◌then◌else◌}
use Rattle.std.proofs.lemmas.Bool.{cases_lt}
use Rattle.std.proofs.lemmas.List.{length-map, drop_all}
use Rattle.binding_terms.specs.Signature.{Signature, IsSingle}
use Rattle.binding_terms.specs.declared.grammar.CatId.{CatId}
use Rattle.binding_terms.specs.declared.grammar.Item.{Item}
use Rattle.binding_terms.specs.declared.grammar.Item.TheVariants.{Word, Slot, Binder}
use Rattle.scheme_terms.specs.SchemeTree.{SchemeTree, con, Parts, no_parts}
use Rattle.scheme_terms.specs.declared.scheme.MetaDecl.{MetaDecl}
use Rattle.rule_schemes.specs.Reading.{Token, word, Variable, IsTerminal, IsVariableWord, slot_variables, ReadsItems, all_read, terminal, binder, slot}
use Rattle.rule_schemes.specs.Said.{Way, way, no_ways, IsBefore, item_lengths, ways_of_items}
use Rattle.ordered_readings.specs.AnswerView.{count, IsRow}
use Rattle.ordered_readings.specs.Names.{NamesApart}
use Rattle.ordered_readings.specs.Cells.{ReadsTermAt, ReadsItemsAt, TakesFirst, TakesFewer}
use Rattle.ordered_readings.specs.FirstTwo.{AreFirst}
use Rattle.ordered_readings.proofs.FirstTwo.{first_one}
use Rattle.ordered_readings.proofs.CellLemmas.{slot_same, enough_law}
use Rattle.ordered_readings.proofs.PairLemmas.{HasParts}
use Rattle.ordered_readings.proofs.SamePlace.{row_law}
use Rattle.ordered_readings.proofs.Transitive.{before_transitive}
use Rattle.form_cells.proofs.Ranges.{range_length, range_none, range_two, range_some}
use Rattle.form_cells.specs.Words.{words_of}
use Rattle.form_cells.specs.declared.variables.Var.{Var}
use Rattle.form_cells.proofs.WordLemmas.{enough_tokens}
use Rattle.form_cells.proofs.Joining.{AreOrdered, IsJoined, IsProductOf, lengths_first, product_first, same_first, no_first}

module _ {sig : Signature} {metas : List MetaDecl} where
  item_row : {vars own : List Variable} {words : List (List ℕ)} {items : List Item} {ts : List Token} {xs : Parts} → (r : ReadsItems sig metas vars own words items ts xs)
      → length (item_lengths r) ≡ count (ways_of_items r)
  item_row all_read = refl
  item_row (terminal h r) = item_row r
  item_row (binder h r) = item_row r
  item_row (slot e some t r) = omega (arith, item_row r)

  -- what is left when no item is
  row_end : {vars own : List Variable} {words : List (List ℕ)} {items : List Item} {ts : List Token} {xs : Parts} → (r : ReadsItems sig metas vars own words items ts xs)
      → items ≡ [] → (ts ≡ []) × (words ≡ []) × (item_lengths r ≡ []) × (ways_of_items r ≡ no_ways) × (xs ≡ no_parts)
  row_end all_read e = (refl, refl, refl, refl, refl)
  row_end (terminal h r) e = absurd (cc)
  row_end (binder h r) e = absurd (cc)
  row_end (slot f some t r) e = absurd (cc)

  after_terminal : {vars own : List Variable} {words : List (List ℕ)} {items more : List Item} {ts : List Token} {xs : Parts} {text : List ℕ} {quoted : Bool}
      → (r : ReadsItems sig metas vars own words items ts xs) → items ≡ Word text quoted ∷ more
      → (t : Token) × (rest : List Token) × (ts ≡ t ∷ rest) × IsTerminal text t × (q : ReadsItems sig metas vars own words more rest xs)
      × (item_lengths r ≡ item_lengths q) × (ways_of_items r ≡ ways_of_items q)
  after_terminal all_read e = absurd (cc)
  after_terminal {vars} {own} {words} {more = more} {xs = xs} {text = text} (terminal {text = other} {items = items} {t = t} {tokens = rest} h r) e =
      let left : items ≡ more = cc in
      let same : other ≡ text = cc in
      let q = subst (λ is. (q : ReadsItems sig metas vars own words is rest xs) × (item_lengths r ≡ item_lengths q) × (ways_of_items r ≡ ways_of_items q)) left (r, refl, refl) in
      (t, rest, refl, subst (λ x. IsTerminal x t) same h, q.0, q.1, q.2)
  after_terminal (binder h r) e = absurd (cc)
  after_terminal (slot f some t r) e = absurd (cc)

  after_binder : {vars own : List Variable} {words : List (List ℕ)} {items more : List Item} {ts : List Token} {xs : Parts} {c : CatId}
      → (r : ReadsItems sig metas vars own words items ts xs) → items ≡ Binder c ∷ more
      → (w : List ℕ) × (rest : List Token) × (behind : List (List ℕ)) × (ts ≡ word w ∷ rest) × (words ≡ w ∷ behind) × IsVariableWord sig c.0 w
      × (q : ReadsItems sig metas vars own behind more rest xs) × (item_lengths r ≡ item_lengths q) × (ways_of_items r ≡ ways_of_items q)
  after_binder all_read e = absurd (cc)
  after_binder (terminal h r) e = absurd (cc)
  after_binder {vars} {own} {more = more} {xs = xs} {c = c} (binder {words = behind} {w = w} {c = d} {items = items} {tokens = rest} h r) e =
      let cat : d ≡ c = cc in
      let left : items ≡ more = cc in
      let q = subst (λ is. (q : ReadsItems sig metas vars own behind is rest xs) × (item_lengths r ≡ item_lengths q) × (ways_of_items r ≡ ways_of_items q)) left (r, refl, refl) in
      (w, rest, behind, refl, refl, subst (λ (k : CatId). IsVariableWord sig k.0 w) cat h, q.0, q.1, q.2)
  after_binder (slot f some t r) e = absurd (cc)

  after_slot : {vars own : List Variable} {words : List (List ℕ)} {items more : List Item} {ts : List Token} {xs : Parts} {c : CatId} {binds : List ℕ}
      → (r : ReadsItems sig metas vars own words items ts xs) → items ≡ Slot c binds ∷ more
      → (first : List Token) × (rest : List Token) × (ts ≡ first ++ rest) × (first ≢ []) × (ls : List ℕ) × (item_lengths r ≡ length first ∷ ls)
  after_slot all_read e = absurd (cc)
  after_slot (terminal h r) e = absurd (cc)
  after_slot (binder h r) e = absurd (cc)
  after_slot (slot {first = first} {rest = rest} f some t r) e = (first, rest, f, some, item_lengths r, refl)

module _ (sig : Signature) (metas : List MetaDecl) (vars own : List Variable) (words : List (List ℕ)) (alternative p : ℕ) where
  abbrev Row : List Item → List Token → Way → SchemeTree → Type 0
  Row items ts = ReadsItemsAt sig metas vars own words items alternative p ts

  rows_ordered : (items : List Item) (ts : List Token) → NamesApart metas → AreOrdered (Row items ts)
  rows_ordered items ts apart v w s t g h = row_law sig metas vars own words items alternative p ts v w s t apart g h

  -- with no item left
  pub end_not : (items : List Item) (ts : List Token) → items ≡ [] → ((ts ≡ []) × (words ≡ []) → ⊥) → AreFirst IsBefore (ReadsItemsAt sig metas vars own words items alternative p ts) []
  end_not items ts none not = no_first _ (λ w s h. (let e = row_end h.1 none in not (e.0, e.1)))

  pub none_short : (items : List Item) (ts : List Token) → length ts < length items → AreFirst IsBefore (ReadsItemsAt sig metas vars own words items alternative p ts) []
  none_short items ts short = no_first _ (λ w s h. absurd (omega (arith, short, enough_tokens h.1)))

  pub terminal_not : (text : List ℕ) (quoted : Bool) (items : List Item) (ts : List Token) → ((t : Token) (rest : List Token) → ts ≡ t ∷ rest → IsTerminal text t → ⊥)
      → AreFirst IsBefore (ReadsItemsAt sig metas vars own words (Word text quoted ∷ items) alternative p ts) []
  terminal_not text quoted items ts not = no_first _ (λ w s h. (let e = after_terminal h.1 refl in not e.0 e.1 e.2 e.3))

  pub terminal_read : (text : List ℕ) (quoted : Bool) (items : List Item) (t : Token) (ts : List Token) (xs : List (Way × SchemeTree)) → IsTerminal text t
      → AreFirst IsBefore (ReadsItemsAt sig metas vars own words items alternative p ts) xs
      → AreFirst IsBefore (ReadsItemsAt sig metas vars own words (Word text quoted ∷ items) alternative p (t ∷ ts)) xs
  terminal_read text quoted items t ts xs is f = same_first (Row items ts) (Row (Word text quoted ∷ items) (t ∷ ts)) xs (λ w s. (there w s, back w s)) f
    where
      there : (w : Way) (s : SchemeTree) → ReadsItemsAt sig metas vars own words items alternative p ts w s
          → ReadsItemsAt sig metas vars own words (Word text quoted ∷ items) alternative p (t ∷ ts) w s
      there w s (ys, r, place, says) = (ys, terminal is r, place, says)

      back : (w : Way) (s : SchemeTree) → ReadsItemsAt sig metas vars own words (Word text quoted ∷ items) alternative p (t ∷ ts) w s
          → ReadsItemsAt sig metas vars own words items alternative p ts w s
      back w s (ys, r, place, says) =
          let e = after_terminal r refl in
          let two : t ∷ ts ≡ e.0 ∷ e.1 = e.2 in
          let same : e.1 ≡ ts = cc in
          subst (λ us. ReadsItemsAt sig metas vars own words items alternative p us w s) same
          (ys, e.4, place ∙ ap (λ ls. way alternative ls (ways_of_items r)) e.5 ∙ ap (way alternative (item_lengths e.4)) e.6, says)

  pub binder_not : (c : CatId) (items : List Item) (ts : List Token)
      → ((w : List ℕ) (rest : List Token) (behind : List (List ℕ)) → ts ≡ word w ∷ rest → words ≡ w ∷ behind → IsVariableWord sig c.0 w → ⊥)
      → AreFirst IsBefore (ReadsItemsAt sig metas vars own words (Binder c ∷ items) alternative p ts) []
  binder_not c items ts not = no_first _ (λ w s h. (let e = after_binder h.1 refl in not e.0 e.1 e.2 e.3 e.4 e.5))

  module _ (c : CatId) (binds : List ℕ) (items : List Item) where
    slot_part : (rest : List Token) (w : Way) (s : SchemeTree) → ReadsItemsAt sig metas vars own words items alternative p rest w s → HasParts s
    slot_part rest w s h = subst HasParts (sym h.3) tt

    slot_row : (rest : List Token) (w : Way) (s : SchemeTree) → ReadsItemsAt sig metas vars own words items alternative p rest w s → IsRow w
    slot_row rest w s h = subst IsRow (sym h.2) (item_row h.1)

    pub slot_product : (first rest : List Token) → NamesApart metas → first ≢ [] → (xs ys zs : List (Way × SchemeTree))
        → AreFirst IsBefore (ReadsTermAt sig metas (slot_variables own binds ++ vars) c.0 first) xs
        → AreFirst IsBefore (ReadsItemsAt sig metas vars own words items alternative p rest) ys → IsProductOf (length first) (length binds) xs ys zs
        → AreFirst IsBefore (λ w s. ReadsItemsAt sig metas vars own words (Slot c binds ∷ items) alternative p (first ++ rest) w s × TakesFirst (length first) w) zs
    slot_product first rest apart some xs ys zs f g h =
        product_first (length first) (length binds) (ReadsTermAt sig metas (slot_variables own binds ++ vars) c.0 first) (Row items rest)
        (λ w s. Row (Slot c binds ∷ items) (first ++ rest) w s × TakesFirst (length first) w) (Row (Slot c binds ∷ items) (first ++ rest))
        (slot_part rest) (slot_row rest) (rows_ordered (Slot c binds ∷ items) (first ++ rest) apart) (λ w s k. k.0)
        (λ w s. slot_same sig metas vars own words c binds items alternative p first rest some w s) xs ys zs f g h

    -- no reading with a slot of that length, where it or what stands behind it has none
    pub slot_none : (first rest : List Token) → first ≢ []
        → ((v w : Way) (a s : SchemeTree) → ReadsTermAt sig metas (slot_variables own binds ++ vars) c.0 first v a → ReadsItemsAt sig metas vars own words items alternative p rest w s → ⊥)
        → (w : Way) (s : SchemeTree) → ReadsItemsAt sig metas vars own words (Slot c binds ∷ items) alternative p (first ++ rest) w s × TakesFirst (length first) w → ⊥
    slot_none first rest some none w s h =
        let r = (slot_same sig metas vars own words c binds items alternative p first rest some w s).1 h in none r.0 r.2 r.1 r.3 r.4 r.5

    pub slot_more : (ts : List Token) → NamesApart metas → (n k : ℕ) → n + 1 ≡ k → (xs ys zs : List (Way × SchemeTree))
        → AreFirst IsBefore (λ w s. ReadsItemsAt sig metas vars own words (Slot c binds ∷ items) alternative p ts w s × TakesFewer n w) xs
        → AreFirst IsBefore (λ w s. ReadsItemsAt sig metas vars own words (Slot c binds ∷ items) alternative p ts w s × TakesFirst n w) ys → IsJoined xs ys zs
        → AreFirst IsBefore (λ w s. ReadsItemsAt sig metas vars own words (Slot c binds ∷ items) alternative p ts w s × TakesFewer k w) zs
    slot_more ts apart n k e xs ys zs f g h =
        subst (λ j. AreFirst IsBefore (λ w s. ReadsItemsAt sig metas vars own words (Slot c binds ∷ items) alternative p ts w s × TakesFewer j w) zs) e
        (lengths_first (Row (Slot c binds ∷ items) ts) n xs ys zs (rows_ordered (Slot c binds ∷ items) ts apart) f g h)

    some_long : (ts : List Token) → ts ≢ [] → 0 < length ts
    some_long [] h = absurd (h refl)
    some_long (t ∷ ts) h = omega arith

    pub no_slot : (ts : List Token) → AreFirst IsBefore (λ w s. ReadsItemsAt sig metas vars own words (Slot c binds ∷ items) alternative p ts w s × TakesFewer 1 w) []
    no_slot ts = no_first _ (λ w s h.
        (let e = after_slot h.0.1 refl in
        let long = some_long e.0 e.3 in
        let short : length e.0 < 1 = subst (TakesFewer 1) (h.0.2 ∙ ap (λ ls. way alternative ls (ways_of_items h.0.1)) e.5) h.1 in
        omega (arith, long, short)))

    pub slot_lengths : (ts : List Token) (n : ℕ) (xs : List (Way × SchemeTree)) → length ts < n
        → AreFirst IsBefore (λ w s. ReadsItemsAt sig metas vars own words (Slot c binds ∷ items) alternative p ts w s × TakesFewer n w) xs
        → AreFirst IsBefore (ReadsItemsAt sig metas vars own words (Slot c binds ∷ items) alternative p ts) xs
    slot_lengths ts n xs le f = same_first _ (Row (Slot c binds ∷ items) ts) xs (λ w s. (λ h. h.0, λ h. (h, fewer w s h))) f
      where
        fewer : (w : Way) (s : SchemeTree) → ReadsItemsAt sig metas vars own words (Slot c binds ∷ items) alternative p ts w s → TakesFewer n w
        fewer w s h =
            let e = after_slot h.1 refl in
            let l = ap length e.2 in
            let lt : length e.0 < n = omega (arith, l, length-append e.0 e.1) in
            subst (TakesFewer n) (sym (h.2 ∙ ap (λ ls. way alternative ls (ways_of_items h.1)) e.5)) lt

    -- two readings with a shorter slot are enough
    pub slot_enough : (ts : List Token) (n : ℕ) (xs : List (Way × SchemeTree)) → length xs ≡ 2
        → AreFirst IsBefore (λ w s. ReadsItemsAt sig metas vars own words (Slot c binds ∷ items) alternative p ts w s × TakesFewer n w) xs
        → AreFirst IsBefore (ReadsItemsAt sig metas vars own words (Slot c binds ∷ items) alternative p ts) xs
    slot_enough ts n [] two f = absurd (omega (arith, two))
    slot_enough ts n (a ∷ []) two f = absurd (omega (arith, two))
    slot_enough ts n (a ∷ (b ∷ (d ∷ xs))) two f = absurd (f.in_order)
    slot_enough ts n (a ∷ (b ∷ [])) two f =
        slot_lengths ts (n + (length ts + 1)) (a ∷ (b ∷ [])) (omega arith)
        (enough_law sig metas vars own words (Slot c binds ∷ items) alternative p n (n + (length ts + 1)) ts a b (omega arith) f)

module _ (sig : Signature) (metas : List MetaDecl) (vars own : List Variable) (alternative p : ℕ) where
  pub end_read : (items : List Item) (words : List (List ℕ)) (ts : List Token) → items ≡ [] → ts ≡ [] → words ≡ []
      → AreFirst IsBefore (ReadsItemsAt sig metas vars own words items alternative p ts) ((way alternative [] no_ways, con p no_parts) ∷ [])
  end_read items words ts e f g =
      let here = first_one IsBefore before_transitive (ReadsItemsAt sig metas vars own [] [] alternative p []) (way alternative [] no_ways) (con p no_parts) (no_parts, all_read, refl, refl) only in
      let last : List (Way × SchemeTree) = (way alternative [] no_ways, con p no_parts) ∷ [] in
      subst (λ is. AreFirst IsBefore (ReadsItemsAt sig metas vars own words is alternative p ts) last) (sym e)
      (subst (λ us. AreFirst IsBefore (ReadsItemsAt sig metas vars own words [] alternative p us) last) (sym f)
      (subst (λ ws. AreFirst IsBefore (ReadsItemsAt sig metas vars own ws [] alternative p []) last) (sym g) here))
    where
      only : (w : Way) (s : SchemeTree) → ReadsItemsAt sig metas vars own [] [] alternative p [] w s → (way alternative [] no_ways ≡ w) × (con p no_parts ≡ s)
      only w s (ys, r, place, says) =
          let k = row_end r refl in
          (sym (place ∙ ap (λ ls. way alternative ls (ways_of_items r)) k.2 ∙ ap (way alternative []) k.3), sym (says ∙ ap (con p) k.4))

  pub end_told : (items : List Item) (words : List (List ℕ)) (ts : List Token) (all_taken : Bool) → items ≡ [] → (all_taken ≡ true → (ts ≡ []) × (words ≡ []))
      → ((ts ≡ []) × (words ≡ []) → all_taken ≡ true)
      → AreFirst IsBefore (ReadsItemsAt sig metas vars own words items alternative p ts) (if all_taken then (way alternative [] no_ways, con p no_parts) ∷ [] else [])
  end_told items words ts true e f g = end_read items words ts e (f refl).0 (f refl).1
  end_told items words ts false e f g = end_not sig metas vars own words alternative p items ts e (λ h. true≢false (sym (g h)))

  pub binder_read : (c : CatId) (items : List Item) (w : List ℕ) (words : List (List ℕ)) (ts : List Token) (xs : List (Way × SchemeTree)) → IsVariableWord sig c.0 w
      → AreFirst IsBefore (ReadsItemsAt sig metas vars own words items alternative p ts) xs
      → AreFirst IsBefore (ReadsItemsAt sig metas vars own (w ∷ words) (Binder c ∷ items) alternative p (word w ∷ ts)) xs
  binder_read c items x words ts xs is f =
      same_first (ReadsItemsAt sig metas vars own words items alternative p ts) (ReadsItemsAt sig metas vars own (x ∷ words) (Binder c ∷ items) alternative p (word x ∷ ts)) xs
      (λ w s. (there w s, back w s)) f
    where
      there : (w : Way) (s : SchemeTree) → ReadsItemsAt sig metas vars own words items alternative p ts w s
          → ReadsItemsAt sig metas vars own (x ∷ words) (Binder c ∷ items) alternative p (word x ∷ ts) w s
      there w s (ys, r, place, says) = (ys, binder is r, place, says)

      back : (w : Way) (s : SchemeTree) → ReadsItemsAt sig metas vars own (x ∷ words) (Binder c ∷ items) alternative p (word x ∷ ts) w s
          → ReadsItemsAt sig metas vars own words items alternative p ts w s
      back w s (ys, r, place, says) =
          let e = after_binder r refl in
          let two : word x ∷ ts ≡ word e.0 ∷ e.1 = e.3 in
          let same : e.1 ≡ ts = cc in
          let all : x ∷ words ≡ e.0 ∷ e.2 = e.4 in
          let left : e.2 ≡ words = cc in
          subst (λ us. ReadsItemsAt sig metas vars own words items alternative p us w s) same
          (subst (λ ws. ReadsItemsAt sig metas vars own ws items alternative p e.1 w s) left
          (ys, e.6, place ∙ ap (λ ls. way alternative ls (ways_of_items r)) e.7 ∙ ap (way alternative (item_lengths e.6)) e.8, says))

module _ (sig : Signature) (metas : List MetaDecl) (vars own : List Variable) (words : List (List ℕ)) (alternative p : ℕ) (c : CatId) (binds : List ℕ) (items : List Item)
    (ts : List Token) (n end to : ℕ) (lt : n < end) (le : end ≤ to) (within : to ≤ length ts)
  where
    some : slice_range ts n end ≢ []
    some = range_some ts n end lt (omega arith)

    long : length (slice_range ts n end) ≡ end - n
    long = range_length ts n end (omega arith) (omega arith)

    two : slice_range ts n to ≡ slice_range ts n end ++ slice_range ts end to
    two = range_two ts n end to (omega arith) le within

    pub slot_in_range : NamesApart metas → (xs ys zs : List (Way × SchemeTree))
        → AreFirst IsBefore (ReadsTermAt sig metas (slot_variables own binds ++ vars) c.0 (slice_range ts n end)) xs
        → AreFirst IsBefore (ReadsItemsAt sig metas vars own words items alternative p (slice_range ts end to)) ys → IsProductOf (end - n) (length binds) xs ys zs
        → AreFirst IsBefore (λ w s. ReadsItemsAt sig metas vars own words (Slot c binds ∷ items) alternative p (slice_range ts n to) w s × TakesFirst (end - n) w) zs
    slot_in_range apart xs ys zs f g h =
        subst (λ us. AreFirst IsBefore (λ w s. ReadsItemsAt sig metas vars own words (Slot c binds ∷ items) alternative p us w s × TakesFirst (end - n) w) zs) (sym two)
        (subst (λ k. AreFirst IsBefore (λ w s. ReadsItemsAt sig metas vars own words (Slot c binds ∷ items) alternative p (slice_range ts n end ++ slice_range ts end to) w s × TakesFirst k w) zs) long
        (slot_product sig metas vars own words alternative p c binds items (slice_range ts n end) (slice_range ts end to) apart some xs ys zs f g
        (subst (λ k. IsProductOf k (length binds) xs ys zs) (sym long) h)))

    none_in_range : ((v w : Way) (a s : SchemeTree) → ReadsTermAt sig metas (slot_variables own binds ++ vars) c.0 (slice_range ts n end) v a
        → ReadsItemsAt sig metas vars own words items alternative p (slice_range ts end to) w s → ⊥)
        → AreFirst IsBefore (λ w s. ReadsItemsAt sig metas vars own words (Slot c binds ∷ items) alternative p (slice_range ts n to) w s × TakesFirst (end - n) w) []
    none_in_range none =
        subst (λ us. AreFirst IsBefore (λ w s. ReadsItemsAt sig metas vars own words (Slot c binds ∷ items) alternative p us w s × TakesFirst (end - n) w) []) (sym two)
        (subst (λ k. AreFirst IsBefore (λ w s. ReadsItemsAt sig metas vars own words (Slot c binds ∷ items) alternative p (slice_range ts n end ++ slice_range ts end to) w s × TakesFirst k w) []) long
        (no_first _ (slot_none sig metas vars own words alternative p c binds items (slice_range ts n end) (slice_range ts end to) some none)))

    pub no_slot_read : ((w : Way) (s : SchemeTree) → ReadsTermAt sig metas (slot_variables own binds ++ vars) c.0 (slice_range ts n end) w s → ⊥)
        → AreFirst IsBefore (λ w s. ReadsItemsAt sig metas vars own words (Slot c binds ∷ items) alternative p (slice_range ts n to) w s × TakesFirst (end - n) w) []
    no_slot_read none = none_in_range (λ v w a s t r. none v a t)

    pub no_rest_read : ((xs : Parts) → ReadsItems sig metas vars own words items (slice_range ts end to) xs → ⊥)
        → AreFirst IsBefore (λ w s. ReadsItemsAt sig metas vars own words (Slot c binds ∷ items) alternative p (slice_range ts n to) w s × TakesFirst (end - n) w) []
    no_rest_read none = none_in_range (λ v w a s t r. none r.0 r.1)

pub no_binds : (own vars : List Variable) (binds : List ℕ) → length binds ≡ 0 → slot_variables own binds ++ vars ≡ vars
no_binds own vars [] e = refl
no_binds own vars (n ∷ ns) e = absurd (omega (arith, e))

pub two_or_more : (n k : ℕ) → k ≡ 1 → k ≤ n → (n ≡ 1 → ⊥) → 2 ≤ n
two_or_more n k e le not = elim (cases_lt n 2) [ inl lt ↦ absurd (not (omega (arith, lt, e))) | inr ge ↦ ge ]

pub range_same : (ts : List Token) (n m : ℕ) → n ≡ m → m ≤ length ts → slice_range ts n m ≡ []
range_same ts n m e le = subst (λ k. slice_range ts n k ≡ []) e (range_none ts n (omega (arith, e, le)))

pub no_words_left : (n : ℕ) (words : List Var) → n ≡ length words → words_of (drop n words) ≡ []
no_words_left n words e = ap words_of (drop_all n words (omega (arith, e)))

pub words_left : (n : ℕ) (words : List Var) → n ≤ length words → words_of (drop n words) ≡ [] → n ≡ length words
words_left n words le e = let l = ap length e in omega (arith, l, length-map (drop n words) (λ (v : Var). v.word.now), length-drop n words)

-- one item that is a slot
pub single_slot : (items : List Item) (n : ℕ) (item : Item) {c : CatId} {binds : List ℕ} → n ≡ 0 → length items ≡ 1 → get_or items n item ≡ Slot c binds → IsSingle items
single_slot [] n item e one is = absurd (omega (arith, one))
single_slot (i ∷ (j ∷ items)) n item e one is = absurd (omega (arith, one))
single_slot (i ∷ []) n item e one is = subst (λ (x : Item). IsSingle (x ∷ [])) (sym is ∙ ap (λ k. get_or (i ∷ []) k item) e) tt
