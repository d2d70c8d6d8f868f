-- The readings of the items of a judgment's form that have no slot of its context: they are those of a production's items.
use Rattle.std.proofs.Common.{◌≡◌, ◌≢◌, ℕ, List, [], ◌∷◌, ◌++◌, length, refl, ap, ◌∙◌, sym, subst, Option, Some, None, slice_get}
use Rattle.binding_terms.specs.Signature.{Signature, binders, slots}
use Rattle.std.specs.List.{AllByRecursion}
use Rattle.binding_terms.specs.declared.grammar.CatId.{CatId}
use Rattle.binding_terms.specs.declared.grammar.Item.{Item}
use Rattle.binding_terms.specs.declared.grammar.Item.TheVariants.{Word, Slot, Binder}
use Rattle.scheme_terms.specs.SchemeTree.{SchemeTree, Parts, no_parts, part}
use Rattle.scheme_terms.specs.declared.scheme.MetaDecl.{MetaDecl}
use Rattle.rule_schemes.specs.Reading.{Token, Variable, bare, variables_of, variable_at, slot_variables, ReadsItems, all_read, terminal, binder, slot, ReadsForm, form_end, form_terminal, form_context, form_slot}
use Rattle.rule_schemes.specs.Said.{Way, Ways, then_way, way_of_term, item_lengths, ways_of_items, form_lengths, ways_of_form}
use Rattle.term_reader.specs.Ordered.{ReadsTermAt, ReadsItemsAt}

-- parts of these schemes, each of which binds what the slot tells
abbrev pub shaped : List Item → List SchemeTree → Parts
shaped [] ss = no_parts
shaped (Word text quoted ∷ items) ss = shaped items ss
shaped (Binder c ∷ items) ss = shaped items ss
shaped (Slot c binds ∷ items) [] = no_parts
shaped (Slot c binds ∷ items) (s ∷ ss) = part (length binds) s (shaped items ss)

-- no slot of that category
abbrev pub HasNone : Option CatId → List Item → Type 0
HasNone o [] = Unit {0}
HasNone o (Word text quoted ∷ items) = HasNone o items
HasNone o (Binder c ∷ items) = HasNone o items
HasNone o (Slot c binds ∷ items) = (o ≢ Some c) × HasNone o items

pub none_of_none : (items : List Item) → HasNone None items
none_of_none [] = tt
none_of_none (Word text quoted ∷ items) = none_of_none items
none_of_none (Binder c ∷ items) = none_of_none items
none_of_none (Slot c binds ∷ items) = ((λ e. (let never : None ≡ Some c = e in cc)), none_of_none items)

pub none_of_slots : (c : CatId) (items : List Item) → AllByRecursion (λ s. s.cat ≢ c.0) (slots items) → HasNone (Some c) items
none_of_slots c [] h = tt
none_of_slots c (Word text quoted ∷ items) h = none_of_slots c items h
none_of_slots c (Binder b ∷ items) h = none_of_slots c items h
none_of_slots c (Slot d binds ∷ items) h = (other, none_of_slots c items h.1)
  where
    other : Some c ≢ Some d
    other e = let same : c ≡ d = cc in h.0 (ap (λ (x : CatId). x.0) (sym same))

-- a reading of a form, with the lengths and the readings of its slots
abbrev pub ReadsFormAt : Signature → List MetaDecl → List Variable → Option CatId → List Token → Way → List Item → List Token → List ℕ → Ways → List SchemeTree → Type 0
ReadsFormAt sig metas vars ctx front v items ts ls ws ss =
    (r : ReadsForm sig metas vars ctx front items ts ss) × (form_lengths r ≡ ls) × (ways_of_form v r ≡ ws)

pub no_slot_variables : (ns : List ℕ) → slot_variables [] ns ≡ []
no_slot_variables [] = refl
no_slot_variables (n ∷ ns) = ap (λ vs. vs ++ variable_at (slice_get [] n)) (no_slot_variables ns)

no_variables : (words : List (List ℕ)) → variables_of words [] ≡ []
no_variables [] = refl
no_variables (w ∷ words) = refl

module _ (sig : Signature) (metas : List MetaDecl) (ctx : Option CatId) (front : List Token) (v : Way) where
  -- such items write no variable, and read as those of a production
  pub form_items : {vars : List Variable} {items : List Item} {tokens : List Token} {ss : List SchemeTree}
      → (r : ReadsForm sig metas vars ctx front items tokens ss) → HasNone ctx items
      → (xs : Parts) × (ss ≡ bare xs) × ReadsItemsAt sig metas vars [] [] items tokens (form_lengths r) (ways_of_form v r) xs × (binders items ≡ [])
  form_items form_end c = (no_parts, refl, (all_read, refl, refl), refl)
  form_items (form_terminal this r) c = let k = form_items r c in let q = k.2 in (k.0, k.1, (terminal this q.0, q.1, q.2), k.3)
  form_items (form_context {id = id} e split r) c = absurd (c.0 e)
  form_items {vars} (form_slot {id = id} {binds = binds} {first = first} {s = s} other split some t r) c =
      let k = form_items r c.1 in
      let q = k.2 in
      let scope : slot_variables [] binds ++ vars ≡ vars = ap (λ vs. vs ++ vars) (no_slot_variables binds) in
      let under : ReadsTermAt sig metas (slot_variables [] binds ++ vars) id.0 first (way_of_term t) s = subst (λ vs. ReadsTermAt sig metas vs id.0 first (way_of_term t) s) (sym scope) (t, refl) in (
        part (length binds) s k.0,
        ap (λ ss. s ∷ ss) k.1,
        (slot split some under.0 q.0, ap (λ ls. length first ∷ ls) q.1, ap (λ w. then_way w (ways_of_items q.0)) under.1 ∙ ap (then_way (way_of_term t)) q.2),
        k.3,
      )

  pub items_form : {vars own : List Variable} {words : List (List ℕ)} {items : List Item} {tokens : List Token} {xs : Parts}
      → (r : ReadsItems sig metas vars own words items tokens xs) → own ≡ [] → binders items ≡ [] → HasNone ctx items
      → ReadsFormAt sig metas vars ctx front v items tokens (item_lengths r) (ways_of_items r) (bare xs)
  items_form all_read o b c = (form_end, refl, refl)
  items_form (terminal this r) o b c = let k = items_form r o b c in (form_terminal this k.0, k.1, k.2)
  items_form (binder {c = c} h r) o b n = absurd (cc)
  items_form (slot {vars = vars} {own = own} {c = c} {binds = binds} {first = first} {s = s} split some t r) o b n =
      let k = items_form r o b n.1 in
      let scope : slot_variables own binds ++ vars ≡ vars = ap (λ vs. slot_variables vs binds ++ vars) o ∙ ap (λ vs. vs ++ vars) (no_slot_variables binds) in
      let read : ReadsTermAt sig metas vars c.0 first (way_of_term t) s = subst (λ vs. ReadsTermAt sig metas vs c.0 first (way_of_term t) s) scope (t, refl) in
      (form_slot n.0 split some read.0 k.0, ap (λ ls. length first ∷ ls) k.1, ap (λ w. then_way w (ways_of_form v k.0)) read.1 ∙ ap (then_way (way_of_term t)) k.2)

  -- what is made of items that write no variable, as a form
  pub made_form : {vars : List Variable} {words : List (List ℕ)} {items : List Item} {tokens : List Token} {ls : List ℕ} {ws : Ways} {xs : Parts}
      → binders items ≡ [] → HasNone ctx items → ReadsItemsAt sig metas vars (variables_of words (binders items)) words items tokens ls ws xs
      → ReadsFormAt sig metas vars ctx front v items tokens ls ws (bare xs)
  made_form {words = words} b n r =
      let k = items_form r.0 (ap (variables_of words) b ∙ no_variables words) b n in
      (k.0, k.1 ∙ r.1, k.2 ∙ r.2)

-- how many each part binds is told by the items
pub by_items : {sig : Signature} {metas : List MetaDecl} {vars own : List Variable} {words : List (List ℕ)} {items : List Item} {tokens : List Token} {xs : Parts}
    → ReadsItems sig metas vars own words items tokens xs → xs ≡ shaped items (bare xs)
by_items all_read = refl
by_items (terminal this r) = by_items r
by_items (binder h r) = by_items r
by_items (slot {binds = binds} {s = s} split some t r) = ap (part (length binds) s) (by_items r)
