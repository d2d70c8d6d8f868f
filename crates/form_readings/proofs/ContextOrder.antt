-- Two readings of the same tokens as a context: one is before the other, or both are at one place and say the same.
use Rattle.std.proofs.Common.{◌≡◌, ◌≢◌, ◌⊎◌, ℕ, zero, suc, ◌+◌, ◌<◌, IsTrue, List, [], ◌∷◌, ◌++◌, length, drop, inl, inr, refl, ap, ◌∙◌, sym, subst, arith, Option, Some, None, MatchOption, slice_get}
use Rattle.std.specs.List.{AllByRecursion, list_all}
use Rattle.std.proofs.lemmas.Option.{slice_get_within}
use Rattle.binding_terms.specs.Signature.{Signature, binders, is_empty_form, is_word}
use Rattle.binding_terms.specs.declared.grammar.CatId.{CatId}
use Rattle.binding_terms.specs.declared.grammar.Item.{Item}
use Rattle.binding_terms.specs.declared.grammar.Item.TheVariants.{Slot}
use Rattle.binding_terms.specs.declared.grammar.Prod.{Prod}
use Rattle.binding_terms.proofs.Lists.{match_some, same_fronts}
use Rattle.scheme_terms.specs.SchemeTree.{Parts}
use Rattle.scheme_terms.specs.Forms.{SchemeContext, KnownVariable}
use Rattle.scheme_terms.specs.declared.scheme.MetaDecl.{MetaDecl}
use Rattle.scheme_terms.specs.declared.scheme.Root.TheVariants.{Empty, Whole}
use Rattle.rule_schemes.specs.Reading.{Token, word, Variable, bound, entry_of, ReadingScope, known_words, bare, IsEntryForm, IsKnownNumber, ReadsContext, root, empty_form, entry, known_entry, head_entry}
use Rattle.rule_schemes.specs.Said.{Way, Ways, no_ways, then_way, IsBefore, item_lengths, ways_of_items, way_of_context}
use Rattle.ordered_readings.specs.Names.{NamesApart}
use Rattle.ordered_readings.proofs.Comparing.{Compared, alternative_tells, length_tells, no_slots, items_compare}
use Rattle.ordered_readings.proofs.SamePlace.{alternative, lengths, inner, same_words, same_items}
use Rattle.form_readings.specs.Forms.{KnownsApart}
use Rattle.form_readings.specs.Laws.{ContextLaw}

one_of_one : (b d : ℕ) → b ∷ [] ≡ d ∷ [] → b ≡ d
one_of_one b d e = cc

same_cat : (i j : CatId) (c : ℕ) → i.0 ≡ c → j.0 ≡ c → i ≡ j
same_cat i j c e f = ap (λ n. record { 0 = n }) (e ∙ sym f)

-- one production has the items of one entry
pub same_entry : (sig : Signature) (c p o b d : ℕ) (items jtems : List Item) → p ≡ o → IsEntryForm sig c p b items → IsEntryForm sig c o d jtems → (items ≡ jtems) × (b ≡ d)
same_entry sig c p o b d items jtems e f g =
    let q = match_some (slice_get sig.prods p) _ f in
    let k = match_some (slice_get sig.prods o) _ g in
    let both : Some q.0 ≡ Some k.0 = sym q.1 ∙ ap (slice_get sig.prods) e ∙ k.1 in
    let same : q.0 ≡ k.0 = cc in
    let all = sym (q.2.1).2 ∙ ap (λ (x : Prod). x.items) same ∙ (k.2.1).2 in
    let rest : items ≡ jtems = ap (drop 1) all in
    (rest, one_of_one b d (sym q.2.2 ∙ ap binders rest ∙ k.2.2))

no_slot_alone : (id : CatId) (binds : List ℕ) (items jtems : List Item) → jtems ≡ Slot id binds ∷ items → IsTrue (list_all is_word jtems) → ⊥
no_slot_alone id binds items jtems e h = let never : IsTrue (list_all is_word (Slot id binds ∷ items)) = subst (λ x. IsTrue (list_all is_word x)) e h in cc

-- an empty form is of no entry's production
pub empty_is_no_entry : (sig : Signature) (c p o b : ℕ) (prod : Prod) (items : List Item) → p ≡ o → slice_get sig.prods p ≡ Some prod → IsTrue (is_empty_form prod)
    → IsEntryForm sig c o b items → ⊥
empty_is_no_entry sig c p o b prod items e found is f =
    let q = match_some (slice_get sig.prods o) _ f in
    let both : Some prod ≡ Some q.0 = sym found ∙ ap (slice_get sig.prods) e ∙ q.1 in
    let same : prod ≡ q.0 = cc in
    no_slot_alone (q.2.1).0 (q.2.1).1 items prod.items (ap (λ (x : Prod). x.items) same ∙ (q.2.1).2) is

entry_within : (sig : Signature) (c p b : ℕ) (items : List Item) → IsEntryForm sig c p b items → p < length sig.prods
entry_within sig c p b items f = let q = match_some (slice_get sig.prods p) _ f in slice_get_within sig.prods p q.0 q.1

number_of : (p o : ℕ) → 1 + p ≡ 1 + o → p ≡ o
number_of p o h = omega (arith, h)

known_number_of : (n p o : ℕ) → 1 + (n + p) ≡ 1 + (n + o) → p ≡ o
known_number_of n p o h = omega (arith, h)

module _ {sig : Signature} {scope : ReadingScope} {metas : List MetaDecl} {c : ℕ} where
  pub contexts_compare : {ts rs : List Token} {a d : SchemeContext} {vs us : List Variable} {ks ls : List KnownVariable}
      → (r : ReadsContext sig scope metas c ts a vs ks) (q : ReadsContext sig scope metas c rs d us ls) → ts ≡ rs
      → Compared IsBefore (way_of_context r) (way_of_context q)
  contexts_compare (root f k) (root g l) e = inr (inl refl)
  contexts_compare (root f k) (empty_form o g m l h q) e = inl (inl (omega arith))
  contexts_compare (root f k) (entry o g s x q) e = inl (inl (omega arith))
  contexts_compare (root f k) (known_entry o b n g t h m l q j w same) e = inl (inl (omega arith))
  contexts_compare (root f k) (head_entry g t h m l q j) e = inl (inl (omega arith))
  contexts_compare (empty_form p f k i h r) (root g l) e = inr (inr (inl (omega arith)))
  contexts_compare (empty_form p f k i h r) (empty_form o g m l j q) e = alternative_tells (1 + p) (1 + o) [] [] no_ways no_ways (λ z. no_slots)
  contexts_compare (empty_form p {prod = prod} f k i h r) (entry o {b = b} {items = items} g s x q) e =
      alternative_tells (1 + p) (1 + o) [] _ no_ways _ (λ z. absurd (empty_is_no_entry sig c p o b prod items (number_of p o z) f h g))
  contexts_compare (empty_form p {prod = prod} f k i h r) (known_entry o b n g t x m l q j w same) e =
      let few = slice_get_within sig.prods p prod f in inl (inl (omega (arith, few)))
  contexts_compare (empty_form p {prod = prod} f k i h r) (head_entry g t x m l q j) e =
      let few = slice_get_within sig.prods p prod f in inl (inl (omega (arith, few)))
  contexts_compare (entry p f s x r) (root g l) e = inr (inr (inl (omega arith)))
  contexts_compare (entry p {b = b} {items = items} f s x r) (empty_form o {prod = prod} g m l h q) e =
      alternative_tells (1 + p) (1 + o) _ [] _ no_ways (λ z. absurd (empty_is_no_entry sig c o p b prod items (sym (number_of p o z)) g h f))
  contexts_compare (entry p {b = b} {items = items} {first = first} {rest = rest} f s x r) (entry o {b = d} {items = jtems} {first = begins} {rest = other} g t y q) e =
      alternative_tells (1 + p) (1 + o) (length first ∷ item_lengths r) (length begins ∷ item_lengths q) (then_way (way_of_context x) (ways_of_items r)) (then_way (way_of_context y) (ways_of_items q))
      (λ z. length_tells (length first) (length begins) (way_of_context x) (way_of_context y) (item_lengths r) (item_lengths q) (ways_of_items r) (ways_of_items q)
      (λ l. (let same = same_fronts first begins rest other (sym s ∙ e ∙ t) l in
      (contexts_compare x y same.0, items_compare r q (same_entry sig c p o b d items jtems (number_of p o z) f g).0 same.1))))
  contexts_compare (entry p {b = b} {items = items} f s x r) (known_entry o d n g t h m l q j w same) e =
      let few = entry_within sig c p b items f in inl (inl (omega (arith, few)))
  contexts_compare (entry p {b = b} {items = items} f s x r) (head_entry g t h m l q j) e =
      let few = entry_within sig c p b items f in inl (inl (omega (arith, few)))
  contexts_compare (known_entry p b n f s h i k r j w same) (root g l) e = inr (inr (inl (omega arith)))
  contexts_compare (known_entry p b n f s h i k r j w same) (empty_form o {prod = prod} g m l y q) e =
      let few = slice_get_within sig.prods o prod g in inr (inr (inl (omega (arith, few))))
  contexts_compare (known_entry p b n f s h i k r j w same) (entry o {b = d} {items = items} g t y q) e =
      let few = entry_within sig c o d items g in inr (inr (inl (omega (arith, few))))
  contexts_compare (known_entry p b n {items = items} {rest = rest} {spelled = x} f s h i k r j w same) (known_entry o d m {items = jtems} {rest = other} {spelled = y} g t l u z q v is made) e =
      let both : word x ∷ rest ≡ word y ∷ other = sym s ∙ e ∙ t in
      let behind : rest ≡ other = cc in
      alternative_tells (1 + (length sig.prods + p)) (1 + (length sig.prods + o)) (item_lengths r) (item_lengths q) (ways_of_items r) (ways_of_items q)
      (λ a. items_compare r q (same_entry sig c p o b d items jtems (known_number_of (length sig.prods) p o a) k z).0 behind)
  contexts_compare (known_entry p b n f s h i k r j w same) (head_entry g t l u z q v) e = absurd (f g)
  contexts_compare (head_entry f s h i k r j) (root g l) e = inr (inr (inl (omega arith)))
  contexts_compare (head_entry f s h i k r j) (empty_form o {prod = prod} g m l y q) e =
      let few = slice_get_within sig.prods o prod g in inr (inr (inl (omega (arith, few))))
  contexts_compare (head_entry f s h i k r j) (entry o {b = d} {items = items} g t y q) e =
      let few = entry_within sig c o d items g in inr (inr (inl (omega (arith, few))))
  contexts_compare (head_entry f s h i k r j) (known_entry o d m g t l u z q v is made) e = absurd (g f)
  contexts_compare (head_entry {p = p} {b = b} {items = items} {rest = rest} {spelled = x} f s h i k r j) (head_entry {p = o} {b = d} {items = jtems} {rest = other} {spelled = y} g t l u z q v) e =
      let both : word x ∷ rest ≡ word y ∷ other = sym s ∙ e ∙ t in
      let behind : rest ≡ other = cc in
      alternative_tells (1 + (length sig.prods + p)) (1 + (length sig.prods + o)) (item_lengths r) (item_lengths q) (ways_of_items r) (ways_of_items q)
      (λ a. items_compare r q (same_entry sig c p o b d items jtems (known_number_of (length sig.prods) p o a) k z).0 behind)

absent : (ks : List KnownVariable) (n : ℕ) (k : KnownVariable) (w : List ℕ) → AllByRecursion (λ (l : KnownVariable). l.name ≢ w) ks → slice_get ks n ≡ Some k → k.name ≡ w → ⊥
absent [] n k w h e is = cc
absent (l ∷ ks) zero k w h e is = let one : l ≡ k = cc in h.0 (ap (λ (x : KnownVariable). x.name) one ∙ is)
absent (l ∷ ks) (suc n) k w h e is = absent ks n k w h.1 e is

later : (ks : List KnownVariable) (n : ℕ) (k l : KnownVariable) → AllByRecursion (λ (x : KnownVariable). k.name ≢ x.name) ks → slice_get ks n ≡ Some l → k.name ≡ l.name → ⊥
later [] n k l h e is = cc
later (x ∷ ks) zero k l h e is = let one : x ≡ l = cc in h.0 (is ∙ sym (ap (λ (y : KnownVariable). y.name) one))
later (x ∷ ks) (suc n) k l h e is = later ks n k l h.1 e is

named_once : (ks : List KnownVariable) (m n : ℕ) (k l : KnownVariable) → KnownsApart ks → slice_get ks m ≡ Some k → slice_get ks n ≡ Some l → k.name ≡ l.name → m ≡ n
named_once [] m n k l h e f is = cc
named_once (x ∷ ks) zero zero k l h e f is = refl
named_once (x ∷ ks) zero (suc n) k l h e f is = let one : x ≡ k = cc in absurd (later ks n x l h.0 f (ap (λ (y : KnownVariable). y.name) one ∙ is))
named_once (x ∷ ks) (suc m) zero k l h e f is = let one : x ≡ l = cc in absurd (later ks m x k h.0 e (ap (λ (y : KnownVariable). y.name) one ∙ sym is))
named_once (x ∷ ks) (suc m) (suc n) k l h e f is = ap suc (named_once ks m n k l h.1 e f is)

found_or : (o : Option KnownVariable) (N : Type 0) (w : List ℕ) → MatchOption o N (λ (k : KnownVariable). k.name ≡ w) → N ⊎ ((k : KnownVariable) × (o ≡ Some k) × (k.name ≡ w))
found_or None N w h = inl h
found_or (Some k) N w h = inr (k, refl, h)

-- a name has one number among known variables with different names
pub one_number : (ks : List KnownVariable) (w : List ℕ) (m n : ℕ) → KnownsApart ks → IsKnownNumber ks w m → IsKnownNumber ks w n → m ≡ n
one_number ks w m n apart h k = go (found_or (slice_get ks m) _ w h) (found_or (slice_get ks n) _ w k)
  where
    go : ((m ≡ length ks) × AllByRecursion (λ (l : KnownVariable). l.name ≢ w) ks) ⊎ ((l : KnownVariable) × (slice_get ks m ≡ Some l) × (l.name ≡ w))
        → ((n ≡ length ks) × AllByRecursion (λ (l : KnownVariable). l.name ≢ w) ks) ⊎ ((l : KnownVariable) × (slice_get ks n ≡ Some l) × (l.name ≡ w)) → m ≡ n
    go (inl a) (inl b) = a.0 ∙ sym b.0
    go (inl a) (inr b) = absurd (absent ks n b.0 w a.1 b.1 b.2)
    go (inr a) (inl b) = absurd (absent ks m a.0 w b.1 a.1 a.2)
    go (inr a) (inr b) = named_once ks m n a.0 b.0 apart a.1 b.1 (a.2 ∙ sym b.2)

known_same : (k l : KnownVariable) (p o : ℕ) (xs ys : Parts) (w v : List ℕ) → p ≡ o → xs ≡ ys → w ≡ v → k.name ≡ w → l.name ≡ v
    → k.entry ≡ record { prod = p; args = bare xs } → l.entry ≡ record { prod = o; args = bare ys } → k ≡ l
known_same k l p o xs ys w v e f g named called is makes =
    let name : k.name ≡ l.name = named ∙ g ∙ sym called in
    let entry : k.entry ≡ l.entry = is ∙ ap (λ n. record { prod = n; args = bare xs }) e ∙ ap (λ zs. record { prod = o; args = bare zs }) f ∙ sym makes in
    λ i. record { name = name i; entry = entry i }

one_word : (w v : List ℕ) → w ∷ [] ≡ v ∷ [] → w ≡ v
one_word w v e = cc

pub other_alternative : (v w : Way) → v ≡ w → (alternative v < alternative w) ⊎ (alternative w < alternative v) → ⊥
other_alternative v w e (inl lt) = let same = ap alternative e in omega (arith, same, lt)
other_alternative v w e (inr lt) = let same = ap alternative e in omega (arith, same, lt)

pub first_length : (m n : ℕ) (ls ks : List ℕ) → m ∷ ls ≡ n ∷ ks → (m ≡ n) × (ls ≡ ks)
first_length m n ls ks e = (cc, cc)

pub first_way : (v w : Way) (vs ws : Ways) → then_way v vs ≡ then_way w ws → (v ≡ w) × (vs ≡ ws)
first_way v w vs ws e = (cc, cc)

abbrev with_entry : SchemeContext → ℕ → Parts → SchemeContext
with_entry x p xs = record { root = x.root; entries = x.entries ++ record { prod = p; args = bare xs } ∷ [] }

entered : (x y : SchemeContext) (p o : ℕ) (xs ys : Parts) → x ≡ y → p ≡ o → xs ≡ ys → with_entry x p xs ≡ with_entry y o ys
entered x y p o xs ys e f g = ap (λ z. with_entry z p xs) e ∙ ap (λ n. with_entry y n xs) f ∙ ap (with_entry y o) g

module _ {sig : Signature} {scope : ReadingScope} {metas : List MetaDecl} {c : ℕ} (names : NamesApart metas) (apart : KnownsApart scope.names.knowns) where
  pub same_contexts : {ts rs : List Token} {a d : SchemeContext} {vs us : List Variable} {ks ls : List KnownVariable}
      → (r : ReadsContext sig scope metas c ts a vs ks) (q : ReadsContext sig scope metas c rs d us ls) → ts ≡ rs → way_of_context r ≡ way_of_context q
      → (a ≡ d) × (vs ≡ us) × (ks ≡ ls)
  same_contexts (root {id = i} f k) (root {id = j} g l) e w = (ap (λ d. record { root = Whole d; entries = [] }) (same_cat i j c k l), refl, refl)
  same_contexts (root f k) (empty_form o g m l h q) e w = absurd (other_alternative _ _ w (inl (omega arith)))
  same_contexts (root f k) (entry o g s x q) e w = absurd (other_alternative _ _ w (inl (omega arith)))
  same_contexts (root f k) (known_entry o b n g t h m l q j z same) e w = absurd (other_alternative _ _ w (inl (omega arith)))
  same_contexts (root f k) (head_entry g t h m l q j) e w = absurd (other_alternative _ _ w (inl (omega arith)))
  same_contexts (empty_form p f k i h r) (root g l) e w = absurd (other_alternative _ _ w (inr (omega arith)))
  same_contexts (empty_form p {id = i} f k ic h r) (empty_form o {id = j} g m jc l q) e w = (ap (λ d. record { root = Empty d; entries = [] }) (same_cat i j c ic jc), refl, refl)
  same_contexts (empty_form p {prod = prod} f k i h r) (entry o {b = b} {items = items} g s x q) e w =
      absurd (empty_is_no_entry sig c p o b prod items (number_of p o (ap alternative w)) f h g)
  same_contexts (empty_form p {prod = prod} f k i h r) (known_entry o b n g t x m l q j z same) e w =
      let few = slice_get_within sig.prods p prod f in absurd (other_alternative _ _ w (inl (omega (arith, few))))
  same_contexts (empty_form p {prod = prod} f k i h r) (head_entry g t x m l q j) e w =
      let few = slice_get_within sig.prods p prod f in absurd (other_alternative _ _ w (inl (omega (arith, few))))
  same_contexts (entry p f s x r) (root g l) e w = absurd (other_alternative _ _ w (inr (omega arith)))
  same_contexts (entry p {b = b} {items = items} f s x r) (empty_form o {prod = prod} g m l h q) e w =
      absurd (empty_is_no_entry sig c o p b prod items (sym (number_of p o (ap alternative w))) g h f)
  same_contexts (entry p {b = b} {items = items} {first = first} {rest = rest} {w = name} {xs = xs} {ctx = ctx} {vars = vars} {written = ks} f s x r)
      (entry o {b = d} {items = jtems} {first = begins} {rest = other} {w = called} {xs = ys} {ctx = dtx} {vars = wars} {written = ls} g t y q) e w =
      let number = number_of p o (ap alternative w) in
      let form = same_entry sig c p o b d items jtems number f g in
      let long = first_length (length first) (length begins) (item_lengths r) (item_lengths q) (ap lengths w) in
      let ways = first_way (way_of_context x) (way_of_context y) (ways_of_items r) (ways_of_items q) (ap inner w) in
      let split = same_fronts first begins rest other (sym s ∙ e ∙ t) long.0 in
      let before = same_contexts x y split.0 ways.0 in
      let word_is = one_word name called (same_words r q form.0 split.1 long.1) in
      let parts = same_items names r q before.1 refl form.0 split.1 long.1 ways.1 in (
        entered ctx dtx p o xs ys before.0 number parts,
        ap (λ n. record { word = n; cat = b; means = bound } ∷ vars) word_is ∙ ap (λ n. record { word = called; cat = n; means = bound } ∷ vars) form.1
            ∙ ap (λ z. record { word = called; cat = d; means = bound } ∷ z) before.1,
        before.2,
      )
  same_contexts (entry p {b = b} {items = items} f s x r) (known_entry o d n g t h m l q j z same) e w =
      let few = entry_within sig c p b items f in absurd (other_alternative _ _ w (inl (omega (arith, few))))
  same_contexts (entry p {b = b} {items = items} f s x r) (head_entry g t h m l q j) e w =
      let few = entry_within sig c p b items f in absurd (other_alternative _ _ w (inl (omega (arith, few))))
  same_contexts (known_entry p b n f s h i k r j z same) (root g l) e w = absurd (other_alternative _ _ w (inr (omega arith)))
  same_contexts (known_entry p b n f s h i k r j z same) (empty_form o {prod = prod} g m l y q) e w =
      let few = slice_get_within sig.prods o prod g in absurd (other_alternative _ _ w (inr (omega (arith, few))))
  same_contexts (known_entry p b n f s h i k r j z same) (entry o {b = d} {items = items} g t y q) e w =
      let few = entry_within sig c o d items g in absurd (other_alternative _ _ w (inr (omega (arith, few))))
  same_contexts (known_entry p b n {items = items} {rest = rest} {spelled = x} {w = name} {xs = xs} {id = i} {k = known} f s h ic k r j named is)
      (known_entry o d m {items = jtems} {rest = other} {spelled = y} {w = called} {xs = ys} {id = l} {k = lnown} g t u lc z q v calls makes) e w =
      let both : word x ∷ rest ≡ word y ∷ other = sym s ∙ e ∙ t in
      let behind : rest ≡ other = cc in
      let number = known_number_of (length sig.prods) p o (ap alternative w) in
      let form = same_entry sig c p o b d items jtems number k z in
      let parts = same_items names r q refl refl form.0 behind (ap lengths w) (ap inner w) in
      let word_is = one_word name called (same_words r q form.0 behind (ap lengths w)) in
      (ap (λ d. record { root = Whole d; entries = [] }) (same_cat i l c ic lc), refl, ap (λ z. z ∷ []) (known_same known lnown p o xs ys name called number parts word_is named calls is makes))
  same_contexts (known_entry p b n f s h i k r j named is) (head_entry g t l u z q v) e w = absurd (f g)
  same_contexts (head_entry f s h i k r j) (root g l) e w = absurd (other_alternative _ _ w (inr (omega arith)))
  same_contexts (head_entry f s h i k r j) (empty_form o {prod = prod} g m l y q) e w =
      let few = slice_get_within sig.prods o prod g in absurd (other_alternative _ _ w (inr (omega (arith, few))))
  same_contexts (head_entry f s h i k r j) (entry o {b = d} {items = items} g t y q) e w =
      let few = entry_within sig c o d items g in absurd (other_alternative _ _ w (inr (omega (arith, few))))
  same_contexts (head_entry f s h i k r j) (known_entry o d m g t l u z q v is makes) e w = absurd (g f)
  same_contexts (head_entry {p = p} {b = b} {n = n} {items = items} {rest = rest} {spelled = x} {w = name} {xs = xs} {id = i} f s h ic k r j)
      (head_entry {p = o} {b = d} {n = m} {items = jtems} {rest = other} {spelled = y} {w = called} {xs = ys} {id = l} g t u lc z q v) e w =
      let both : word x ∷ rest ≡ word y ∷ other = sym s ∙ e ∙ t in
      let behind : rest ≡ other = cc in
      let number = known_number_of (length sig.prods) p o (ap alternative w) in
      let form = same_entry sig c p o b d items jtems number k z in
      let parts = same_items names r q refl refl form.0 behind (ap lengths w) (ap inner w) in
      let word_is = one_word name called (same_words r q form.0 behind (ap lengths w)) in
      let known_is = one_number scope.names.knowns called n m apart (subst (λ u. IsKnownNumber scope.names.knowns u n) word_is j) v in (
        ap (λ d. record { root = Whole d; entries = [] }) (same_cat i l c ic lc),
        ap (λ u. record { word = u; cat = b; means = entry_of n } ∷ known_words sig 0 scope.names.knowns) word_is
            ∙ ap (λ u. record { word = called; cat = u; means = entry_of n } ∷ known_words sig 0 scope.names.knowns) form.1
            ∙ ap (λ u. record { word = called; cat = d; means = entry_of u } ∷ known_words sig 0 scope.names.knowns) known_is,
        ap (λ u. record { name = u; entry = record { prod = p; args = bare xs } } ∷ []) word_is
            ∙ ap (λ u. record { name = called; entry = record { prod = u; args = bare xs } } ∷ []) number
            ∙ ap (λ u. record { name = called; entry = record { prod = o; args = bare u } } ∷ []) parts,
      )

pub context_law : ContextLaw
context_law sig scope metas cat tokens v w a b vs us ks ls names apart r q = elim (contexts_compare r.0 q.0 refl) [
  | inl d ↦ inl (subst (λ x. IsBefore x w) r.1 (subst (IsBefore (way_of_context r.0)) q.1 d))
  | inr h ↦ elim h [
    | inl e ↦ (let same = same_contexts names apart r.0 q.0 refl e in inr (inl (sym r.1 ∙ e ∙ q.1, same.0, same.1, same.2)))
    | inr d ↦ inr (inr (subst (λ x. IsBefore x v) q.1 (subst (IsBefore (way_of_context q.0)) r.1 d)))
  ]
]
