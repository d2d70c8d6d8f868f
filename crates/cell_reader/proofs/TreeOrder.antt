-- Two readings of the same tokens as a context: one is before the other, or both are at one place and are kept as the same.
use Rattle.std.proofs.Common.{◌≡◌, ℕ, ◌+◌, ◌<◌, List, ◌∷◌, length, inl, inr, refl, ap, ◌∙◌, sym, subst, arith, slice_get}
use Rattle.std.proofs.lemmas.Option.{slice_get_within}
use Rattle.binding_terms.specs.Signature.{Signature}
use Rattle.binding_terms.specs.declared.grammar.Item.{Item}
use Rattle.binding_terms.proofs.Lists.{match_some, same_fronts}
use Rattle.scheme_terms.specs.SchemeTree.{SchemeTree, meta, con, Parts, part}
use Rattle.scheme_terms.specs.Forms.{SchemeContext, KnownVariable}
use Rattle.scheme_terms.specs.declared.scheme.MetaDecl.{MetaDecl}
use Rattle.rule_schemes.specs.Reading.{Token, word, Variable, ReadingScope, IsEntryForm, ReadsContext, root, empty_form, entry, known_entry, head_entry}
use Rattle.rule_schemes.specs.Said.{IsBefore, item_lengths, ways_of_items, way_of_context}
use Rattle.ordered_readings.specs.Names.{NamesApart}
use Rattle.ordered_readings.specs.NodeView.{values_of}
use Rattle.ordered_readings.proofs.SamePlace.{alternative, lengths, inner, same_items}
use Rattle.form_readings.specs.Forms.{KnownsApart}
use Rattle.form_readings.proofs.ContextOrder.{contexts_compare, same_contexts, same_entry, empty_is_no_entry, other_alternative, first_length, first_way}
use Rattle.form_cells.proofs.Joining.{AreOrdered}
use Rattle.cell_reader.specs.Contexts.{tree_of, ReadsContextAs}

number_of : (p o : ℕ) → 1 + p ≡ 1 + o → p ≡ o
number_of p o h = omega (arith, h)

known_number_of : (n p o : ℕ) → 1 + (n + p) ≡ 1 + (n + o) → p ≡ o
known_number_of n p o h = omega (arith, h)

entry_within : (sig : Signature) (c p b : ℕ) (items : List Item) → IsEntryForm sig c p b items → p < length sig.prods
entry_within sig c p b items f = let q = match_some (slice_get sig.prods p) _ f in slice_get_within sig.prods p q.0 q.1

entered : (p o : ℕ) (s t : SchemeTree) (xs ys : Parts) → p ≡ o → s ≡ t → xs ≡ ys → con p (part 0 s xs) ≡ con o (part 0 t ys)
entered p o s t xs ys e f g = ap (λ n. con n (part 0 s xs)) e ∙ ap (λ u. con o (part 0 u xs)) f ∙ ap (λ zs. con o (part 0 t zs)) g

written : (p o : ℕ) (xs ys : Parts) → p ≡ o → xs ≡ ys → meta p (values_of xs) ≡ meta o (values_of ys)
written p o xs ys e f = ap (λ n. meta n (values_of xs)) e ∙ ap (λ zs. meta o (values_of zs)) f

module _ {sig : Signature} {scope : ReadingScope} {metas : List MetaDecl} {c : ℕ} (names : NamesApart metas) (apart : KnownsApart scope.names.knowns) where
  same_trees : {ts rs : List Token} {a d : SchemeContext} {vs us : List Variable} {ks ls : List KnownVariable}
      → (r : ReadsContext sig scope metas c ts a vs ks) (q : ReadsContext sig scope metas c rs d us ls) → ts ≡ rs → way_of_context r ≡ way_of_context q
      → tree_of r ≡ tree_of q
  same_trees (root f k) (root g l) e w = refl
  same_trees (root f k) (empty_form o g m l h q) e w = absurd (other_alternative _ _ w (inl (omega arith)))
  same_trees (root f k) (entry o g s x q) e w = absurd (other_alternative _ _ w (inl (omega arith)))
  same_trees (root f k) (known_entry o b n g t h m l q j z same) e w = absurd (other_alternative _ _ w (inl (omega arith)))
  same_trees (root f k) (head_entry g t h m l q j) e w = absurd (other_alternative _ _ w (inl (omega arith)))
  same_trees (empty_form p f k i h r) (root g l) e w = absurd (other_alternative _ _ w (inr (omega arith)))
  same_trees (empty_form p f k i h r) (empty_form o g m l j q) e w = refl
  same_trees (empty_form p {prod = prod} f k i h r) (entry o {b = b} {items = items} g s x q) e w =
      absurd (empty_is_no_entry sig c p o b prod items (number_of p o (ap alternative w)) f h g)
  same_trees (empty_form p {prod = prod} f k i h r) (known_entry o b n g t x m l q j z same) e w =
      let few = slice_get_within sig.prods p prod f in absurd (other_alternative _ _ w (inl (omega (arith, few))))
  same_trees (empty_form p {prod = prod} f k i h r) (head_entry g t x m l q j) e w =
      let few = slice_get_within sig.prods p prod f in absurd (other_alternative _ _ w (inl (omega (arith, few))))
  same_trees (entry p f s x r) (root g l) e w = absurd (other_alternative _ _ w (inr (omega arith)))
  same_trees (entry p {b = b} {items = items} f s x r) (empty_form o {prod = prod} g m l h q) e w =
      absurd (empty_is_no_entry sig c o p b prod items (sym (number_of p o (ap alternative w))) g h f)
  same_trees (entry p {b = b} {items = items} {first = first} {rest = rest} {xs = xs} f s x r) (entry o {b = d} {items = jtems} {first = begins} {rest = other} {xs = ys} g t y q) e w =
      let number = number_of p o (ap alternative w) in
      let form = same_entry sig c p o b d items jtems number f g in
      let long = first_length (length first) (length begins) (item_lengths r) (item_lengths q) (ap lengths w) in
      let ways = first_way (way_of_context x) (way_of_context y) (ways_of_items r) (ways_of_items q) (ap inner w) in
      let split = same_fronts first begins rest other (sym s ∙ e ∙ t) long.0 in
      let before = same_contexts names apart x y split.0 ways.0 in
      let parts = same_items names r q before.1 refl form.0 split.1 long.1 ways.1 in
      entered p o (tree_of x) (tree_of y) xs ys number (same_trees x y split.0 ways.0) parts
  same_trees (entry p {b = b} {items = items} f s x r) (known_entry o d n g t h m l q j z same) e w =
      let few = entry_within sig c p b items f in absurd (other_alternative _ _ w (inl (omega (arith, few))))
  same_trees (entry p {b = b} {items = items} f s x r) (head_entry g t h m l q j) e w =
      let few = entry_within sig c p b items f in absurd (other_alternative _ _ w (inl (omega (arith, few))))
  same_trees (known_entry p b n f s h i k r j z same) (root g l) e w = absurd (other_alternative _ _ w (inr (omega arith)))
  same_trees (known_entry p b n f s h i k r j z same) (empty_form o {prod = prod} g m l y q) e w =
      let few = slice_get_within sig.prods o prod g in absurd (other_alternative _ _ w (inr (omega (arith, few))))
  same_trees (known_entry p b n f s h i k r j z same) (entry o {b = d} {items = items} g t y q) e w =
      let few = entry_within sig c o d items g in absurd (other_alternative _ _ w (inr (omega (arith, few))))
  same_trees (known_entry p b n {items = items} {rest = rest} {spelled = x} {xs = xs} f s h ic k r j named is)
      (known_entry o d m {items = jtems} {rest = other} {spelled = y} {xs = ys} g t u lc z q v calls makes) e w =
      let both : word x ∷ rest ≡ word y ∷ other = sym s ∙ e ∙ t in
      let behind : rest ≡ other = cc in
      let number = known_number_of (length sig.prods) p o (ap alternative w) in
      let form = same_entry sig c p o b d items jtems number k z in
      written p o xs ys number (same_items names r q refl refl form.0 behind (ap lengths w) (ap inner w))
  same_trees (known_entry p b n f s h i k r j named is) (head_entry g t l u z q v) e w = absurd (f g)
  same_trees (head_entry f s h i k r j) (root g l) e w = absurd (other_alternative _ _ w (inr (omega arith)))
  same_trees (head_entry f s h i k r j) (empty_form o {prod = prod} g m l y q) e w =
      let few = slice_get_within sig.prods o prod g in absurd (other_alternative _ _ w (inr (omega (arith, few))))
  same_trees (head_entry f s h i k r j) (entry o {b = d} {items = items} g t y q) e w =
      let few = entry_within sig c o d items g in absurd (other_alternative _ _ w (inr (omega (arith, few))))
  same_trees (head_entry f s h i k r j) (known_entry o d m g t l u z q v is makes) e w = absurd (g f)
  same_trees (head_entry {p = p} {b = b} {items = items} {rest = rest} {spelled = x} {xs = xs} f s h ic k r j)
      (head_entry {p = o} {b = d} {items = jtems} {rest = other} {spelled = y} {xs = ys} g t u lc z q v) e w =
      let both : word x ∷ rest ≡ word y ∷ other = sym s ∙ e ∙ t in
      let behind : rest ≡ other = cc in
      let number = known_number_of (length sig.prods) p o (ap alternative w) in
      let form = same_entry sig c p o b d items jtems number k z in
      written p o xs ys number (same_items names r q refl refl form.0 behind (ap lengths w) (ap inner w))

  pub trees_ordered : (vs : List Variable) (ns : List (List ℕ)) (ts : List Token) → AreOrdered (ReadsContextAs sig scope metas c vs ns ts)
  trees_ordered vs ns ts v w s t (a, ks, r, named, place, says) (b, ls, q, called, spot, tells) = elim (contexts_compare r q refl) [
    | inl d ↦ inl (subst (λ x. IsBefore x w) (sym place) (subst (IsBefore (way_of_context r)) (sym spot) d))
    | inr h ↦ elim h [
      | inl e ↦ inr (inl (place ∙ e ∙ sym spot, says ∙ same_trees r q refl e ∙ sym tells))
      | inr d ↦ inr (inr (subst (λ x. IsBefore x v) (sym spot) (subst (IsBefore (way_of_context q)) (sym place) d)))
    ]
  ]
