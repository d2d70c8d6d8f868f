-- The first two readings in a shape, entry by entry.
use Rattle.std.proofs.Common.{◌≡◌, ◌≢◌, ◌⊎◌, ◌↔◌, ℕ, suc, ◌+◌, List, [], ◌∷◌, ◌++◌, length, map, inl, inr, refl, ap, ◌∙◌, sym, subst, arith, Bool, true, false, not, Option, Some, None, slice_get}
use Rattle.std.specs.Option.{is_some}
use Rattle.binding_terms.specs.Signature.{Signature}
use Rattle.binding_terms.specs.declared.grammar.CatId.{CatId}
use Rattle.scheme_terms.specs.SchemeTree.{SchemeTree, Parts, no_parts, part}
use Rattle.scheme_terms.specs.Forms.{SchemeEntry, KnownVariable}
use Rattle.scheme_terms.specs.declared.scheme.MetaDecl.{MetaDecl}
use Rattle.scheme_terms.specs.declared.scheme.Root.TheVariants.{Whole, Empty}
use Rattle.rule_schemes.specs.Reading.{Token, Variable, ReadingScope, known_words, bare}
use Rattle.rule_schemes.specs.Said.{Way, way, Ways, no_ways, then_way, IsBefore, AreBefore}
use Rattle.term_reader.specs.Firsts.{IsLeast, AreFirst, paired}
use Rattle.term_reader.specs.Splitting.{SlotRange, lengths, ReadsPieces, IsMapped}
use Rattle.term_reader.proofs.Finding.{AreFirst-same, AreFirst-map, IsPair, AreFirst-paired}
use Rattle.term_reader.specs.FirstPlace.{IsFirstPlace, ReadPiecesAs}
use Rattle.notation_parser.specs.Shapes.{ContextShape, EntryShape, named, empty, new_entry, scope_entry, entered, shape_variables, WrittenContext, with_entry, new_context, whole_with, ReadsInShape}
use Rattle.binding_terms.proofs.Lists.{same_last}

entry_apart : (p : ℕ) (a b : WrittenContext) (xs ys : List SchemeTree) → with_entry p a xs ≡ with_entry p b ys → (a ≡ b) × (xs ≡ ys)
entry_apart p a b xs ys e =
    let root : a.0.root ≡ b.0.root = ap (λ (z : WrittenContext). z.0.root) e in
    let knowns : a.1 ≡ b.1 = ap (λ (z : WrittenContext). z.1) e in
    let entries = same_last a.0.entries b.0.entries (record { prod = p; args = xs }) (record { prod = p; args = ys }) (ap (λ (z : WrittenContext). z.0.entries) e) in
    (λ i. (record { root = root i; entries = entries.0 i }, knowns i), ap (λ (z : SchemeEntry). z.args) entries.1)

module _ (sig : Signature) (metas : List MetaDecl) (ts : List Token) (vars own : List Variable) where
  -- the parts of one split are told apart by their schemes
  bare_apart : (ps : List SlotRange) (vs ws : Ways) (xs ys : Parts) → ReadsPieces sig metas ts vars own ps vs xs → ReadsPieces sig metas ts vars own ps ws ys
      → bare xs ≡ bare ys → xs ≡ ys
  bare_apart [] vs ws xs ys f g e = f.1 ∙ sym g.1
  bare_apart (p ∷ ps) no_ways ws xs ys f g e = absurd f
  bare_apart (p ∷ ps) (then_way v vs) no_ways xs ys f g e = absurd g
  bare_apart (p ∷ ps) (then_way v vs) (then_way w ws) no_parts ys f g e = absurd f
  bare_apart (p ∷ ps) (then_way v vs) (then_way w ws) (part n s xs) no_parts f g e = absurd g
  bare_apart (p ∷ ps) (then_way v vs) (then_way w ws) (part n s xs) (part m t ys) f g e =
      let whole : s ∷ bare xs ≡ t ∷ bare ys = e in
      let first : s ≡ t = cc in
      let rest : bare xs ≡ bare ys = cc in
      let more = bare_apart ps vs ws xs ys f.2 g.2 rest in
      ap (λ k. part k s xs) (f.0 ∙ sym g.0) ∙ ap (λ u. part m u xs) first ∙ ap (part m t) more

module _ (sig : Signature) (scope : ReadingScope) (metas : List MetaDecl) (ts : List Token) (c : CatId) where
  -- the beginning alone
  pub first_named : AreFirst IsBefore (ReadsInShape sig scope metas ts c named) ((record { root = Whole c; entries = [] }, []) ∷ [])
  first_named = ((way 0 [] no_ways, ((refl, refl), λ l x r. inr (sym r.0, r.1))), λ l x r. r.1)

  pub first_empty : (p : ℕ) → AreFirst IsBefore (ReadsInShape sig scope metas ts c (empty p)) ((record { root = Empty c; entries = [] }, []) ∷ [])
  first_empty p = ((way (1 + p) [] no_ways, ((refl, refl), λ l x r. inr (sym r.0, r.1))), λ l x r. r.1)

  pub first_new : (e : EntryShape) (ys : List Parts) → AreFirst AreBefore (ReadsPieces sig metas ts (known_words sig 0 scope.names.knowns) [] e.slots) ys
      → AreFirst IsBefore (ReadsInShape sig scope metas ts c (new_entry e)) (map (λ xs. new_context c e (bare xs)) ys)
  first_new e ys f =
      AreFirst-map AreBefore IsBefore (λ ws. way (1 + (length sig.prods + e.prod)) (lengths e.slots) ws) (λ xs. new_context c e (bare xs))
      (ReadsPieces sig metas ts (known_words sig 0 scope.names.knowns) [] e.slots) ys (λ k l b. inr (refl, inr (refl, b)))
      (λ k l a b p q h. bare_apart sig metas ts (known_words sig 0 scope.names.knowns) [] e.slots k l a b p q (ap (λ (z : WrittenContext). first_args z.1) h)) f
    where
      first_args : List KnownVariable → List SchemeTree
      first_args [] = []
      first_args (k ∷ ks) = k.entry.args

  -- the known variable of the scope, where the slots read as its entry
  module _ (p n : ℕ) (ps : List SlotRange) where
    abbrev InScopeEntry : Way → WrittenContext → Type 0
    InScopeEntry = ReadsInShape sig scope metas ts c (scope_entry p n ps)

    abbrev ReadAs : List SchemeTree → Ways → Parts → Type 0
    ReadAs args = ReadPiecesAs sig metas ts (known_words sig 0 scope.names.knowns) [] ps args

    same_known : (k l : KnownVariable) → slice_get scope.names.knowns n ≡ Some k → slice_get scope.names.knowns n ≡ Some l → l ≡ k
    same_known k l e f = let two : Some l ≡ Some k = sym f ∙ e in cc

    same_args : (k l : KnownVariable) (xs : Parts) → l ≡ k → l.entry ≡ record { prod = p; args = bare xs } → bare xs ≡ k.entry.args
    same_args k l xs e h = sym (ap (λ (x : SchemeEntry). x.args) h) ∙ ap (λ (x : KnownVariable). x.entry.args) e

    pub no_known : slice_get scope.names.knowns n ≡ None → AreFirst IsBefore InScopeEntry []
    no_known none w x r = let two : Some (r.2) ≡ None = sym r.5 ∙ none in cc

    pub other_entry : (k : KnownVariable) → slice_get scope.names.knowns n ≡ Some k → k.entry.prod ≢ p → AreFirst IsBefore InScopeEntry []
    other_entry k e other w x r =
        other (ap (λ (l : KnownVariable). l.entry.prod) (sym (same_known k r.2 e r.5)) ∙ ap (λ (y : SchemeEntry). y.prod) r.6)

    pub not_read : (k : KnownVariable) → slice_get scope.names.knowns n ≡ Some k → ((ws : Ways) (xs : Parts) → ReadAs k.entry.args ws xs → ⊥) → AreFirst IsBefore InScopeEntry []
    not_read k e h w x r = h r.0 r.1 (r.7, same_args k r.2 r.1 (same_known k r.2 e r.5) r.6)

    pub first_scope : (k : KnownVariable) (vs : Ways) (xs : Parts) → slice_get scope.names.knowns n ≡ Some k → k.entry.prod ≡ p → IsLeast AreBefore (ReadAs k.entry.args) vs xs
        → AreFirst IsBefore InScopeEntry (whole_with c k ∷ [])
    first_scope k vs xs e by h =
        ((place, ((vs, xs, k, refl, refl, e, entry_is, h.0.0), λ l x r. least l x r)), λ l x r. only x r.2 r.4 r.5)
      where
        place : Way
        place = way (1 + (length sig.prods + p)) (lengths ps) vs

        entry_is : k.entry ≡ record { prod = p; args = bare xs }
        entry_is = λ i. record { prod = by i; args = sym h.0.1 i }

        only : (x : WrittenContext) (l : KnownVariable) → x ≡ whole_with c l → slice_get scope.names.knowns n ≡ Some l → x ≡ whole_with c k
        only x l is f = is ∙ ap (whole_with c) (same_known k l e f)

        least : (l : Way) (x : WrittenContext) → InScopeEntry l x → IsBefore place l ⊎ ((place ≡ l) × (x ≡ whole_with c k))
        least l x r = go (h.1 r.0 r.1 (r.7, same_args k r.2 r.1 (same_known k r.2 e r.5) r.6))
          where
            go : AreBefore vs r.0 ⊎ ((vs ≡ r.0) × (r.1 ≡ xs)) → IsBefore place l ⊎ ((place ≡ l) × (x ≡ whole_with c k))
            go (inl b) = inl (subst (IsBefore place) (sym r.3) (inr (refl, inr (refl, b))))
            go (inr b) = inr (ap (way (1 + (length sig.prods + p)) (lengths ps)) b.0 ∙ sym r.3, only x r.2 r.4 r.5)

    -- by the first place at which the slots so read
    pub scope_found : {L : Type 0} (to : L → Ways) (found : Option L) (none : Bool) (k : KnownVariable) → is_some found ≡ not none → none ≡ false
        → slice_get scope.names.knowns n ≡ Some k → k.entry.prod ≡ p → IsFirstPlace AreBefore (ReadAs k.entry.args) to found → AreFirst IsBefore InScopeEntry (whole_with c k ∷ [])
    scope_found to None none k is off e by h = absurd (let never : false ≡ true = is ∙ ap not off in cc)
    scope_found to (Some l) none k is off e by h = first_scope k (to l) h.0 e by h.1

  -- each reading before an entry, with each reading of its slots
  pub first_entered : (s : ContextShape) (e : EntryShape) (xs : List WrittenContext) (ys : List Parts) → AreFirst IsBefore (ReadsInShape sig scope metas ts c s) xs
      → AreFirst AreBefore (ReadsPieces sig metas ts (shape_variables sig scope c.0 s) [] e.slots) ys
      → AreFirst IsBefore (ReadsInShape sig scope metas ts c (entered s e)) (paired (with_entry e.prod) xs (map bare ys))
  first_entered s e xs ys f g =
      AreFirst-same IsBefore (IsPair at (with_entry e.prod) (ReadsInShape sig scope metas ts c s) (IsMapped (λ k. k) bare Pieces)) (ReadsInShape sig scope metas ts c (entered s e))
      (paired (with_entry e.prod) xs (map bare ys)) same
      (AreFirst-paired IsBefore AreBefore IsBefore at (with_entry e.prod) (ReadsInShape sig scope metas ts c s) (IsMapped (λ k. k) bare Pieces)
      (λ k i l j b. inr (refl, inr (refl, inl b))) (λ k i l j h b. inr (refl, inr (refl, inr (h, b)))) (λ a b xs ys h. entry_apart e.prod a b xs ys h) xs (map bare ys) f
      (AreFirst-map AreBefore AreBefore (λ k. k) bare Pieces ys (λ k l b. b) (λ k l a b p q h. bare_apart sig metas ts (shape_variables sig scope c.0 s) [] e.slots k l a b p q h) g))
    where
      at : Way → Ways → Way
      at v ws = way (1 + e.prod) (e.before ∷ lengths e.slots) (then_way v ws)

      Pieces : Ways → Parts → Type 0
      Pieces = ReadsPieces sig metas ts (shape_variables sig scope c.0 s) [] e.slots

      same : (m : Way) (z : WrittenContext) → IsPair at (with_entry e.prod) (ReadsInShape sig scope metas ts c s) (IsMapped (λ k. k) bare Pieces) m z
          ↔ ReadsInShape sig scope metas ts c (entered s e) m z
      same m z = (
        λ h. (h.0, h.7.0, h.2, h.7.1, h.4 ∙ ap (at h.0) h.7.2, h.5 ∙ ap (with_entry e.prod h.2) h.7.3, h.6, h.7.4),
        λ r. (r.0, r.1, r.2, bare r.3, r.4, r.5, r.6, (r.1, r.3, refl, refl, r.7)),
      )
