-- The shapes of contexts by the name of their category and by empty forms, and by one production.
use Rattle.std.proofs.Common.{◌≡◌, ◌≢◌, ◌⊎◌, ◌↔◌, ℕ, ◌+◌, ◌-◌, ◌<◌, ◌≤◌, Bool, false, true≢false, IsTrue, List, [], ◌∷◌, length, drop, inl, inr, refl, ap, ◌∙◌, sym, subst, arith, Option, Some, MatchOption, slice_get, slice_range}
use Rattle.std.specs.List.{list_all}
use Rattle.binding_terms.specs.Signature.{Signature, is_empty_form, is_word}
use Rattle.binding_terms.specs.declared.grammar.Cat.{Cat}
use Rattle.binding_terms.specs.declared.grammar.CatId.{CatId}
use Rattle.binding_terms.specs.declared.grammar.Item.{Item}
use Rattle.binding_terms.specs.declared.grammar.Item.TheVariants.{Word, Slot, Binder}
use Rattle.binding_terms.specs.declared.grammar.Prod.{Prod}
use Rattle.scheme_terms.specs.SchemeTree.{no_parts}
use Rattle.scheme_terms.specs.Forms.{SchemeContext, KnownVariable}
use Rattle.scheme_terms.specs.declared.scheme.MetaDecl.{MetaDecl}
use Rattle.rule_schemes.specs.Reading.{Token, word, Variable, ReadingScope, ReadsItems}
use Rattle.rule_schemes.specs.Said.{Way, no_ways}
use Rattle.term_reader.specs.Ordered.{ReadsItemsAt}
use Rattle.term_reader.specs.Splitting.{SlotRange, Divided, IsSplit, AreSplits, Stands, tokens_of, lengths, ReadsPieces}
use Rattle.term_reader.specs.declared.sheet.Sheet.{Sheet}
use Rattle.term_reader.proofs.Pieces.{words_of, split_from, read_split}
use Rattle.term_reader.proofs.Ranges.{range_cons, range_none}
use Rattle.notation_parser.specs.Shapes.{ContextShape, named, empty, WrittenContext}
use Rattle.notation_parser.specs.ContextCases.{IsCategoryName, IsNamed, IsEmptyOf, BeginsWith, IsEntryOver, IsEnteredBelow, IsContextBy, AreListed}
use Rattle.notation_parser.proofs.ShapeLists.{no_shapes, one_shape, same_shapes}

-- the exact name of a category, by the one token that there is
pub other_length : (sig : Signature) (c : ℕ) (us : List Token) → length us ≢ 1 → IsTrue false ↔ IsCategoryName sig c us
other_length sig c us h = (λ e. absurd (true≢false (sym e)), λ k. absurd (h (ap length k.1)))

pub one_name : (sig : Signature) (c : ℕ) (ts : List Token) (from to : ℕ) (t : Token) (found : Cat) (r : Bool) → from ≤ to → to ≤ length ts → to - from ≡ 1 → slice_get ts from ≡ Some t
    → slice_get sig.cats c ≡ Some found → (IsTrue r ↔ (t ≡ word found.name)) → IsTrue r ↔ IsCategoryName sig c (slice_range ts from to)
one_name sig c ts from to t found r start within one here cat is = (there, back)
  where
    alone : slice_range ts from to ≡ t ∷ []
    alone =
        let lt : from < to = omega (arith, one) in
        let end : from + 1 ≡ to = omega (arith, one, start) in
        range_cons ts from to t lt within here ∙ ap (λ us. t ∷ us) (ap (λ m. slice_range ts m to) end ∙ range_none ts to within)

    there : IsTrue r → IsCategoryName sig c (slice_range ts from to)
    there e = (found.name, alone ∙ ap (λ u. u ∷ []) (is.0 e), subst (λ (o : Option Cat). MatchOption o ⊥ (λ k. k.name ≡ found.name)) (sym cat) refl)

    back : IsCategoryName sig c (slice_range ts from to) → IsTrue r
    back h =
        let two : t ∷ [] ≡ word h.0 ∷ [] = sym alone ∙ h.1 in
        let same : t ≡ word h.0 = cc in
        let name : found.name ≡ h.0 = subst (λ (o : Option Cat). MatchOption o ⊥ (λ k. k.name ≡ h.0)) cat h.2 in
        is.1 (same ∙ ap word (sym name))

-- terminals alone bind nothing and have no slots
words_only : (sig : Signature) (us : List Token) (to : ℕ) (items : List Item) (n : ℕ) (vs : List Variable) (ps : List SlotRange) → IsTrue (list_all is_word items)
    → IsSplit sig us to items n vs ps → (vs ≡ []) × (ps ≡ [])
words_only sig us to [] n vs ps h s = (s.1, s.2)
words_only sig us to (Word text quoted ∷ items) n vs ps h s = words_only sig us to items (n + 1) vs ps h s.4
words_only sig us to (Slot c binds ∷ items) n vs ps h s = absurd (true≢false (sym h))
words_only sig us to (Binder c ∷ items) n vs ps h s = absurd (true≢false (sym h))

-- items that begin with a slot are no terminals
pub begins_with_slot : (c : ℕ) (items : List Item) → BeginsWith c items → IsTrue (list_all is_word items) → ⊥
begins_with_slot c [] b h = b
begins_with_slot c (Word text quoted ∷ items) b h = b
begins_with_slot c (Slot id binds ∷ items) b h = true≢false (sym h)
begins_with_slot c (Binder d ∷ items) b h = b

module _ (sheet : Sheet) (scope : ReadingScope) (c : CatId) where
  abbrev sig : Signature
  sig = sheet.sig.now

  abbrev metas : List MetaDecl
  metas = sheet.metas.now

  abbrev ts : List Token
  ts = tokens_of sheet

  pub nothing_listed : (Is : Way → SchemeContext → List Variable → List KnownVariable → Type 0)
      → ((w : Way) (ctx : SchemeContext) (vars : List Variable) (ks : List KnownVariable) → Is w ctx vars ks → ⊥) → AreListed sheet scope c Is []
  nothing_listed Is h = (no_shapes sig scope metas ts c Is h, tt)

  pub same_listed : (P Q : Way → SchemeContext → List Variable → List KnownVariable → Type 0) (all : List ContextShape)
      → ((w : Way) (ctx : SchemeContext) (vars : List Variable) (ks : List KnownVariable) → P w ctx vars ks ↔ Q w ctx vars ks) → AreListed sheet scope c P all → AreListed sheet scope c Q all
  same_listed P Q all h f = (same_shapes sig scope metas ts c P Q all h f.0, f.1)

  pub named_listed : (us : List Token) → IsCategoryName sig c.0 us → AreListed sheet scope c (IsNamed sig scope c us) (named ∷ [])
  named_listed us h = (
    one_shape sig scope metas ts c (IsNamed sig scope c us) named
        (λ w x r. (r.0, ap (λ (y : WrittenContext). y.0) r.1, refl, ap (λ (y : WrittenContext). y.1) r.1, h))
        (λ w ctx vars ks r. (r.2, (r.0, λ i. (r.1 i, r.3 i)))),
    (tt, tt),
  )

  pub not_named : (us : List Token) → (IsCategoryName sig c.0 us → ⊥) → AreListed sheet scope c (IsNamed sig scope c us) []
  not_named us h = nothing_listed (IsNamed sig scope c us) (λ w ctx vars ks r. h r.4)

  module _ (from to p : ℕ) (items : List Item) (start : from ≤ to) (within : to ≤ length ts) (words : IsTrue (list_all is_word items)) where
    abbrev IsEmpty : Way → SchemeContext → List Variable → List KnownVariable → Type 0
    IsEmpty = IsEmptyOf sig scope metas c (slice_range ts from to) p items

    pub no_empty : AreSplits (Stands sheet) (IsSplit sig ts to items from) [] → AreListed sheet scope c IsEmpty []
    no_empty s = nothing_listed IsEmpty (λ w ctx vars ks r.
        (let f = split_from sheet r.4 tt tt from to start within refl in
        let none = s.kept _ f.0 f.1 f.3 in
        omega (arith, none.1)))

    pub empty_listed : (ds : List Divided) → ds ≢ [] → AreSplits (Stands sheet) (IsSplit sig ts to items from) ds → AreListed sheet scope c IsEmpty (empty p ∷ [])
    empty_listed [] some s = absurd (some refl)
    empty_listed (d ∷ ds) some s = (
      one_shape sig scope metas ts c IsEmpty (empty p)
          (λ w x r. (r.0, ap (λ (y : WrittenContext). y.0) r.1, refl, ap (λ (y : WrittenContext). y.1) r.1, reads))
          (λ w ctx vars ks r. (r.2, (r.0, λ i. (r.1 i, r.3 i)))),
      (tt, tt),
    )
      where
        only : (d.0 ≡ []) × (d.1 ≡ [])
        only = words_only sig ts to items from d.0 d.1 words s.each.0

        read : ReadsItemsAt sig metas [] [] (words_of d.0) items (slice_range ts from to) (lengths d.1) no_ways no_parts
        read = read_split sheet [] [] to items from d.0 d.1 no_ways no_parts start within s.each.0
            (subst (λ ps. ReadsPieces sig metas ts [] [] ps no_ways no_parts) (sym only.1) (refl, refl))

        reads : ReadsItems sig metas [] [] [] items (slice_range ts from to) no_parts
        reads = subst (λ vs. ReadsItems sig metas [] [] (words_of vs) items (slice_range ts from to) no_parts) only.0 read.0

  module _ (from to p : ℕ) (prod : Prod) (found : slice_get sig.prods p ≡ Some prod) where
    abbrev By : Way → SchemeContext → List Variable → List KnownVariable → Type 0
    By = IsContextBy sig scope metas c ts from to p

    the_prod : (q : Prod) → slice_get sig.prods p ≡ Some q → q ≡ prod
    the_prod q e = let two : Some q ≡ Some prod = sym e ∙ found in cc

    pub other_cat : prod.cat.0 ≢ c.0 → AreListed sheet scope c By []
    other_cat h = nothing_listed By (λ w ctx vars ks r. absurd (h (ap (λ (q : Prod). q.cat.0) (sym (the_prod r.0 r.1)) ∙ r.2)))

    pub by_empty : (all : List ContextShape) → prod.cat.0 ≡ c.0 → IsTrue (list_all is_word prod.items)
        → AreListed sheet scope c (IsEmptyOf sig scope metas c (slice_range ts from to) p prod.items) all → AreListed sheet scope c By all
    by_empty all cat words = same_listed (IsEmptyOf sig scope metas c (slice_range ts from to) p prod.items) By all
        (λ w ctx vars ks. (λ h. (prod, found, cat, inl (words, h)), λ h. back w ctx vars ks h.0 (the_prod h.0 h.1) h.3))
      where
        back : (w : Way) (ctx : SchemeContext) (vars : List Variable) (ks : List KnownVariable) (q : Prod) → q ≡ prod
            → ((IsTrue (is_empty_form q) × IsEmptyOf sig scope metas c (slice_range ts from to) p q.items w ctx vars ks)
            ⊎ (IsEntryOver c.0 q.items × IsEnteredBelow to sig scope metas c ts from to p (drop 1 q.items) w ctx vars ks))
            → IsEmptyOf sig scope metas c (slice_range ts from to) p prod.items w ctx vars ks
        back w ctx vars ks q e (inl h) = subst (λ (k : Prod). IsEmptyOf sig scope metas c (slice_range ts from to) p k.items w ctx vars ks) e h.1
        back w ctx vars ks q e (inr h) = absurd (begins_with_slot c.0 prod.items (subst (λ (k : Prod). BeginsWith c.0 k.items) e h.0.0) words)

    pub by_entry : (all : List ContextShape) → prod.cat.0 ≡ c.0 → (IsTrue (list_all is_word prod.items) → ⊥) → IsEntryOver c.0 prod.items
        → AreListed sheet scope c (IsEnteredBelow to sig scope metas c ts from to p (drop 1 prod.items)) all → AreListed sheet scope c By all
    by_entry all cat words over = same_listed (IsEnteredBelow to sig scope metas c ts from to p (drop 1 prod.items)) By all
        (λ w ctx vars ks. (λ h. (prod, found, cat, inr (over, h)), λ h. back w ctx vars ks h.0 (the_prod h.0 h.1) h.3))
      where
        back : (w : Way) (ctx : SchemeContext) (vars : List Variable) (ks : List KnownVariable) (q : Prod) → q ≡ prod
            → ((IsTrue (is_empty_form q) × IsEmptyOf sig scope metas c (slice_range ts from to) p q.items w ctx vars ks)
            ⊎ (IsEntryOver c.0 q.items × IsEnteredBelow to sig scope metas c ts from to p (drop 1 q.items) w ctx vars ks))
            → IsEnteredBelow to sig scope metas c ts from to p (drop 1 prod.items) w ctx vars ks
        back w ctx vars ks q e (inl h) = absurd (words (subst (λ (k : Prod). IsTrue (is_empty_form k)) e h.0))
        back w ctx vars ks q e (inr h) = subst (λ (k : Prod). IsEnteredBelow to sig scope metas c ts from to p (drop 1 k.items) w ctx vars ks) e h.1

    pub by_nothing : (IsTrue (list_all is_word prod.items) → ⊥) → (IsEntryOver c.0 prod.items → ⊥) → AreListed sheet scope c By []
    by_nothing words over = nothing_listed By (λ w ctx vars ks h. none w ctx vars ks h.0 (the_prod h.0 h.1) h.3)
      where
        none : (w : Way) (ctx : SchemeContext) (vars : List Variable) (ks : List KnownVariable) (q : Prod) → q ≡ prod
            → ((IsTrue (is_empty_form q) × IsEmptyOf sig scope metas c (slice_range ts from to) p q.items w ctx vars ks)
            ⊎ (IsEntryOver c.0 q.items × IsEnteredBelow to sig scope metas c ts from to p (drop 1 q.items) w ctx vars ks)) → ⊥
        none w ctx vars ks q e (inl h) = words (subst (λ (k : Prod). IsTrue (is_empty_form k)) e h.0)
        none w ctx vars ks q e (inr h) = over (subst (λ (k : Prod). IsEntryOver c.0 k.items) e h.0)
