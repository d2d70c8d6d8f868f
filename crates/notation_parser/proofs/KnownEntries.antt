-- The shapes of contexts that write a known variable, by one production.
use Rattle.std.proofs.Common.{◌≡◌, ◌≢◌, ℕ, List, [], drop, inl, inr, ap, ◌∙◌, sym, subst, Some, slice_get}
use Rattle.binding_terms.specs.declared.grammar.CatId.{CatId}
use Rattle.binding_terms.specs.declared.grammar.Item.{Item}
use Rattle.binding_terms.specs.declared.grammar.Prod.{Prod}
use Rattle.scheme_terms.specs.Forms.{SchemeContext, KnownVariable}
use Rattle.rule_schemes.specs.Reading.{Variable, ReadingScope, fresh_head}
use Rattle.rule_schemes.specs.Said.{Way}
use Rattle.term_reader.specs.Splitting.{tokens_of}
use Rattle.term_reader.specs.declared.sheet.Sheet.{Sheet}
use Rattle.notation_parser.specs.Shapes.{ContextShape}
use Rattle.notation_parser.specs.ContextCases.{IsEntryOver, IsNewEntryOf, IsScopeEntryOf, IsKnownEntryOf, IsKnownBy, AreListed}
use Rattle.notation_parser.proofs.ContextBeginnings.{nothing_listed, same_listed}

-- in the head of a case, and elsewhere
module _ (sheet : Sheet) (scope : ReadingScope) (c : CatId) (from to p : ℕ) (items : List Item) (all : List ContextShape) where
  abbrev New : Way → SchemeContext → List Variable → List KnownVariable → Type 0
  New = IsNewEntryOf sheet.sig.now scope sheet.metas.now c (tokens_of sheet) from to p items

  abbrev OfScope : Way → SchemeContext → List Variable → List KnownVariable → Type 0
  OfScope = IsScopeEntryOf sheet.sig.now scope sheet.metas.now c (tokens_of sheet) from to p items

  abbrev Known : Way → SchemeContext → List Variable → List KnownVariable → Type 0
  Known = IsKnownEntryOf sheet.sig.now scope sheet.metas.now c (tokens_of sheet) from to p items

  pub in_head : scope.fresh ≡ fresh_head → AreListed sheet scope c New all → AreListed sheet scope c Known all
  in_head head = same_listed sheet scope c New Known all (λ w ctx vars ks. (λ h. inl (head, h), λ h. back w ctx vars ks h))
    where
      back : (w : Way) (ctx : SchemeContext) (vars : List Variable) (ks : List KnownVariable) → Known w ctx vars ks → New w ctx vars ks
      back w ctx vars ks (inl h) = h.1
      back w ctx vars ks (inr h) = absurd (h.0 head)

  pub in_scope : scope.fresh ≢ fresh_head → AreListed sheet scope c OfScope all → AreListed sheet scope c Known all
  in_scope other = same_listed sheet scope c OfScope Known all (λ w ctx vars ks. (λ h. inr (other, h), λ h. back w ctx vars ks h))
    where
      back : (w : Way) (ctx : SchemeContext) (vars : List Variable) (ks : List KnownVariable) → Known w ctx vars ks → OfScope w ctx vars ks
      back w ctx vars ks (inl h) = absurd (other h.0)
      back w ctx vars ks (inr h) = h.1

module _ (sheet : Sheet) (scope : ReadingScope) (c : CatId) (from to p : ℕ) (prod : Prod) (found : slice_get sheet.sig.now.prods p ≡ Some prod) where
  abbrev By : Way → SchemeContext → List Variable → List KnownVariable → Type 0
  By = IsKnownBy sheet.sig.now scope sheet.metas.now c (tokens_of sheet) from to p

  abbrev Of : Prod → Way → SchemeContext → List Variable → List KnownVariable → Type 0
  Of q = IsKnownEntryOf sheet.sig.now scope sheet.metas.now c (tokens_of sheet) from to p (drop 1 q.items)

  the_prod : (q : Prod) → slice_get sheet.sig.now.prods p ≡ Some q → q ≡ prod
  the_prod q e = let two : Some q ≡ Some prod = sym e ∙ found in cc

  pub other_cat : prod.cat.0 ≢ c.0 → AreListed sheet scope c By []
  other_cat h = nothing_listed sheet scope c By (λ w ctx vars ks r. absurd (h (ap (λ (q : Prod). q.cat.0) (sym (the_prod r.0 r.1)) ∙ r.2)))

  pub no_entry : (IsEntryOver c.0 prod.items → ⊥) → AreListed sheet scope c By []
  no_entry h = nothing_listed sheet scope c By (λ w ctx vars ks r. h (subst (λ (q : Prod). IsEntryOver c.0 q.items) (the_prod r.0 r.1) r.3))

  pub by_entry : (all : List ContextShape) → prod.cat.0 ≡ c.0 → IsEntryOver c.0 prod.items → AreListed sheet scope c (Of prod) all → AreListed sheet scope c By all
  by_entry all cat over =
      same_listed sheet scope c (Of prod) By all
      (λ w ctx vars ks. (λ h. (prod, found, cat, over, h), λ r. subst (λ (q : Prod). Of q w ctx vars ks) (the_prod r.0 r.1) r.4))
