-- The readings of a form as a context alone, shape by shape.
use Rattle.std.proofs.Common.{◌≡◌, ◌↔◌, ℕ, List, map, refl, ap, sym, subst, slice_range}
use Rattle.binding_terms.specs.Signature.{Signature}
use Rattle.binding_terms.specs.declared.grammar.CatId.{CatId}
use Rattle.scheme_terms.specs.declared.scheme.MetaDecl.{MetaDecl}
use Rattle.rule_schemes.specs.Reading.{Token, ReadingScope}
use Rattle.rule_schemes.specs.Said.{a_context, Way, IsBefore}
use Rattle.term_reader.specs.Firsts.{AreFirst}
use Rattle.term_reader.specs.Splitting.{IsMapped}
use Rattle.term_reader.proofs.Finding.{AreFirst-map}
use Rattle.notation_parser.specs.Forms.{as_context, IsContextRead}
use Rattle.notation_parser.specs.Ordered.{WrittenForm}
use Rattle.notation_parser.specs.Shapes.{ContextShape, WrittenContext, ReadsContextAt, ReadsInShape, AreShapes, AreShapesInOrder, shape_variables}
use Rattle.notation_parser.proofs.Several.{InOneOf, AreApart}
use Rattle.notation_parser.proofs.Shaped.{shapes_apart}
use Rattle.binding_terms.proofs.Lists.{all_contained}

-- a context in that shape, as what it writes
abbrev pub AsContext : Signature → ReadingScope → List MetaDecl → List Token → CatId → ContextShape → Way → WrittenForm → Type 0
AsContext sig scope metas ts c s = IsMapped {K = Way} {L = Way} {A = WrittenContext} {B = WrittenForm} (λ v. v) as_context (ReadsInShape sig scope metas ts c s)

module _ (sig : Signature) (scope : ReadingScope) (metas : List MetaDecl) (ts : List Token) (c : CatId) where
  -- contexts alone
  pub contexts_apart : (all : List ContextShape) → AreShapesInOrder sig scope metas ts c all
      → AreApart IsBefore (AsContext sig scope metas ts c) all
  contexts_apart all order xs ys e s t a b v w x y f g =
      let earlier = shapes_apart sig scope metas ts c xs ys s t (subst (AreShapesInOrder sig scope metas ts c) (sym e) order) a b f.0 g.0 f.1 g.1 f.4 g.4 in
      subst (λ u. IsBefore u w) (sym f.2) (subst (IsBefore f.0) (sym g.2) earlier)

  pub context_as : (s : ContextShape) (xs : List WrittenContext) → AreFirst IsBefore (ReadsInShape sig scope metas ts c s) xs
      → AreFirst IsBefore (AsContext sig scope metas ts c s) (map as_context xs)
  context_as s xs f = AreFirst-map IsBefore IsBefore (λ v. v) as_context (ReadsInShape sig scope metas ts c s) xs (λ k l b. b) (λ k l a b r q e. same a b e) f
    where
      same : (a b : WrittenContext) → as_context a ≡ as_context b → a ≡ b
      same a b e =
          let form : a_context a.0 ≡ a_context b.0 = ap (λ (f : WrittenForm). f.0) e in
          let knowns : a.1 ≡ b.1 = ap (λ (f : WrittenForm). f.1) e in
          let context : a.0 ≡ b.0 = cc in
          λ i. (context i, knowns i)

  pub contexts_read : (from to : ℕ) (all : List ContextShape) → AreShapes sig scope metas ts c from to all → (w : Way) (x : WrittenForm)
      → InOneOf (AsContext sig scope metas ts c) all w x
      ↔ IsContextRead sig scope metas c (slice_range ts from to) w x
  contexts_read from to all shapes w x = (there, back)
    where
      there : InOneOf (AsContext sig scope metas ts c) all w x
          → IsContextRead sig scope metas c (slice_range ts from to) w x
      there h =
          let s = h.0 in
          let r = h.2 in
          let context = all_contained (λ s. (w : Way) (x : WrittenContext) → ReadsInShape sig scope metas ts c s w x
          → ReadsContextAt sig scope metas c.0 (slice_range ts from to) w x.0 (shape_variables sig scope c.0 s) x.1) all s shapes.sound h.1 r.0 r.1 r.4 in (
            r.1,
            shape_variables sig scope c.0 s,
            r.3,
            subst (λ v. ReadsContextAt sig scope metas c.0 (slice_range ts from to) v r.1.0 (shape_variables sig scope c.0 s) r.1.1) (sym r.2) context,
          )

      back : IsContextRead sig scope metas c (slice_range ts from to) w x
          → InOneOf (AsContext sig scope metas ts c) all w x
      back r = let h = shapes.complete w r.0.0 r.1 r.0.1 r.3 in (h.0, h.1, (w, r.0, refl, r.2, h.3))
