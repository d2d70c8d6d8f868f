-- The readings of the slots of a form around a context: in one shape of the context each slot for itself, in several shapes by what
-- stands in front of the context.
use Rattle.std.proofs.Common.{◌≡◌, ◌⊎◌, ◌↔◌, ℕ, suc, List, [], ◌∷◌, ◌++◌, length, map, take, drop, inl, inr, refl, ap, ◌∙◌, sym, subst, Some, slice_get, slice_range}
use Rattle.std.specs.List.{AllByRecursion}
use Rattle.binding_terms.specs.Signature.{Signature}
use Rattle.binding_terms.specs.declared.grammar.CatId.{CatId}
use Rattle.scheme_terms.specs.SchemeTree.{SchemeTree, Parts, no_parts, part}
use Rattle.scheme_terms.specs.declared.scheme.MetaDecl.{MetaDecl}
use Rattle.rule_schemes.specs.Reading.{Token, Variable, bare, ReadingScope}
use Rattle.rule_schemes.specs.Rules.{JudgmentScheme}
use Rattle.rule_schemes.specs.Said.{a_judgment, Way, way, Ways, no_ways, then_way, IsBefore, AreBefore}
use Rattle.term_reader.specs.FirstPlace.{ReadPiecesAs}
use Rattle.term_reader.proofs.Comparing.{places_compare}
use Rattle.term_reader.specs.Firsts.{AreFirst, IsLeast, paired}
use Rattle.term_reader.specs.Names.{NamesApart}
use Rattle.term_reader.specs.Splitting.{SlotRange, lengths, ReadsPieces, IsMapped}
use Rattle.term_reader.proofs.Finding.{AreFirst-same, AreFirst-map, IsPair, AreFirst-paired}
use Rattle.notation_parser.specs.Forms.{beside, judged, AroundContext, judged_around, then_ways, IsContextPlace, IsAroundInShape, IsReadInShape, IsReadInShapes, IsReadAround, IsReadInSlots, HasFront, IsPlacedAs}
use Rattle.notation_parser.specs.Fronts.{AreFirstAt, AreTold}
use Rattle.notation_parser.specs.Ordered.{WrittenForm}
use Rattle.notation_parser.specs.Shapes.{ContextShape, WrittenContext, ReadsContextAt, ReadsInShape, IsShapeBefore, AreShapesInOrder, AreShapes, shape_variables}
use Rattle.notation_parser.proofs.ContextPlaces.{one_place}
use Rattle.notation_parser.proofs.FrontLemmas.{AreRanked, IsItsFront, first_placed, told_as}
use Rattle.notation_parser.proofs.PlaceOrder.{before_trans, front_before, rest_before}
use Rattle.notation_parser.proofs.SeveralRanked.{AllRanked}
use Rattle.notation_parser.proofs.Shaped.{shapes_apart}
use Rattle.binding_terms.proofs.Lists.{all_contained, same_fronts}

-- parts of these schemes, each of which binds what its slot tells
abbrev in_slots : List SlotRange → List SchemeTree → Parts
in_slots [] ss = no_parts
in_slots (p ∷ ps) [] = no_parts
in_slots (p ∷ ps) (s ∷ ss) = part (length p.binds) s (in_slots ps ss)

by_slots : (sig : Signature) (metas : List MetaDecl) (ts : List Token) (vars own : List Variable) (ps : List SlotRange) (ws : Ways) (xs : Parts)
    → ReadsPieces sig metas ts vars own ps ws xs → xs ≡ in_slots ps (bare xs)
by_slots sig metas ts vars own [] ws xs r = r.1
by_slots sig metas ts vars own (p ∷ ps) no_ways xs r = absurd r
by_slots sig metas ts vars own (p ∷ ps) (then_way w ws) no_parts r = absurd r
by_slots sig metas ts vars own (p ∷ ps) (then_way w ws) (part n s xs) r =
    ap (λ m. part m s xs) r.0 ∙ ap (part (length p.binds) s) (by_slots sig metas ts vars own ps ws xs r.2)

-- as many terms as slots
terms_counted : (sig : Signature) (metas : List MetaDecl) (ts : List Token) (vars own : List Variable) (ps : List SlotRange) (ws : Ways) (xs : Parts)
    → ReadsPieces sig metas ts vars own ps ws xs → length (bare xs) ≡ length ps
terms_counted sig metas ts vars own [] ws xs r = ap (λ ys. length (bare ys)) r.1
terms_counted sig metas ts vars own (p ∷ ps) no_ways xs r = absurd r
terms_counted sig metas ts vars own (p ∷ ps) (then_way w ws) no_parts r = absurd r
terms_counted sig metas ts vars own (p ∷ ps) (then_way w ws) (part n s xs) r = ap suc (terms_counted sig metas ts vars own ps ws xs r.2)

-- what is judged over contexts is the same only where the contexts and the arguments are
judged_apart : (k : ℕ) (x y : WrittenContext) (ss us : List SchemeTree) → judged k x ss ≡ judged k y us → (x ≡ y) × (ss ≡ us)
judged_apart k x y ss us e =
    let form : a_judgment (record { judgment = k; context = x.0; args = ss }) ≡ a_judgment (record { judgment = k; context = y.0; args = us }) = ap (λ (f : WrittenForm). f.0) e in
    let knowns : x.1 ≡ y.1 = ap (λ (f : WrittenForm). f.1) e in
    let same : record { judgment = k; context = x.0; args = ss } ≡ record { judgment = k; context = y.0; args = us } = cc in
    let context : x.0 ≡ y.0 = ap (λ (j : JudgmentScheme). j.context) same in
    let args : ss ≡ us = ap (λ (j : JudgmentScheme). j.args) same in
    ((λ i. (context i, knowns i)), args)

beside_apart : {A B : Type 0} (a b : A) (c d : B) → beside a c ≡ beside b d → (a ≡ b) × (c ≡ d)
beside_apart {A} {B} a b c d e = (ap (λ (p : A × B). p.0) e, ap (λ (p : A × B). p.1) e)

module _ (sig : Signature) (scope : ReadingScope) (metas : List MetaDecl) (ts : List Token) (c : CatId) (k n : ℕ) (ps : List SlotRange) where
  -- the place of a reading, by its parts
  abbrev at_places : Ways → Ways → Way
  at_places us rest = way k (lengths ps) (then_ways us rest)

  by_fronts : (us vs rest other : Ways) → AreBefore us vs → IsBefore (at_places us rest) (at_places vs other)
  by_fronts us vs rest other b = inr (refl, inr (refl, front_before us vs rest other b))

  by_rests : (us vs rest other : Ways) → us ≡ vs → AreBefore rest other → IsBefore (at_places us rest) (at_places vs other)
  by_rests us vs rest other e b =
      inr (refl, inr (refl, subst (λ x. AreBefore (then_ways us rest) (then_ways x other)) e (rest_before us rest other b)))

  module _ (s : ContextShape) where
    abbrev vars : List Variable
    vars = shape_variables sig scope c.0 s

    -- the schemes of slots, read
    abbrev Bare : List SlotRange → Ways → List SchemeTree → Type 0
    Bare qs = IsMapped {K = Ways} {L = Ways} {A = Parts} {B = List SchemeTree} (λ ws. ws) bare (ReadsPieces sig metas ts vars [] qs)

    bare_read : (qs : List SlotRange) (xs : List Parts) → AreFirst AreBefore (ReadsPieces sig metas ts vars [] qs) xs → AreFirst AreBefore (Bare qs) (map bare xs)
    bare_read qs xs f = AreFirst-map AreBefore AreBefore (λ ws. ws) bare (ReadsPieces sig metas ts vars [] qs) xs (λ l m b. b) parts_same f
      where
        parts_same : (l m : Ways) (a b : Parts) → ReadsPieces sig metas ts vars [] qs l a → ReadsPieces sig metas ts vars [] qs m b → bare a ≡ bare b → a ≡ b
        parts_same l m a b r q e = by_slots sig metas ts vars [] qs l a r ∙ ap (in_slots qs) e ∙ sym (by_slots sig metas ts vars [] qs m b q)

    -- the context with what stands behind it, and both with what stands in front
    abbrev FromContext : Ways → WrittenContext × List SchemeTree → Type 0
    FromContext = IsPair then_way beside (ReadsInShape sig scope metas ts c s) (Bare (drop (suc n) ps))

    abbrev FromFront : Way → AroundContext → Type 0
    FromFront = IsPair at_places beside (Bare (take n ps)) FromContext

    around_read : (w : Way) (a : AroundContext) → FromFront w a ↔ ((us : Ways) × IsAroundInShape sig scope metas ts c k n ps s us w a)
    around_read w a = (there, back)
      where
        there : FromFront w a → (us : Ways) × IsAroundInShape sig scope metas ts c k n ps s us w a
        there h =
            let f = h.6 in
            let r = h.7 in
            let b = r.7 in
            let place : w ≡ at_places f.0 (then_way r.0 b.0) =
            h.4 ∙ ap (λ us. at_places us h.1) f.2 ∙ ap (at_places f.0) (r.4 ∙ ap (then_way r.0) b.2) in
            let context : r.2 ≡ a.1.0 = sym (ap (λ (q : WrittenContext × List SchemeTree). q.0) r.5) ∙ sym (ap (λ (q : AroundContext). q.1.0) h.5) in
            let front : a.0 ≡ bare f.1 = ap (λ (q : AroundContext). q.0) h.5 ∙ f.3 in
            let behind : a.1.1 ≡ bare b.1 = ap (λ (q : AroundContext). q.1.1) h.5 ∙ ap (λ (q : WrittenContext × List SchemeTree). q.1) r.5 ∙ b.3 in
            (f.0, (r.0, b.0, f.1, b.1, place, front, behind, subst (ReadsInShape sig scope metas ts c s r.0) context r.6, f.4, b.4))

        back : (us : Ways) × IsAroundInShape sig scope metas ts c k n ps s us w a → FromFront w a
        back h =
            let r = h.1 in (
              h.0,
              then_way r.0 r.1,
              a.0,
              a.1,
              r.4,
              refl,
              (h.0, r.2, refl, r.5, r.8),
              (r.0, r.1, a.1.0, a.1.1, refl, refl, r.7, (r.1, r.3, refl, r.6, r.9)),
            )

    -- within one shape what stands in front, the context and what stands behind are read each for itself
    pub shape_read : (xs : List Parts) (ys : List WrittenContext) (zs : List Parts) → AreFirst AreBefore (ReadsPieces sig metas ts vars [] (take n ps)) xs
        → AreFirst IsBefore (ReadsInShape sig scope metas ts c s) ys → AreFirst AreBefore (ReadsPieces sig metas ts vars [] (drop (suc n) ps)) zs
        → AreFirst IsBefore (λ w a. (us : Ways) × IsAroundInShape sig scope metas ts c k n ps s us w a) (paired beside (map bare xs) (paired beside ys (map bare zs)))
    shape_read xs ys zs f g h =
        AreFirst-same IsBefore FromFront (λ w a. (us : Ways) × IsAroundInShape sig scope metas ts c k n ps s us w a) _ around_read
        (AreFirst-paired AreBefore AreBefore IsBefore at_places beside (Bare (take n ps)) FromContext (λ us vs l m b. by_fronts us vs l m b) (λ us vs l m e b. by_rests us vs l m e b)
        (λ a b d e p. beside_apart a b d e p) (map bare xs) (paired beside ys (map bare zs)) (bare_read (take n ps) xs f)
        (AreFirst-paired IsBefore AreBefore AreBefore then_way beside (ReadsInShape sig scope metas ts c s) (Bare (drop (suc n) ps)) (λ v w l m b. inl b) (λ v w l m e b. inr (e, b))
        (λ a b d e p. beside_apart a b d e p) ys (map bare zs) g (bare_read (drop (suc n) ps) zs h)))

    -- each of them has a front
    front_of : (a : AroundContext) (w : Way) → (us : Ways) × IsAroundInShape sig scope metas ts c k n ps s us w a → HasFront sig metas ts vars (take n ps) a
    front_of a w h = (h.0, h.1.2, sym h.1.5, h.1.8)

    pub have_fronts : (xs : List AroundContext) → AreFirst IsBefore (λ w a. (us : Ways) × IsAroundInShape sig scope metas ts c k n ps s us w a) xs
        → AllByRecursion (HasFront sig metas ts vars (take n ps)) xs
    have_fronts [] f = tt
    have_fronts (a ∷ []) f = (front_of a f.0.0 f.0.1.0, tt)
    have_fronts (a ∷ (b ∷ [])) f = (front_of a f.0.0 f.0.1.0, (front_of b f.1.0 f.1.1.0.0, tt))
    have_fronts (a ∷ (b ∷ (d ∷ xs))) f = absurd f

    -- different ones are different judgments
    once : (f g : Ways) (v w : Way) (a b : AroundContext) → IsAroundInShape sig scope metas ts c k n ps s f v a → IsAroundInShape sig scope metas ts c k n ps s g w b
        → judged_around k a ≡ judged_around k b → a ≡ b
    once f g v w a b r q e =
        let same = judged_apart k a.1.0 b.1.0 (a.0 ++ a.1.1) (b.0 ++ b.1.1) e in
        let counted : length a.0 ≡ length b.0 =
        ap length r.5 ∙ terms_counted sig metas ts vars [] (take n ps) f r.2 r.8 ∙ sym (terms_counted sig metas ts vars [] (take n ps) g q.2 q.8) ∙ sym (ap length q.5) in
        let terms = same_fronts a.0 b.0 a.1.1 b.1.1 same.1 counted in
        λ i. (terms.0 i, (same.0 i, terms.1 i))

    -- the first places of the slots in front are the front of the first place
    its_front : (a : AroundContext) (f : Ways) (xs : Parts) → IsLeast AreBefore (ReadPiecesAs sig metas ts vars [] (take n ps) a.0) f xs
        → IsItsFront IsBefore before_trans (judged_around k) (IsAroundInShape sig scope metas ts c k n ps s) once a f
    its_front a f xs least g l r = (at_places f (then_way r.0 r.1), (r.0, r.1, xs, r.3, refl, sym least.0.1, r.6, r.7, least.0.0, r.9), order (least.1 g r.2 (r.8, sym r.5)))
      where
        order : AreBefore f g ⊎ ((f ≡ g) × (r.2 ≡ xs)) → IsBefore (at_places f (then_way r.0 r.1)) l ⊎ (at_places f (then_way r.0 r.1) ≡ l)
        order (inl b) = inl (subst (IsBefore (at_places f (then_way r.0 r.1))) (sym r.4) (by_fronts f g (then_way r.0 r.1) (then_way r.0 r.1) b))
        order (inr e) = inr (ap (λ us. at_places us (then_way r.0 r.1)) e.0 ∙ sym r.4)

    -- the first two in one shape, with their fronts
    pub shape_placed : (xs : List AroundContext) (new : List (WrittenForm × Ways)) → AreFirst IsBefore (λ w a. (us : Ways) × IsAroundInShape sig scope metas ts c k n ps s us w a) xs
        → AreTold (IsPlacedAs sig metas ts vars k (take n ps)) xs new → AreFirstAt IsBefore (IsReadInShape sig scope metas ts c k n ps s) new
    shape_placed xs new f told =
        first_placed IsBefore before_trans (judged_around k) (IsAroundInShape sig scope metas ts c k n ps s) once xs new f
        (told_as (IsPlacedAs sig metas ts vars k (take n ps)) _ xs new (λ a b h. (h.0, its_front a b.1 h.1.0 h.1.1)) told)

  -- readings in two shapes stand by what is in front of the context, and else by the shapes
  pub shapes_ranked : (s t : ContextShape) → NamesApart metas → IsShapeBefore sig scope metas ts c s t
      → AreRanked AreBefore IsBefore (IsReadInShape sig scope metas ts c k n ps s) (IsReadInShape sig scope metas ts c k n ps t)
  shapes_ranked s t names earlier = record { by_front = by_front; else_first = else_first }
    where
      by_front : (f g : Ways) (v w : Way) (x y : WrittenForm) → IsReadInShape sig scope metas ts c k n ps s f v x → IsReadInShape sig scope metas ts c k n ps t g w y
          → AreBefore g f → IsBefore w v
      by_front f g v w x y p q b =
          subst (λ l. IsBefore l v) (sym q.2.4) (subst (IsBefore (at_places g (then_way q.2.0 q.2.1))) (sym p.2.4)
          (by_fronts g f (then_way q.2.0 q.2.1) (then_way p.2.0 p.2.1) b))

      else_first : (f g : Ways) (v w : Way) (x y : WrittenForm) → IsReadInShape sig scope metas ts c k n ps s f v x → IsReadInShape sig scope metas ts c k n ps t g w y
          → (AreBefore g f → ⊥) → IsBefore v w
      else_first f g v w x y p q none =
          subst (λ l. IsBefore l w) (sym p.2.4) (subst (IsBefore (at_places f (then_way p.2.0 p.2.1))) (sym q.2.4)
          (order (places_compare sig metas ts (shape_variables sig scope c.0 s) (shape_variables sig scope c.0 t) [] [] (take n ps) f g p.2.2 q.2.2 names p.2.8 q.2.8)))
        where
          order : AreBefore f g ⊎ ((f ≡ g) ⊎ AreBefore g f) → IsBefore (at_places f (then_way p.2.0 p.2.1)) (at_places g (then_way q.2.0 q.2.1))
          order (inl b) = by_fronts f g (then_way p.2.0 p.2.1) (then_way q.2.0 q.2.1) b
          order (inr (inl e)) = by_rests f g (then_way p.2.0 p.2.1) (then_way q.2.0 q.2.1) e (inl (earlier p.2.0 q.2.0 p.0.1.0 q.0.1.0 p.2.7 q.2.7))
          order (inr (inr b)) = absurd (none b)

  pub all_ranked : (all : List ContextShape) → NamesApart metas → AreShapesInOrder sig scope metas ts c all → AllRanked AreBefore IsBefore (IsReadInShape sig scope metas ts c k n ps) all
  all_ranked all names order xs ys e s t a b =
      shapes_ranked s t names (shapes_apart sig scope metas ts c xs ys s t (subst (AreShapesInOrder sig scope metas ts c) (sym e) order) a b)

  -- in front of the first slot nothing stands
  pub no_fronts : n ≡ 0 → (s t : ContextShape) (f g : Ways) (v w : Way) (x y : WrittenForm) → IsReadInShape sig scope metas ts c k n ps s f v x
      → IsReadInShape sig scope metas ts c k n ps t g w y → AreBefore g f → ⊥
  no_fronts first s t f g v w x y p q b =
      let none : ReadsPieces sig metas ts (shape_variables sig scope c.0 t) [] [] g q.2.2 =
      subst (λ m. ReadsPieces sig metas ts (shape_variables sig scope c.0 t) [] (take m ps) g q.2.2) first q.2.8 in
      subst (λ us. AreBefore us f) none.0 b

  -- the readings in all shapes of the context in that slot are those of the slots
  pub shapes_read : (p : SlotRange) (all : List ContextShape) → AreShapes sig scope metas ts c p.from p.to all → IsContextPlace c.0 n ps → slice_get ps n ≡ Some p
      → (w : Way) (x : WrittenForm) → ((us : Ways) × IsReadInShapes sig scope metas ts c k n ps all us w x) ↔ IsReadInSlots sig scope metas ts c k ps w x
  shapes_read p all shapes here is w x = (there, back)
    where
      there : (us : Ways) × IsReadInShapes sig scope metas ts c k n ps all us w x → IsReadInSlots sig scope metas ts c k ps w x
      there h =
          let us = h.0 in
          let s = h.1.0 in
          let a = h.1.2.0 in
          let r = h.1.2.2 in
          let context = all_contained (λ s. (w : Way) (x : WrittenContext) → ReadsInShape sig scope metas ts c s w x
          → ReadsContextAt sig scope metas c.0 (slice_range ts p.from p.to) w x.0 (shape_variables sig scope c.0 s) x.1) all s shapes.sound h.1.1 r.0 a.1.0 r.7 in
          (n, p, here, is, (a, us, r.0, r.1, r.2, r.3, shape_variables sig scope c.0 s, h.1.2.1, r.4, r.5, r.6, context, r.8, r.9))

      around : (q : SlotRange) → q ≡ p → IsReadAround sig scope metas ts c k n ps q w x → (us : Ways) × IsReadInShapes sig scope metas ts c k n ps all us w x
      around q e r =
          let a = r.0 in
          let context : ReadsContextAt sig scope metas c.0 (slice_range ts p.from p.to) r.2 a.1.0.0 r.6 a.1.0.1 =
          subst (λ (o : SlotRange). ReadsContextAt sig scope metas c.0 (slice_range ts o.from o.to) r.2 a.1.0.0 r.6 a.1.0.1) e r.11 in
          let h = shapes.complete r.2 a.1.0.0 r.6 a.1.0.1 context in (
            r.1,
            (
              h.0,
              h.1,
              (
                a,
                r.7,
                (
                  r.2,
                  r.3,
                  r.4,
                  r.5,
                  r.8,
                  r.9,
                  r.10,
                  h.3,
                  subst (λ vs. ReadsPieces sig metas ts vs [] (take n ps) r.1 r.4) h.2 r.12,
                  subst (λ vs. ReadsPieces sig metas ts vs [] (drop (suc n) ps) r.3 r.5) h.2 r.13,
                ),
              ),
            ),
          )

      back : IsReadInSlots sig scope metas ts c k ps w x → (us : Ways) × IsReadInShapes sig scope metas ts c k n ps all us w x
      back h =
          let m = h.0 in
          let e : m ≡ n = one_place c.0 m n ps h.2 here in
          let two : Some h.1 ≡ Some p = sym h.3 ∙ ap (slice_get ps) e ∙ is in
          let same : h.1 ≡ p = cc in
          around h.1 same (subst (λ l. IsReadAround sig scope metas ts c k l ps h.1 w x) e h.4)
