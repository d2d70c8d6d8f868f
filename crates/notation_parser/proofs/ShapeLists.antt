-- Lists of shapes, and the readings in them.
use Rattle.std.proofs.Common.{◌≡◌, ◌⊎◌, ◌↔◌, ℕ, List, [], ◌∷◌, ◌++◌, inl, inr, refl, ap, ◌∙◌, sym, subst, arith}
use Rattle.std.specs.List.{Contains, AllByRecursion}
use Rattle.std.proofs.lemmas.List.{append_assoc}
use Rattle.std.proofs.lemmas.List.Elements.{Contains-append_left, Contains-append_right}
use Rattle.binding_terms.specs.Signature.{Signature}
use Rattle.binding_terms.specs.declared.grammar.CatId.{CatId}
use Rattle.scheme_terms.specs.Forms.{SchemeContext, KnownVariable}
use Rattle.scheme_terms.specs.declared.scheme.MetaDecl.{MetaDecl}
use Rattle.rule_schemes.specs.Reading.{Token, Variable, ReadingScope}
use Rattle.rule_schemes.specs.Said.{Way, IsBefore, ComesBefore}
use Rattle.term_reader.specs.Splitting.{Divided, AreInOrder, lengths}
use Rattle.notation_parser.specs.Shapes.{ContextShape, EntryShape, entered, WrittenContext, shape_variables, ReadsInShape, IsShapeBefore, AreShapesInOrder, AreShapesOf}
use Rattle.notation_parser.specs.ContextCases.{entry_of_split, with_entries, crossed}
use Rattle.binding_terms.proofs.Lists.{all_also, all_always, all_append, cons_cases}

-- either property
abbrev Either : (P Q : Way → SchemeContext → List Variable → List KnownVariable → Type 0) → Way → SchemeContext → List Variable → List KnownVariable → Type 0
Either P Q w ctx vars ks = P w ctx vars ks ⊎ Q w ctx vars ks

pub before_at : (v w a b : Way) → v ≡ a → w ≡ b → IsBefore a b → IsBefore v w
before_at v w a b p q h = subst (λ k. IsBefore k w) (sym p) (subst (IsBefore a) (sym q) h)

-- shapes with an entry more
pub all_with : (P Q : ContextShape → Type 0) (e : EntryShape) (inner : List ContextShape) → ((s : ContextShape) → P s → Q (entered s e)) → AllByRecursion P inner
    → AllByRecursion Q (with_entries e inner)
all_with P Q e [] h all = tt
all_with P Q e (s ∷ inner) h all = (h s all.0, all_with P Q e inner h all.1)

pub contains_with : (e : EntryShape) (inner : List ContextShape) (s : ContextShape) → Contains inner s → Contains (with_entries e inner) (entered s e)
contains_with e [] s h = absurd (omega (arith, h.1))
contains_with e (t ∷ inner) s h = go (contains_with e inner s) (cons_cases t inner s h)
  where
    go : (Contains inner s → Contains (with_entries e inner) (entered s e)) → (t ≡ s) ⊎ Contains inner s → Contains (with_entries e (t ∷ inner)) (entered s e)
    go rest (inl same) = (0, omega arith, ap (λ u. entered u e) same)
    go rest (inr more) = Contains-append_right (entered t e ∷ []) (with_entries e inner) (entered s e) (rest more)

module _ (p before : ℕ) (inner : List ContextShape) where
  pub all_crossed : (P : ContextShape → Type 0) (D : Divided → Type 0) (Q : ContextShape → Type 0) (ds : List Divided)
      → ((d : Divided) (s : ContextShape) → D d → P s → Q (entered s (entry_of_split p before d))) → AllByRecursion P inner → AllByRecursion D ds
      → AllByRecursion Q (crossed p before inner ds)
  all_crossed P D Q [] h all divided = tt
  all_crossed P D Q (d ∷ ds) h all divided =
      all_append Q (with_entries (entry_of_split p before d) inner) (crossed p before inner ds)
      (all_with P Q (entry_of_split p before d) inner (λ s k. h d s divided.0 k) all) (all_crossed P D Q ds h all divided.1)

  pub contains_crossed : (ds : List Divided) (d : Divided) (s : ContextShape) → Contains ds d → Contains inner s
      → Contains (crossed p before inner ds) (entered s (entry_of_split p before d))
  contains_crossed [] d s h k = absurd (omega (arith, h.1))
  contains_crossed (x ∷ ds) d s h k = go (λ more. contains_crossed ds d s more k) (cons_cases x ds d h)
    where
      front : List ContextShape
      front = with_entries (entry_of_split p before x) inner

      go : (Contains ds d → Contains (crossed p before inner ds) (entered s (entry_of_split p before d))) → (x ≡ d) ⊎ Contains ds d
          → Contains (crossed p before inner (x ∷ ds)) (entered s (entry_of_split p before d))
      go rest (inl same) =
          subst (λ (y : Divided). Contains (crossed p before inner (x ∷ ds)) (entered s (entry_of_split p before y))) same
          (Contains-append_left front (crossed p before inner ds) (entered s (entry_of_split p before x)) (contains_with (entry_of_split p before x) inner s k))
      go rest (inr more) = Contains-append_right front (crossed p before inner ds) (entered s (entry_of_split p before d)) (rest more)

  -- one split more at the end
  pub crossed_more : (ds : List Divided) (d : Divided)
      → crossed p before inner (ds ++ d ∷ []) ≡ crossed p before inner ds ++ with_entries (entry_of_split p before d) inner
  crossed_more [] d = append_nil (with_entries (entry_of_split p before d) inner)
    where
      append_nil : (xs : List ContextShape) → xs ++ [] ≡ xs
      append_nil [] = refl
      append_nil (x ∷ xs) = ap (λ ys. x ∷ ys) (append_nil xs)
  crossed_more (e ∷ ds) d =
      ap (λ ys. with_entries (entry_of_split p before e) inner ++ ys) (crossed_more ds d)
      ∙ sym (append_assoc (with_entries (entry_of_split p before e) inner) (crossed p before inner ds) (with_entries (entry_of_split p before d) inner))

module _ (sig : Signature) (scope : ReadingScope) (metas : List MetaDecl) (ts : List Token) (c : CatId) where
  -- each reading in the shape has the property
  abbrev pub Sound : (Is : Way → SchemeContext → List Variable → List KnownVariable → Type 0) → ContextShape → Type 0
  Sound Is s = (w : Way) (x : WrittenContext) → ReadsInShape sig scope metas ts c s w x → Is w x.0 (shape_variables sig scope c.0 s) x.1

  abbrev Before : ContextShape → ContextShape → Type 0
  Before s t = IsShapeBefore sig scope metas ts c s t

  abbrev Ordered : List ContextShape → Type 0
  Ordered all = AreShapesInOrder sig scope metas ts c all

  pub no_shapes : (Is : Way → SchemeContext → List Variable → List KnownVariable → Type 0)
      → ((w : Way) (ctx : SchemeContext) (vars : List Variable) (ks : List KnownVariable) → Is w ctx vars ks → ⊥) → AreShapesOf sig scope metas ts c Is []
  no_shapes Is h = record { sound = tt; complete = λ w ctx vars ks r. absurd (h w ctx vars ks r); in_order = tt }

  pub one_shape : (Is : Way → SchemeContext → List Variable → List KnownVariable → Type 0) (s : ContextShape) → Sound Is s
      → ((w : Way) (ctx : SchemeContext) (vars : List Variable) (ks : List KnownVariable) → Is w ctx vars ks → (vars ≡ shape_variables sig scope c.0 s) × ReadsInShape sig scope metas ts c s w (ctx, ks))
      → AreShapesOf sig scope metas ts c Is (s ∷ [])
  one_shape Is s sound back = record {
    sound = (sound, tt);
    complete = λ w ctx vars ks r. (s, (0, omega arith, refl), (back w ctx vars ks r).0, (back w ctx vars ks r).1);
    in_order = (tt, tt);
  }

  pub same_shapes : (P Q : Way → SchemeContext → List Variable → List KnownVariable → Type 0) (all : List ContextShape)
      → ((w : Way) (ctx : SchemeContext) (vars : List Variable) (ks : List KnownVariable) → P w ctx vars ks ↔ Q w ctx vars ks)
      → AreShapesOf sig scope metas ts c P all → AreShapesOf sig scope metas ts c Q all
  same_shapes P Q all h s = record {
    sound = all_also (Sound P) (Sound Q) all (λ t f w x r. (h w x.0 (shape_variables sig scope c.0 t) x.1).0 (f w x r)) s.sound;
    complete = λ w ctx vars ks q. s.complete w ctx vars ks ((h w ctx vars ks).1 q);
    in_order = s.in_order;
  }

  -- one list after another, each shape of the first before all of the second
  pub order_append : (xs ys : List ContextShape) → Ordered xs → Ordered ys → AllByRecursion (λ x. AllByRecursion (Before x) ys) xs → Ordered (xs ++ ys)
  order_append [] ys h k apart = k
  order_append (x ∷ xs) ys h k apart = (all_append (Before x) xs ys h.0 apart.0, order_append xs ys h.1 k apart.1)

  -- one list after another
  pub joined_shapes : (P Q : Way → SchemeContext → List Variable → List KnownVariable → Type 0) (xs ys : List ContextShape)
      → ((v w : Way) (a b : SchemeContext) (vs us : List Variable) (ks ls : List KnownVariable) → P v a vs ks → Q w b us ls → IsBefore v w)
      → AreShapesOf sig scope metas ts c P xs → AreShapesOf sig scope metas ts c Q ys
      → AreShapesOf sig scope metas ts c (λ w ctx vars ks. P w ctx vars ks ⊎ Q w ctx vars ks) (xs ++ ys)
  joined_shapes P Q xs ys apart f g = record {
    sound = all_append (Sound (Either P Q)) xs ys (all_also (Sound P) (Sound (Either P Q)) xs (λ s h w x r. inl (h w x r)) f.sound)
        (all_also (Sound Q) (Sound (Either P Q)) ys (λ s h w x r. inr (h w x r)) g.sound);
    complete = complete;
    in_order = order_append xs ys f.in_order g.in_order
        (all_also (Sound P) (λ s. AllByRecursion (Before s) ys) xs
        (λ s h. all_also (Sound Q) (Before s) ys
        (λ t k v w x y p q. apart v w x.0 y.0 (shape_variables sig scope c.0 s) (shape_variables sig scope c.0 t) x.1 y.1 (h v x p) (k w y q)) g.sound) f.sound);
  }
    where
      complete : (w : Way) (ctx : SchemeContext) (vars : List Variable) (ks : List KnownVariable) → P w ctx vars ks ⊎ Q w ctx vars ks
          → (s : ContextShape) × Contains (xs ++ ys) s × (vars ≡ shape_variables sig scope c.0 s) × ReadsInShape sig scope metas ts c s w (ctx, ks)
      complete w ctx vars ks (inl r) = let s = f.complete w ctx vars ks r in (s.0, Contains-append_left xs ys s.0 s.1, s.2, s.3)
      complete w ctx vars ks (inr r) = let s = g.complete w ctx vars ks r in (s.0, Contains-append_right xs ys s.0 s.1, s.2, s.3)

  -- shapes with the same entry more stand as they did
  with_before : (e : EntryShape) (s t : ContextShape) → Before s t → Before (entered s e) (entered t e)
  with_before e s t h v w x y p q =
      before_at v w _ _ p.4 q.4 (inr (refl, inr (refl, inl (h p.0 q.0 p.2 q.2 p.6 q.6))))

  order_with : (e : EntryShape) (inner : List ContextShape) → Ordered inner → Ordered (with_entries e inner)
  order_with e [] h = tt
  order_with e (s ∷ inner) h = (all_with (Before s) (Before (entered s e)) e inner (λ t k. with_before e s t k) h.0, order_with e inner h.1)

  -- and before those whose entry is split later
  split_before : (p before : ℕ) (d e : Divided) (s t : ContextShape) → ComesBefore (lengths d.1) (lengths e.1)
      → Before (entered s (entry_of_split p before d)) (entered t (entry_of_split p before e))
  split_before p before d e s t h v w x y f g =
      before_at v w _ _ f.4 g.4 (inr (refl, inl (inr (refl, h))))

  pub order_crossed : (p before : ℕ) (inner : List ContextShape) (ds : List Divided) → Ordered inner → AreInOrder ds → Ordered (crossed p before inner ds)
  order_crossed p before inner [] h k = tt
  order_crossed p before inner (d ∷ ds) h k =
      order_append (with_entries (entry_of_split p before d) inner) (crossed p before inner ds) (order_with (entry_of_split p before d) inner h)
      (order_crossed p before inner ds h k.1)
      (all_with (λ _. Unit {0}) (λ x. AllByRecursion (Before x) (crossed p before inner ds)) (entry_of_split p before d) inner
      (λ s _. all_crossed p before inner (λ _. Unit {0}) (λ (e : Divided). ComesBefore (lengths d.1) (lengths e.1)) (Before (entered s (entry_of_split p before d))) ds
      (λ e t b _. split_before p before d e s t b) (all_always (λ _. Unit {0}) (λ _. tt) inner) k.0)
      (all_always (λ _. Unit {0}) (λ _. tt) inner))
