-- The shapes of contexts, listed place by place and production by production.
use Rattle.std.proofs.Common.{◌⊎◌, ℕ, ◌+◌, ◌≤◌, List, [], ◌++◌, length, map, inl, inr, sym, subst, arith, slice_range}
use Rattle.std.proofs.lemmas.List.{map-append}
use Rattle.std.proofs.lemmas.Option.{slice_get_within}
use Rattle.binding_terms.specs.declared.grammar.CatId.{CatId}
use Rattle.binding_terms.specs.declared.grammar.Item.{Item}
use Rattle.scheme_terms.specs.Forms.{SchemeContext, KnownVariable}
use Rattle.rule_schemes.specs.Reading.{Variable, ReadingScope}
use Rattle.rule_schemes.specs.Said.{Way, IsBefore}
use Rattle.term_reader.specs.Splitting.{tokens_of}
use Rattle.term_reader.specs.declared.sheet.Sheet.{Sheet}
use Rattle.notation_parser.specs.Shapes.{ContextShape, context_shape, IsUsable, ReadsContextAt}
use Rattle.notation_parser.specs.ContextCases.{IsNamed, IsEnteredAt, IsEnteredBelow, IsContextBy, IsContextBelow, IsKnownBy, IsKnownBelow, BeginsNewly, AreListed}
use Rattle.notation_parser.specs.declared.shaping.Shape.{Shape}
use Rattle.notation_parser.proofs.ContextBeginnings.{nothing_listed, same_listed}
use Rattle.notation_parser.proofs.ContextReadings.{all_contexts, contexts_apart, one_context_more, entries_apart, one_entry_more, known_last_of_all, known_apart, one_known_more}
use Rattle.notation_parser.proofs.ShapeLists.{joined_shapes}
use Rattle.binding_terms.proofs.Lists.{all_append}

module _ (sheet : Sheet) (scope : ReadingScope) (c : CatId) where
  listed_append : (P Q : Way → SchemeContext → List Variable → List KnownVariable → Type 0) (xs ys : List Shape)
      → ((v w : Way) (a b : SchemeContext) (vs us : List Variable) (ks ls : List KnownVariable) → P v a vs ks → Q w b us ls → IsBefore v w)
      → AreListed sheet scope c P (map context_shape xs) → AreListed sheet scope c Q (map context_shape ys)
      → AreListed sheet scope c (λ w ctx vars ks. P w ctx vars ks ⊎ Q w ctx vars ks) (map context_shape (xs ++ ys))
  listed_append P Q xs ys apart f g =
      subst (AreListed sheet scope c (λ w ctx vars ks. P w ctx vars ks ⊎ Q w ctx vars ks)) (sym (map-append context_shape xs ys)) (
        joined_shapes sheet.sig.now scope sheet.metas.now (tokens_of sheet) c P Q (map context_shape xs) (map context_shape ys) apart f.0 g.0,
        all_append (IsUsable sheet) (map context_shape xs) (map context_shape ys) f.1 g.1,
      )

  module _ (from to : ℕ) (start : from ≤ to) (within : to ≤ length (tokens_of sheet)) where
    abbrev Below : ℕ → Way → SchemeContext → List Variable → List KnownVariable → Type 0
    Below n = IsContextBelow n sheet.sig.now scope sheet.metas.now c (tokens_of sheet) from to

    abbrev By : ℕ → Way → SchemeContext → List Variable → List KnownVariable → Type 0
    By n = IsContextBy sheet.sig.now scope sheet.metas.now c (tokens_of sheet) from to n

    abbrev EnteredBelow : (p : ℕ) → List Item → ℕ → Way → SchemeContext → List Variable → List KnownVariable → Type 0
    EnteredBelow p items n = IsEnteredBelow n sheet.sig.now scope sheet.metas.now c (tokens_of sheet) from to p items

    abbrev EnteredAt : (p : ℕ) → List Item → ℕ → Way → SchemeContext → List Variable → List KnownVariable → Type 0
    EnteredAt p items n = IsEnteredAt sheet.sig.now scope sheet.metas.now c (tokens_of sheet) from to p items n

    pub no_entries : (p : ℕ) (items : List Item) → AreListed sheet scope c (EnteredBelow p items from) []
    no_entries p items = nothing_listed sheet scope c (EnteredBelow p items from) (λ w ctx vars ks h. omega (arith, h.1, h.2))

    pub entries_more : (p : ℕ) (items : List Item) (n : ℕ) → from ≤ n → (xs ys : List Shape) → AreListed sheet scope c (EnteredBelow p items n) (map context_shape xs)
        → AreListed sheet scope c (EnteredAt p items n) (map context_shape ys) → AreListed sheet scope c (EnteredBelow p items (n + 1)) (map context_shape (xs ++ ys))
    entries_more p items n le xs ys f g =
        same_listed sheet scope c (λ w ctx vars ks. EnteredBelow p items n w ctx vars ks ⊎ EnteredAt p items n w ctx vars ks) (EnteredBelow p items (n + 1)) (map context_shape (xs ++ ys))
        (λ w ctx vars ks. one_entry_more sheet.sig.now scope sheet.metas.now c (tokens_of sheet) from to start within p items n le w ctx vars ks)
        (listed_append (EnteredBelow p items n) (EnteredAt p items n) xs ys
        (λ v w a b vs us ks ls. entries_apart sheet.sig.now scope sheet.metas.now c (tokens_of sheet) from to start within p items n v w a b vs us ks ls) f g)

    pub names_first : (all : List ContextShape) → AreListed sheet scope c (IsNamed sheet.sig.now scope c (slice_range (tokens_of sheet) from to)) all
        → AreListed sheet scope c (Below 0) all
    names_first all = same_listed sheet scope c (IsNamed sheet.sig.now scope c (slice_range (tokens_of sheet) from to)) (Below 0) all (λ w ctx vars ks. (λ h. inl h, λ h. back w ctx vars ks h))
      where
        back : (w : Way) (ctx : SchemeContext) (vars : List Variable) (ks : List KnownVariable) → Below 0 w ctx vars ks
            → IsNamed sheet.sig.now scope c (slice_range (tokens_of sheet) from to) w ctx vars ks
        back w ctx vars ks (inl h) = h
        back w ctx vars ks (inr h) = absurd (omega (arith, h.1))

    pub contexts_more : (n : ℕ) (xs ys : List Shape) → AreListed sheet scope c (Below n) (map context_shape xs)
        → AreListed sheet scope c (By n) (map context_shape ys) → AreListed sheet scope c (Below (n + 1)) (map context_shape (xs ++ ys))
    contexts_more n xs ys f g =
        same_listed sheet scope c (λ w ctx vars ks. Below n w ctx vars ks ⊎ By n w ctx vars ks) (Below (n + 1)) (map context_shape (xs ++ ys))
        (λ w ctx vars ks. one_context_more sheet.sig.now scope sheet.metas.now c (tokens_of sheet) from to start within n w ctx vars ks)
        (listed_append (Below n) (By n) xs ys
        (λ v w a b vs us ks ls. contexts_apart sheet.sig.now scope sheet.metas.now c (tokens_of sheet) from to start within n v w a b vs us ks ls) f g)

    abbrev KnownBelow : ℕ → Way → SchemeContext → List Variable → List KnownVariable → Type 0
    KnownBelow n = IsKnownBelow n sheet.sig.now scope sheet.metas.now c (tokens_of sheet) from to

    abbrev KnownBy : ℕ → Way → SchemeContext → List Variable → List KnownVariable → Type 0
    KnownBy n = IsKnownBy sheet.sig.now scope sheet.metas.now c (tokens_of sheet) from to n

    pub nothing_known : (n : ℕ) → (BeginsNewly sheet.sig.now c.0 (tokens_of sheet) from to → ⊥) → AreListed sheet scope c (KnownBelow n) []
    nothing_known n h = nothing_listed sheet scope c (KnownBelow n) (λ w ctx vars ks k. h k.2)

    pub none_known_below : AreListed sheet scope c (KnownBelow 0) []
    none_known_below = nothing_listed sheet scope c (KnownBelow 0) (λ w ctx vars ks h. omega (arith, h.1))

    pub known_more : (n : ℕ) → BeginsNewly sheet.sig.now c.0 (tokens_of sheet) from to → (xs ys : List Shape)
        → AreListed sheet scope c (KnownBelow n) (map context_shape xs) → AreListed sheet scope c (KnownBy n) (map context_shape ys)
        → AreListed sheet scope c (KnownBelow (n + 1)) (map context_shape (xs ++ ys))
    known_more n begun xs ys f g =
        same_listed sheet scope c (λ w ctx vars ks. KnownBelow n w ctx vars ks ⊎ KnownBy n w ctx vars ks) (KnownBelow (n + 1)) (map context_shape (xs ++ ys))
        (λ w ctx vars ks. one_known_more sheet.sig.now scope sheet.metas.now c (tokens_of sheet) from to start within n begun w ctx vars ks)
        (listed_append (KnownBelow n) (KnownBy n) xs ys
        (λ v w a b vs us ks ls. known_apart sheet.sig.now scope sheet.metas.now c (tokens_of sheet) from to start within n v w a b vs us ks ls) f g)

    pub all_known : (n : ℕ) → length sheet.sig.now.prods ≤ n → (all : List ContextShape) → AreListed sheet scope c (KnownBelow n) all
        → AreListed sheet scope c (KnownBelow (length sheet.sig.now.prods)) all
    all_known n le all = same_listed sheet scope c (KnownBelow n) (KnownBelow (length sheet.sig.now.prods)) all
        (λ w ctx vars ks. (λ h. (h.0, slice_get_within sheet.sig.now.prods h.0 (h.3).0 (h.3).1, h.2, h.3), λ h. (h.0, omega (arith, h.1, le), h.2, h.3)))

    pub all_shapes : (n : ℕ) (xs ys : List Shape) → length sheet.sig.now.prods ≤ n → AreListed sheet scope c (Below n) (map context_shape xs)
        → AreListed sheet scope c (KnownBelow (length sheet.sig.now.prods)) (map context_shape ys)
        → AreListed sheet scope c (ReadsContextAt sheet.sig.now scope sheet.metas.now c.0 (slice_range (tokens_of sheet) from to)) (map context_shape (xs ++ ys))
    all_shapes n xs ys le f g =
        let m = length sheet.sig.now.prods in
        same_listed sheet scope c (λ w ctx vars ks. Below n w ctx vars ks ⊎ KnownBelow m w ctx vars ks)
        (ReadsContextAt sheet.sig.now scope sheet.metas.now c.0 (slice_range (tokens_of sheet) from to)) (map context_shape (xs ++ ys))
        (λ w ctx vars ks. all_contexts sheet.sig.now scope sheet.metas.now c (tokens_of sheet) from to start within n le w ctx vars ks)
        (listed_append (Below n) (KnownBelow m) xs ys
        (λ v w a b vs us ks ls. known_last_of_all sheet.sig.now scope sheet.metas.now c (tokens_of sheet) from to start within n m v w a b vs us ks ls) f g)
