-- Readings of slots before readings of what stands behind them.
use Rattle.std.proofs.Common.{◌≡◌, ◌⊎◌, ℕ, List, [], ◌∷◌, ◌++◌, map, inl, inr, refl, ap, ◌∙◌, sym, subst}
use Rattle.std.proofs.lemmas.List.{append-nil}
use Rattle.rule_schemes.specs.Said.{Way, way, then_way, ComesBefore, IsBefore, AreBefore}
use Rattle.scheme_terms.specs.SchemeTree.{SchemeTree, meta, known, local, con}
use Rattle.ordered_readings.specs.AnswerView.{with_first, behind, slot_place}
use Rattle.ordered_readings.proofs.FirstTwo.{first_product}
use Rattle.ordered_readings.specs.FirstTwo.{pairs, AreInOrder, AreFirst, AreFirstOf}
use Rattle.ordered_readings.proofs.Adding.{already}
use Rattle.ordered_readings.proofs.Transitive.{before_transitive}

module _ {A B C : Type 0} where
  -- each of one thing before others that are in order
  pub one_pair : (f : Way × A → Way × B → Way × C) (d : Way × A) (es : List (Way × B)) → AreInOrder IsBefore (map (f d) es)
      → AreFirstOf IsBefore (pairs f (d ∷ []) es) (map (f d) es)
  one_pair f d es order =
      subst (λ xs. AreFirstOf IsBefore xs (map (f d) es)) (sym (append-nil (map (f d) es))) (already IsBefore before_transitive (map (f d) es) order)

  pub two_pairs : (f : Way × A → Way × B → Way × C) (a b : Way × A) (es : List (Way × B)) → pairs f (a ∷ b ∷ []) es ≡ map (f a) es ++ map (f b) es
  two_pairs f a b es = ap (λ xs. map (f a) es ++ xs) (append-nil (map (f b) es))

-- a slot whose place is before makes the whole before, and so does what stands behind it
pub slot_first : (n : ℕ) (v w : Way) (u : Way) → IsBefore v w → IsBefore (slot_place n v u) (slot_place n w u)
slot_first n v w (way a ls us) h = inr (refl, inr (refl, inl h))

pub slot_second : (n : ℕ) (u v w : Way) → IsBefore v w → IsBefore (slot_place n u v) (slot_place n u w)
slot_second n u (way a ls vs) (way b ms ws) (inl lt) = inl lt
slot_second n u (way a ls vs) (way b ms ws) (inr h) = inr (h.0, inside h.1)
  where
    inside : ComesBefore ls ms ⊎ ((ls ≡ ms) × AreBefore vs ws) → ComesBefore (n ∷ ls) (n ∷ ms) ⊎ ((n ∷ ls ≡ n ∷ ms) × AreBefore (then_way u vs) (then_way u ws))
    inside (inl c) = inl (inr (refl, c))
    inside (inr c) = inr (ap (λ ks. n ∷ ks) c.0, inr (refl, c.1))

-- something with parts or values
abbrev pub HasParts : SchemeTree → Type 0
HasParts (meta m vs) = Unit {0}
HasParts (con p xs) = Unit {0}
HasParts _ = ⊥

-- what has parts tells what was put before it
pub with_first_apart : (m : ℕ) (s t a b : SchemeTree) → HasParts a → HasParts b → with_first m s a ≡ with_first m t b → (s ≡ t) × (a ≡ b)
with_first_apart m s t (con p xs) (con q ys) h k e =
    let number : p ≡ q = cc in
    let first : s ≡ t = cc in
    let rest : xs ≡ ys = cc in
    (first, ap (λ n. con n xs) number ∙ ap (con q) rest)
with_first_apart m s t (meta p vs) (meta q us) h k e =
    let number : p ≡ q = cc in
    let first : s ≡ t = cc in
    let rest : vs ≡ us = cc in
    (first, ap (λ n. meta n vs) number ∙ ap (meta q) rest)
with_first_apart m s t (con p xs) (meta q us) h k e = absurd (cc)
with_first_apart m s t (meta p vs) (con q ys) h k e = absurd (cc)
with_first_apart m s t (known i) b h k e = absurd h
with_first_apart m s t (local i) b h k e = absurd h
with_first_apart m s t (con p xs) (known j) h k e = absurd k
with_first_apart m s t (con p xs) (local j) h k e = absurd k
with_first_apart m s t (meta p vs) (known j) h k e = absurd k
with_first_apart m s t (meta p vs) (local j) h k e = absurd k

-- a slot that is read as the first, of that length, before something that is read as the second
abbrev pub ReadsBehind : (length binds : ℕ) → (P Q : Way → SchemeTree → Type 0) → Way → SchemeTree → Type 0
ReadsBehind n m P Q w s =
    (v : Way) × (a : SchemeTree) × (u : Way) × (b : SchemeTree) × P v a × Q u b × (w ≡ slot_place n v u) × (s ≡ with_first m a b)

-- the first two of a slot before what stands behind it are the first two of the pairs
pub first_behind : (n m : ℕ) (P Q : Way → SchemeTree → Type 0) (xs ys zs : List (Way × SchemeTree)) → ((w : Way) (s : SchemeTree) → Q w s → HasParts s)
    → AreFirst IsBefore P xs → AreFirst IsBefore Q ys → AreFirstOf IsBefore (pairs (behind n m) xs ys) zs
    → AreFirst IsBefore (ReadsBehind n m P Q) zs
first_behind n m P Q xs ys zs parts f g h =
    first_product IsBefore IsBefore IsBefore before_transitive P Q (slot_place n) (with_first m) (λ k l u. slot_first n k l u) (λ u k l. slot_second n u k l)
    (λ k l u v a b c d p q r t e. with_first_apart m a b c d (parts u c r) (parts v d t) e) xs ys f g zs h
