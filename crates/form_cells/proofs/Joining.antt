-- The first readings of one kind or another, of one part before another, and of any length.
use Rattle.std.proofs.Common.{◌≡◌, ◌⊎◌, ◌↔◌, ℕ, ◌+◌, List, [], ◌∷◌, ◌++◌, length, map, inl, inr, refl, ap, ◌∙◌, arith}
use Rattle.scheme_terms.specs.SchemeTree.{SchemeTree}
use Rattle.rule_schemes.specs.Said.{Way, IsBefore}
use Rattle.ordered_readings.specs.AnswerView.{behind, IsRow, AreRows}
use Rattle.ordered_readings.specs.Cells.{TakesFirst, TakesFewer}
use Rattle.ordered_readings.specs.FirstTwo.{IsOneOf, pairs, AreInOrder, IsListed, ComesAfterTwo, AreComparable, AreFirst, AreFirstOf}
use Rattle.ordered_readings.proofs.FirstTwo.{in_either, of_pairs, first_same, first_union, first_none}
use Rattle.ordered_readings.proofs.CellLemmas.{fewer_same}
use Rattle.ordered_readings.proofs.PairLemmas.{HasParts, ReadsBehind, first_behind, slot_second, with_first_apart}
use Rattle.ordered_readings.proofs.Transitive.{before_transitive}

-- of two readings, one is before the other, or both are at one place and say the same
abbrev pub AreOrdered : (Way → SchemeTree → Type 0) → Type 0
AreOrdered R = (v w : Way) (s t : SchemeTree) → R v s → R w t → IsBefore v w ⊎ (((v ≡ w) × (s ≡ t)) ⊎ IsBefore w v)

same_pair : {v w : Way} {s t : SchemeTree} → v ≡ w → s ≡ t → ◌≡◌ {A = Way × SchemeTree} (v, s) (w, t)
same_pair {v} {w} {s} {t} e f = ap (λ x. (x, s)) e ∙ ap (λ y. (w, y)) f

pub comparable : (R : Way → SchemeTree → Type 0) (xs : List (Way × SchemeTree)) → AreOrdered R
    → ((w : Way) (s : SchemeTree) → IsOneOf (w, s) xs → R w s) → AreComparable IsBefore xs
comparable R xs order have = λ d e i j. go d e (order d.0 e.0 d.1 e.1 (have d.0 d.1 i) (have e.0 e.1 j))
  where
    go : (d e : Way × SchemeTree) → IsBefore d.0 e.0 ⊎ (((d.0 ≡ e.0) × (d.1 ≡ e.1)) ⊎ IsBefore e.0 d.0) → IsBefore d.0 e.0 ⊎ ((d ≡ e) ⊎ IsBefore e.0 d.0)
    go d e (inl b) = inl b
    go d e (inr (inl h)) = inr (inl (same_pair h.0 h.1))
    go d e (inr (inr b)) = inr (inr b)

-- what `joined` answers
abbrev pub IsJoined : (found more new : List (Way × SchemeTree)) → Type 0
IsJoined xs ys zs = AreInOrder IsBefore xs → AreComparable IsBefore (ys ++ xs) → AreFirstOf IsBefore (ys ++ xs) zs

pub joined_first : (R P Q T : Way → SchemeTree → Type 0) (xs ys zs : List (Way × SchemeTree)) → AreOrdered R
    → ((w : Way) (s : SchemeTree) → T w s → R w s) → ((w : Way) (s : SchemeTree) → (P w s ⊎ Q w s) ↔ T w s)
    → AreFirst IsBefore P xs → AreFirst IsBefore Q ys → IsJoined xs ys zs → AreFirst IsBefore T zs
joined_first R P Q T xs ys zs order part same f g h =
    first_same IsBefore before_transitive (λ w s. P w s ⊎ Q w s) T zs same
    (first_union IsBefore before_transitive P Q xs ys zs f g (h f.in_order (comparable R (ys ++ xs) order have)))
  where
    have : (w : Way) (s : SchemeTree) → IsOneOf (w, s) (ys ++ xs) → R w s
    have w s i =
        elim (in_either (w, s) ys xs i) [ inl j ↦ part w s ((same w s).0 (inr (g.have w s j))) | inr j ↦ part w s ((same w s).0 (inl (f.have w s j))) ]

-- with one more length of the first slot
pub lengths_first : (R : Way → SchemeTree → Type 0) (n : ℕ) (xs ys zs : List (Way × SchemeTree)) → AreOrdered R
    → AreFirst IsBefore (λ w s. R w s × TakesFewer n w) xs → AreFirst IsBefore (λ w s. R w s × TakesFirst n w) ys → IsJoined xs ys zs
    → AreFirst IsBefore (λ w s. R w s × TakesFewer (n + 1) w) zs
lengths_first R n xs ys zs order f g h =
    joined_first R (λ w s. R w s × TakesFewer n w) (λ w s. R w s × TakesFirst n w) (λ w s. R w s × TakesFewer (n + 1) w) xs ys zs order (λ w s k. k.0) both f g h
  where
    both : (w : Way) (s : SchemeTree) → ((R w s × TakesFewer n w) ⊎ (R w s × TakesFirst n w)) ↔ (R w s × TakesFewer (n + 1) w)
    both w s = (
      λ k. elim k [ inl i ↦ (i.0, (fewer_same n w).0 (inl i.1)) | inr i ↦ (i.0, (fewer_same n w).0 (inr i.1)) ],
      λ k. elim ((fewer_same n w).1 k.1) [ inl i ↦ inl (k.0, i) | inr i ↦ inr (k.0, i) ],
    )

-- where nothing is listed nothing has the property
pub none_listed : (P : Way → SchemeTree → Type 0) (xs : List (Way × SchemeTree)) → xs ≡ [] → AreFirst IsBefore P xs → (w : Way) (s : SchemeTree) → P w s → ⊥
none_listed P [] e f w s p = elim (f.all w s p) [ inl h ↦ h.1 | inr h ↦ h.2 ]
none_listed P (x ∷ xs) e f w s p = absurd (cc)

pub same_first : (P T : Way → SchemeTree → Type 0) (xs : List (Way × SchemeTree)) → ((w : Way) (s : SchemeTree) → P w s ↔ T w s) → AreFirst IsBefore P xs → AreFirst IsBefore T xs
same_first P T xs same f = first_same IsBefore before_transitive P T xs same f

pub no_first : (P : Way → SchemeTree → Type 0) → ((w : Way) (s : SchemeTree) → P w s → ⊥) → AreFirst IsBefore P []
no_first P none = first_none IsBefore before_transitive P none

-- two are enough, where the others stand behind
pub two_first : (P Q T : Way → SchemeTree → Type 0) (xs : List (Way × SchemeTree)) → length xs ≡ 2 → ((w : Way) (s : SchemeTree) → (P w s ⊎ Q w s) ↔ T w s)
    → ((v w : Way) (s t : SchemeTree) → P v s → Q w t → IsBefore v w) → AreFirst IsBefore P xs → AreFirst IsBefore T xs
two_first P Q T [] two same before f = absurd (omega (arith, two))
two_first P Q T (a ∷ []) two same before f = absurd (omega (arith, two))
two_first P Q T (a ∷ (b ∷ (c ∷ xs))) two same before f = absurd (f.in_order)
two_first P Q T (a ∷ (b ∷ [])) two same before f = record { have = λ w s i. (same w s).0 (inl (f.have w s i)); in_order = f.in_order; all = all }
  where
    all : (w : Way) (s : SchemeTree) → T w s → IsListed IsBefore (a ∷ (b ∷ [])) w s ⊎ ComesAfterTwo IsBefore (a ∷ (b ∷ [])) w
    all w s t = elim ((same w s).1 t) [
      | inl p ↦ f.all w s p
      | inr q ↦ inr (a, b, inl refl, inr (inl refl), f.in_order.1, before a.0 w a.1 s (f.have a.0 a.1 (inl refl)) q, before b.0 w b.1 s (f.have b.0 b.1 (inr (inl refl))) q)
    ]

-- what `product` answers
abbrev pub IsProductOf : (length binds : ℕ) → (firsts rests new : List (Way × SchemeTree)) → Type 0
IsProductOf n m xs ys zs =
    AreRows ys → ((d : Way × SchemeTree) → IsOneOf d xs → AreInOrder IsBefore (map (behind n m d) ys))
    → AreComparable IsBefore (pairs (behind n m) xs ys) → AreFirstOf IsBefore (pairs (behind n m) xs ys) zs

rows_of : (ys : List (Way × SchemeTree)) → ((w : Way) (s : SchemeTree) → IsOneOf (w, s) ys → IsRow w) → AreRows ys
rows_of [] h = tt
rows_of (y ∷ ys) h = (h y.0 y.1 (inl refl), rows_of ys (λ w s i. h w s (inr i)))

order_behind : (n m : ℕ) (d : Way × SchemeTree) (ys : List (Way × SchemeTree)) → ((w : Way) (s : SchemeTree) → IsOneOf (w, s) ys → HasParts s)
    → AreInOrder IsBefore ys → AreInOrder IsBefore (map (behind n m d) ys)
order_behind n m d [] parts o = tt
order_behind n m d (a ∷ []) parts o = tt
order_behind n m d (a ∷ (b ∷ [])) parts o =
    (slot_second n d.0 a.0 b.0 o.0, λ e. o.1 (with_first_apart m d.1 d.1 a.1 b.1 (parts a.0 a.1 (inl refl)) (parts b.0 b.1 (inr (inl refl))) e).1)
order_behind n m d (a ∷ (b ∷ (c ∷ ys))) parts o = absurd o

module _ (n m : ℕ) (P Q T R : Way → SchemeTree → Type 0) (parts : (w : Way) (s : SchemeTree) → Q w s → HasParts s)
    (row : (w : Way) (s : SchemeTree) → Q w s → IsRow w) (order : AreOrdered R) (part : (w : Way) (s : SchemeTree) → T w s → R w s)
    (same : (w : Way) (s : SchemeTree) → ReadsBehind n m P Q w s ↔ T w s) (xs ys zs : List (Way × SchemeTree))
  where
    pub product_first : AreFirst IsBefore P xs → AreFirst IsBefore Q ys → IsProductOf n m xs ys zs → AreFirst IsBefore T zs
    product_first f g h = same_first (ReadsBehind n m P Q) T zs same (first_behind n m P Q xs ys zs parts f g (h rows each all))
      where
        rows : AreRows ys
        rows = rows_of ys (λ w s i. row w s (g.have w s i))

        each : (d : Way × SchemeTree) → IsOneOf d xs → AreInOrder IsBefore (map (behind n m d) ys)
        each d i = order_behind n m d ys (λ w s j. parts w s (g.have w s j)) g.in_order

        have : (w : Way) (s : SchemeTree) → IsOneOf (w, s) (pairs (behind n m) xs ys) → R w s
        have w s i =
            let r = of_pairs (behind n m) (w, s) xs ys i in
            part w s ((same w s).0 (
              r.0.0,
              r.0.1,
              r.1.0,
              r.1.1,
              f.have r.0.0 r.0.1 r.2,
              g.have r.1.0 r.1.1 r.3,
              ap (λ (x : Way × SchemeTree). x.0) r.4,
              ap (λ (x : Way × SchemeTree). x.1) r.4,
            ))

        all : AreComparable IsBefore (pairs (behind n m) xs ys)
        all = comparable R (pairs (behind n m) xs ys) order have
