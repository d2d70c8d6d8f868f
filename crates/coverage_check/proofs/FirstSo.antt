-- The first element that is so, looked for from the first on.
use Rattle.std.proofs.Common.{◌≡◌, inl, inr, ℕ, suc, ◌+◌, ◌<◌, ◌≤◌, List, length, drop, get_or, Option, Some, None, refl, sym, subst, arith}
use Rattle.std.proofs.lemmas.List.{drop_all}
use Rattle.binding_terms.proofs.Lists.{drop_from}
use Rattle.coverage_check.specs.Missing.{IsFirstSo}

module _ {X : Type 0} (P : X → Type 0) (xs : List X) (Q : Option ℕ → Type 0) where
  -- What is left of a list decides the answer.
  abbrev pub IsLeftTo : ℕ → Type 0
  IsLeftTo i = (o : Option ℕ) → IsFirstSo P i (drop i xs) o → Q o

  module _ (i : ℕ) (x : X) (below : i < length xs) (at : x ≡ get_or xs i x) (left : IsLeftTo i) where
    -- an element that is so is the first
    pub first_here : P x → Q (Some i)
    first_here is = left (Some i) (subst (λ ys. IsFirstSo P i ys (Some i)) (sym (drop_from xs i x below at)) (inl (is, refl)))

    -- one that is not leaves the ones after it
    pub first_later : (P x → ⊥) → IsLeftTo (i + 1)
    first_later isnt o rest = left o (subst (λ ys. IsFirstSo P i ys o) (sym (drop_from xs i x below at))
        (inr (isnt, subst (λ n. IsFirstSo P n (drop (i + 1) xs) o) (let e : i + 1 ≡ suc i = omega arith in e) rest)))

  -- at the end none is so
  pub first_nowhere : (i : ℕ) → length xs ≤ i → IsLeftTo i → Q None
  first_nowhere i past left = left None (subst (λ ys. IsFirstSo P i ys None) (sym (drop_all i xs past)) refl)
