-- A scheme is what its lowered form becomes, where the locals around it that it holds are all among the arguments.
use Rattle.std.proofs.Common.{◌≡◌, ◌≢◌, ◌⊎◌, ℕ, suc, ◌+◌, ◌-◌, ◌<◌, ◌≤◌, ◌==◌, Bool, true, false, List, [], ◌∷◌, length, map, get_or, inl, inr, refl, ap, ◌∙◌, arith}
use Rattle.std.specs.List.{AllByRecursion}
use Rattle.std.proofs.lemmas.Bool.{cases_lt}
use Rattle.std.proofs.lemmas.Bool.Decides.{nat_tests}
use Rattle.scheme_terms.specs.SchemeTree.{SchemeTree, local, filled, IsFreeOf}
use Rattle.scheme_terms.specs.Substituting.{argument_or_local}
use Rattle.scheme_terms.specs.Demands.{parameter_of, variable_of, lowered}
use Rattle.scheme_terms.proofs.Lowering.{renaming, renaming_at, renaming_past, arguments_rename, told, not_told, variable_at, variable_past}
use Rattle.scheme_terms.proofs.SchemeSubstitutions.{filled_filled, filled_stays}

-- a local is an argument, whose parameter is found, or none
pub argument_cases : (is : List ℕ) (i : ℕ) → AllByRecursion (λ j. j ≢ i) is ⊎ ((k : ℕ) × (k < length is) × (get_or is k 0 ≡ i) × (parameter_of is i ≡ length is - 1 - k))
argument_cases [] i = inl tt
argument_cases (a ∷ is) i = at (a == i) refl (argument_cases is i)
  where
    at : (b : Bool) → (a == i) ≡ b → AllByRecursion (λ j. j ≢ i) is ⊎ ((k : ℕ) × (k < length is) × (get_or is k 0 ≡ i) × (parameter_of is i ≡ length is - 1 - k)) →
        AllByRecursion (λ j. j ≢ i) (a ∷ is) ⊎ ((k : ℕ) × (k < length (a ∷ is)) × (get_or (a ∷ is) k 0 ≡ i) × (parameter_of (a ∷ is) i ≡ length (a ∷ is) - 1 - k))
    at true e rest =
        let same : a ≡ i = grind (arith, nat_tests) in
        inr (0, omega arith, same, told a i (length is) (parameter_of is i) same ∙ (let z : length is ≡ suc (length is) - 1 - 0 = omega arith in z))
    at false e rest =
        let other : a ≢ i = λ same. grind (arith, nat_tests) in
        elim rest [
          | inl none ↦ inl (other, none)
          | inr found ↦ inr (
            suc found.0,
            omega (arith, found.1),
            found.2,
            not_told a i (length is) (parameter_of is i) other ∙ found.3 ∙ (let z : length is - 1 - found.0 ≡ suc (length is) - 1 - suc found.0 = omega (arith, found.1) in z),
          )
        ]

-- lowered and applied again, a scheme is the same
pub filled_lowered : (is : List ℕ) (d : ℕ) (t : SchemeTree) → ((i : ℕ) → i < d → AllByRecursion (λ j. j ≢ i) is → IsFreeOf i t) →
    filled (argument_or_local d (map local is)) (lowered is d t) ≡ t
filled_lowered is d t over =
    filled_filled (λ i. local (variable_of is d i)) (argument_or_local d (map local is)) t
    ∙ filled_stays (λ i. argument_or_local d (map local is) (variable_of is d i)) t (λ i. at i (cases_lt i d))
  where
    at : (i : ℕ) → (i < d) ⊎ (d ≤ i) → (argument_or_local d (map local is) (variable_of is d i) ≡ local i) ⊎ IsFreeOf i t
    at i (inl near) = elim (argument_cases is i) [
      | inl none ↦ inr (over i near none)
      | inr found ↦ inl (arguments_rename d is (variable_of is d i) ∙ ap (λ k. local (renaming d is k)) (variable_at is d i near ∙ found.3)
          ∙ ap local (renaming_at d is (length is - 1 - found.0) (omega (arith, found.1))
          ∙ ap (λ k. get_or is k 0) (let z : length is - 1 - (length is - 1 - found.0) ≡ found.0 = omega (arith, found.1) in z) ∙ found.2))
    ]
    at i (inr far) = inl (arguments_rename d is (variable_of is d i) ∙ ap (λ k. local (renaming d is k)) (variable_past is d i far)
        ∙ ap local (renaming_past d is (i - d + length is) (omega arith) ∙ (let z : i - d + length is - length is + d ≡ i = omega arith in z)))
