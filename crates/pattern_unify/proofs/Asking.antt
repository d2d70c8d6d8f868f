-- What is asked by the equations that are left, one by one.
use Rattle.std.proofs.Common.{◌≡◌, ◌↔◌, ℕ, zero, suc, ◌+◌, ◌<◌, ◌≤◌, List, [], ◌∷◌, ◌++◌, length, map, drop, get_or, inl, inr, ap, ◌∙◌, sym, subst, arith}
use Rattle.std.proofs.lemmas.List.{length-map, length-reverse, length-append, map-append}
use Rattle.binding_terms.specs.Numbered.{AllNumbered}
use Rattle.binding_terms.proofs.Lists.{drop_from, numbered_push}
use Rattle.scheme_terms.specs.SchemeTree.{SchemeTree}
use Rattle.scheme_terms.specs.View.{scheme}
use Rattle.scheme_terms.specs.Demands.{Demands}
use Rattle.scheme_terms.specs.declared.scheme.Scheme.{Scheme}
use Rattle.pattern_unify.specs.Equations.{SchemeEquation, equation}
use Rattle.pattern_unify.specs.Asked.{IsAsked}
use Rattle.pattern_unify.specs.declared.equation.Equation.{Equation}

-- as many locals as categories
pub count_of_locals : (e : Equation) → length (equation e).locals ≡ length e.scope
count_of_locals e = length-reverse (map (λ c. c.0) e.scope) ∙ length-map e.scope (λ c. c.0)

module _ (eqs : List Equation) (m i : ℕ) (e : Equation) (below : i < length eqs) (is : e ≡ get_or eqs i e) (d : ℕ) (deep : d ≡ length e.scope) where
  abbrev AsksHere : SchemeTree → Type 0
  AsksHere v = Demands m d (scheme e.left) (scheme e.right) v

  first_asks : (v : SchemeTree) → AsksHere v → Demands m (length (equation e).locals) (scheme e.left) (scheme e.right) v
  first_asks v h = subst (λ k. Demands m k (scheme e.left) (scheme e.right) v) (deep ∙ sym (count_of_locals e)) h

  asks_first : (v : SchemeTree) → Demands m (length (equation e).locals) (scheme e.left) (scheme e.right) v → AsksHere v
  asks_first v h = subst (λ k. Demands m k (scheme e.left) (scheme e.right) v) (sym (deep ∙ sym (count_of_locals e))) h

  pub asked_here : (v : SchemeTree) → AsksHere v → IsAsked (map equation (drop i eqs)) m v
  asked_here v h = subst (λ (es : List Equation). IsAsked (map equation es) m v) (sym (drop_from eqs i e below is)) (inl (first_asks v h))

  pub asked_later : (W : SchemeTree → Type 0) → ((v : SchemeTree) → AsksHere v → ⊥) → ((v : SchemeTree) → IsAsked (map equation (drop i eqs)) m v ↔ W v) →
      (v : SchemeTree) → IsAsked (map equation (drop (i + 1) eqs)) m v ↔ W v
  asked_later W none all v =
      let same = drop_from eqs i e below is in (
        λ h. (all v).0 (subst (λ (es : List Equation). IsAsked (map equation es) m v) (sym same) (inr h)),
        λ w. elim (subst (λ (es : List Equation). IsAsked (map equation es) m v) same ((all v).1 w)) [
          | inl h ↦ absurd (none v (asks_first v h))
          | inr h ↦ h
        ],
      )

pub none_is_left : (eqs : List Equation) (m i : ℕ) (v : SchemeTree) → length eqs ≤ i → IsAsked (map equation (drop i eqs)) m v → ⊥
none_is_left [] m zero v past h = h
none_is_left [] m (suc i) v past h = h
none_is_left (e ∷ eqs) m zero v past h = absurd (let no : ⊥ = omega (arith, past) in no)
none_is_left (e ∷ eqs) m (suc i) v past h = none_is_left eqs m i v (omega (arith, past)) h

-- one value more
pub asked_more : (eqs : List SchemeEquation) (all new : List Scheme) (place name : ℕ) (value : Scheme) → name ≡ place → IsAsked eqs name (scheme value) →
    new ≡ all ++ value ∷ [] → (length (map scheme all) ≡ place) × AllNumbered (IsAsked eqs) 0 (map scheme all) →
    (length (map scheme new) ≡ place + 1) × AllNumbered (IsAsked eqs) 0 (map scheme new)
asked_more eqs all new place name value here asked more so_far =
    let same : map scheme new ≡ map scheme all ++ scheme value ∷ [] = ap (map scheme) more ∙ map-append scheme all (value ∷ []) in
    let long : length (map scheme all ++ scheme value ∷ []) ≡ place + 1 = length-append (map scheme all) (scheme value ∷ []) ∙ ap (λ n. n + 1) so_far.0 in
    let at : name ≡ 0 + length (map scheme all) = here ∙ sym so_far.0 ∙ (let e : length (map scheme all) ≡ 0 + length (map scheme all) = omega arith in e) in (
      ap length same ∙ long,
      subst (AllNumbered (IsAsked eqs) 0) (sym same)
          (numbered_push (IsAsked eqs) 0 (map scheme all) (scheme value) so_far.1 (subst (λ k. IsAsked eqs k (scheme value)) at asked)),
    )
