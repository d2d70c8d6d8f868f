-- The number of a known variable, found name by name.
use Rattle.std.proofs.Common.{◌≡◌, ◌≢◌, ℕ, ◌+◌, ◌<◌, ◌≤◌, List, [], ◌∷◌, ◌++◌, length, map, take, get_or, ap, ◌∙◌, sym, subst, arith, Option, Some, MatchOption}
use Rattle.std.specs.List.{AllByRecursion}
use Rattle.std.proofs.lemmas.List.{map_more, length-map}
use Rattle.std.proofs.lemmas.Option.{slice_get_past}
use Rattle.scheme_terms.specs.Forms.{KnownVariable}
use Rattle.scheme_terms.specs.View.{known_variable}
use Rattle.scheme_terms.specs.declared.scheme.KnownDecl.{KnownDecl}
use Rattle.rule_schemes.specs.Reading.{IsKnownNumber}
use Rattle.binding_terms.proofs.Lists.{all_append, get_mapped_or}

module _ (knowns : List KnownDecl) (name : List ℕ) where
  abbrev Matches : ℕ → Option KnownVariable → Type 0
  Matches n o = MatchOption o ((n ≡ length (map known_variable knowns)) × AllByRecursion (λ (k : KnownVariable). k.name ≢ name) (map known_variable knowns)) (λ (k : KnownVariable). k.name ≡ name)

  pub known_here : (i : ℕ) (here : KnownDecl) → i < length knowns → here ≡ get_or knowns i here → here.name ≡ name → IsKnownNumber (map known_variable knowns) name i
  known_here i here lt is e =
      subst (Matches i) (sym (get_mapped_or known_variable knowns i here lt ∙ ap (λ k. Some (known_variable k)) (sym is))) e

  pub known_later : (i : ℕ) (here : KnownDecl) → i < length knowns → here ≡ get_or knowns i here → (here.name ≡ name → ⊥)
      → AllByRecursion (λ (k : KnownVariable). k.name ≢ name) (map known_variable (take i knowns)) → AllByRecursion (λ (k : KnownVariable). k.name ≢ name) (map known_variable (take (i + 1) knowns))
  known_later i here lt is other all =
      subst (AllByRecursion (λ (k : KnownVariable). k.name ≢ name))
      (sym (map_more known_variable knowns i here lt ∙ ap (λ k. map known_variable (take i knowns) ++ known_variable k ∷ []) (sym is)))
      (all_append (λ (k : KnownVariable). k.name ≢ name) (map known_variable (take i knowns)) (known_variable here ∷ []) all (other, tt))

  pub known_next : AllByRecursion (λ (k : KnownVariable). k.name ≢ name) (map known_variable knowns) → IsKnownNumber (map known_variable knowns) name (length knowns)
  known_next all =
      let long : length knowns ≡ length (map known_variable knowns) = sym (length-map knowns known_variable) in
      let past : length (map known_variable knowns) ≤ length knowns = omega (arith, long) in
      subst (Matches (length knowns)) (sym (slice_get_past (map known_variable knowns) (length knowns) past)) (long, all)
