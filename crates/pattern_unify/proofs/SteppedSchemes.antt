-- A step of a run, and a substitution after it: both together are one substitution of the names before the step.
use Rattle.std.proofs.Common.{◌≡◌, ℕ, zero, suc, ◌≤◌, List, [], ◌∷◌, length, map, slice_get, unwrap_or, refl, ap, sym, ◌∙◌, subst, arith}
use Rattle.std.specs.List.{AllByRecursion, AllZip}
use Rattle.std.proofs.lemmas.List.{length-map}
use Rattle.std.proofs.lemmas.Slice.Zip.{AllZip-long}
use Rattle.binding_terms.specs.Signature.{Signature}
use Rattle.binding_terms.proofs.Lists.{each_map, match_map}
use Rattle.scheme_terms.specs.SchemeTree.{SchemeTree}
use Rattle.scheme_terms.specs.Forms.{Names, Substitution, KnownVariable}
use Rattle.scheme_terms.specs.SchemeScope.{IsScheme, IsKnownEntry, params_scope}
use Rattle.scheme_terms.specs.Substituting.{applied, known_for, composed, Suits, applied_entry, IsKnownValue}
use Rattle.scheme_terms.specs.declared.scheme.MetaDecl.{MetaDecl}
use Rattle.scheme_terms.proofs.AppliedSchemes.{applied_twice}
use Rattle.scheme_terms.proofs.Compositions.{same_arguments, entry_with}
use Rattle.pattern_unify.specs.Equations.{SchemeEquation}
use Rattle.pattern_unify.specs.Equations.{AreSides}
use Rattle.pattern_unify.specs.CommonInstance.{MakesEqual}
use Rattle.pattern_unify.specs.State.{Step, names_after, substitution_of, applied_equation, applied_known}
use Rattle.pattern_unify.proofs.Renaming.{KeepsCategories}
use Rattle.pattern_unify.proofs.TypedSuits.{IsTyped, typed_suits, typed_all_suit}

-- a number for a known variable after another, where there are as many
pub known_after : (ks js : List ℕ) (k : ℕ) → length ks ≡ length js → known_for (map (known_for js) ks) k ≡ known_for js (known_for ks k)
known_after ks js k long = at ks k k (λ far. sym (beyond js k (subst (λ n. n ≤ k) long far)))
  where
    beyond : (ns : List ℕ) (k : ℕ) → length ns ≤ k → known_for ns k ≡ k
    beyond ns k far = none ns k k far
      where
        none : (ns : List ℕ) (i k : ℕ) → length ns ≤ i → unwrap_or (slice_get ns i) k ≡ k
        none [] i k far = refl
        none (n ∷ ns) zero k far = absurd (let no : ⊥ = omega (arith, far) in no)
        none (n ∷ ns) (suc i) k far = none ns i k (omega (arith, far))

    at : (ns : List ℕ) (i d : ℕ) → (length ns ≤ i → d ≡ known_for js d) → unwrap_or (slice_get (map (known_for js) ns) i) d ≡ known_for js (unwrap_or (slice_get ns i) d)
    at [] i d far = far (omega arith)
    at (n ∷ ns) zero d far = refl
    at (n ∷ ns) (suc i) d far = at ns i d (λ more. far (omega (arith, more)))

module _ (sig : Signature) (names : Names) (step : Step) (keeps : KeepsCategories sig names (substitution_of names step)) (after : Substitution)
    (typed : AllZip (IsTyped sig after.into) (names_after names step).metas after.metas) (long : length after.knowns ≡ length names.knowns) where
  abbrev whole : Substitution
  whole = composed (substitution_of names step) after

  as_many : length step.knowns ≡ length names.knowns
  as_many = AllZip-long _ names.knowns step.knowns keeps.knowns

  after_long : length after.knowns ≡ length (names_after names step).knowns
  after_long = long ∙ sym (length-map names.knowns (applied_known step.metas step.knowns))

  pub step_suits : (ls : List ℕ) (c : ℕ) (s : SchemeTree) → IsScheme sig names ls c s → Suits step.metas step.knowns s
  step_suits ls c s h = typed_suits sig names (names_after names step) step.metas step.knowns keeps.metas as_many ls c s h

  pub values_suit : AllByRecursion (Suits after.metas after.knowns) step.metas
  values_suit = typed_all_suit sig (names_after names step) after.into after.metas after.knowns typed after_long names.metas step.metas keeps.metas

  pub both : (d : ℕ) (ls : List ℕ) (c : ℕ) (s : SchemeTree) → IsScheme sig names ls c s →
      applied after.metas after.knowns d (applied step.metas step.knowns d s) ≡ applied whole.metas whole.knowns d s
  both d ls c s h = applied_twice (substitution_of names step) after values_suit d s (step_suits ls c s h)

  -- equations
  pub equal_before : (es : List SchemeEquation) → AllByRecursion (AreSides sig names) es →
      AllByRecursion (MakesEqual after.metas after.knowns) (map (applied_equation step.metas step.knowns) es) → AllByRecursion (MakesEqual whole.metas whole.knowns) es
  equal_before [] sides h = tt
  equal_before (e ∷ es) sides h = (
    sym (both (length e.locals) e.locals sides.0.0 e.left sides.0.1) ∙ h.0 ∙ both (length e.locals) e.locals sides.0.0 e.right sides.0.2,
    equal_before es sides.1 h.1,
  )

  pub equal_after : (es : List SchemeEquation) → AllByRecursion (AreSides sig names) es → AllByRecursion (MakesEqual whole.metas whole.knowns) es →
      AllByRecursion (MakesEqual after.metas after.knowns) (map (applied_equation step.metas step.knowns) es)
  equal_after [] sides h = tt
  equal_after (e ∷ es) sides h = (
    both (length e.locals) e.locals sides.0.0 e.left sides.0.1 ∙ h.0 ∙ sym (both (length e.locals) e.locals sides.0.0 e.right sides.0.2),
    equal_after es sides.1 h.1,
  )

  -- entries of known variables
  pub entry_both : (decl : KnownVariable) → IsKnownEntry sig names names.root decl.entry →
      applied_entry after 0 (applied_known step.metas step.knowns decl).entry ≡ applied_entry whole 0 decl.entry
  entry_both decl fits =
      ap (λ ss. entry_with decl.entry.prod ss)
      (each_map (applied step.metas step.knowns 0) (applied after.metas after.knowns 0) decl.entry.args
      ∙ same_arguments sig names (λ s. applied after.metas after.knowns 0 (applied step.metas step.knowns 0 s)) (applied whole.metas whole.knowns 0)
      (λ c s is. both 0 [] c s is) decl.entry fits)

  pub knowns_before : (decls : List KnownVariable) (ks : List ℕ) → AllByRecursion (λ decl. IsKnownEntry sig names names.root decl.entry) decls →
      AllZip (IsKnownValue after) (map (applied_known step.metas step.knowns) decls) ks → AllZip (IsKnownValue whole) decls ks
  knowns_before [] [] fits h = tt
  knowns_before [] (k ∷ ks) fits h = absurd h
  knowns_before (decl ∷ decls) [] fits h = absurd h
  knowns_before (decl ∷ decls) (k ∷ ks) fits h = (
    match_map (slice_get after.into.knowns k) (λ other. other.entry ≡ applied_entry after 0 (applied_known step.metas step.knowns decl).entry)
        (λ other. other.entry ≡ applied_entry whole 0 decl.entry) (λ (other : KnownVariable) e. e ∙ entry_both decl fits.0) h.0,
    knowns_before decls ks fits.1 h.1,
  )

  pub knowns_after : (decls : List KnownVariable) (ks : List ℕ) → AllByRecursion (λ decl. IsKnownEntry sig names names.root decl.entry) decls →
      AllZip (IsKnownValue whole) decls ks → AllZip (IsKnownValue after) (map (applied_known step.metas step.knowns) decls) ks
  knowns_after [] [] fits h = tt
  knowns_after [] (k ∷ ks) fits h = absurd h
  knowns_after (decl ∷ decls) [] fits h = absurd h
  knowns_after (decl ∷ decls) (k ∷ ks) fits h = (
    match_map (slice_get after.into.knowns k) (λ other. other.entry ≡ applied_entry whole 0 decl.entry)
        (λ other. other.entry ≡ applied_entry after 0 (applied_known step.metas step.knowns decl).entry) (λ (other : KnownVariable) e. e ∙ sym (entry_both decl fits.0)) h.0,
    knowns_after decls ks fits.1 h.1,
  )

  -- what the run has found before
  found_metas : (decls : List MetaDecl) (ss : List SchemeTree) → AllZip (IsTyped sig names) decls ss →
      map (applied after.metas after.knowns 0) (map (applied step.metas step.knowns 0) ss) ≡ map (applied whole.metas whole.knowns 0) ss
  found_metas [] [] h = refl
  found_metas [] (s ∷ ss) h = absurd h
  found_metas (decl ∷ decls) [] h = absurd h
  found_metas (decl ∷ decls) (s ∷ ss) h =
      ap (λ t. t ∷ map (applied after.metas after.knowns 0) (map (applied step.metas step.knowns 0) ss)) (both 0 (params_scope decl) decl.cat.0 s h.0)
      ∙ ap (λ ts. applied whole.metas whole.knowns 0 s ∷ ts) (found_metas decls ss h.1)

  found_knowns : (ks : List ℕ) → map (known_for after.knowns) (map (known_for step.knowns) ks) ≡ map (known_for whole.knowns) ks
  found_knowns [] = refl
  found_knowns (k ∷ ks) =
      ap (λ j. j ∷ map (known_for after.knowns) (map (known_for step.knowns) ks)) (sym (known_after step.knowns after.knowns k (as_many ∙ sym long)))
      ∙ ap (λ js. known_for whole.knowns k ∷ js) (found_knowns ks)

  pub found_before : (decls : List MetaDecl) (so_far : Substitution) → AllZip (IsTyped sig names) decls so_far.metas →
      composed (composed so_far (substitution_of names step)) after ≡ composed so_far whole
  found_before decls so_far h =
      ap (λ ss. by_these ss (map (known_for after.knowns) (map (known_for step.knowns) so_far.knowns))) (found_metas decls so_far.metas h)
      ∙ ap (by_these (map (applied whole.metas whole.knowns 0) so_far.metas)) (found_knowns so_far.knowns)
    where
      by_these : List SchemeTree → List ℕ → Substitution
      by_these ss ks = record { metas = ss; knowns = ks; into = after.into }
