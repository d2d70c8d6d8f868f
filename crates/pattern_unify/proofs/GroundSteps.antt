-- A step keeps the common ground instances: one of the equations before is, after the step, one of those after it.
use Rattle.std.proofs.Common.{◌≡◌, ℕ, zero, suc, ◌≤◌, List, [], ◌∷◌, length, map, Option, Some, None, MatchOption, slice_get, unwrap_or, refl, ap, sym, ◌∙◌, arith}
use Rattle.std.specs.List.{AllByRecursion, AllZip}
use Rattle.std.proofs.lemmas.Slice.Zip.{AllZip-long}
use Rattle.binding_terms.specs.Signature.{Signature}
use Rattle.binding_terms.specs.Tree.{Tree}
use Rattle.binding_terms.proofs.Lists.{each_map, match_map}
use Rattle.scheme_terms.specs.SchemeTree.{SchemeTree}
use Rattle.scheme_terms.specs.Forms.{Names, Substitution, Instance, KnownVariable, GroundEntry}
use Rattle.scheme_terms.specs.Instance.{instance_of, place_of, IsKnownPlace, IsEntryOf}
use Rattle.scheme_terms.specs.SchemeScope.{IsScheme, IsKnownEntry, KnownsFit, params_scope}
use Rattle.scheme_terms.specs.Substituting.{applied, known_for, composed, params, followed, followed_metas, Suits}
use Rattle.scheme_terms.specs.declared.scheme.MetaDecl.{MetaDecl}
use Rattle.scheme_terms.proofs.SchemeFacts.{scheme_saturated}
use Rattle.scheme_terms.proofs.Followed.{instance_of_applied}
use Rattle.scheme_terms.proofs.AppliedSchemes.{applied_anywhere}
use Rattle.scheme_terms.proofs.Compositions.{same_arguments}
use Rattle.pattern_unify.specs.Equations.{SchemeEquation, AreSides}
use Rattle.pattern_unify.specs.CommonInstance.{IsSameInstance}
use Rattle.pattern_unify.specs.State.{Step, names_after, substitution_of, applied_equation, applied_known}
use Rattle.pattern_unify.proofs.Renaming.{KeepsCategories}
use Rattle.pattern_unify.proofs.TypedSuits.{IsTyped, typed_suits}

-- a step and an instance after it
module _ (sig : Signature) (names : Names) (fits : KnownsFit sig names) (step : Step) (keeps : KeepsCategories sig names (substitution_of names step)) (after : Instance) where
  abbrev pub whole : Instance
  whole = followed names.metas (substitution_of names step) after

  suits : (ls : List ℕ) (c : ℕ) (s : SchemeTree) → IsScheme sig names ls c s → Suits step.metas step.knowns s
  suits ls c s h =
      typed_suits sig names (names_after names step) step.metas step.knowns keeps.metas (AllZip-long _ names.knowns step.knowns keeps.knowns) ls c s h

  pub both : (d : ℕ) (ls : List ℕ) (c : ℕ) (s : SchemeTree) → IsScheme sig names ls c s → instance_of after d (applied step.metas step.knowns d s) ≡ instance_of whole d s
  both d ls c s h = instance_of_applied names.metas (substitution_of names step) after d s (scheme_saturated sig names ls c s h) (suits ls c s h)

  pub same_after : (es : List SchemeEquation) → AllByRecursion (AreSides sig names) es → AllByRecursion (IsSameInstance whole) es →
      AllByRecursion (IsSameInstance after) (map (applied_equation step.metas step.knowns) es)
  same_after [] sides h = tt
  same_after (e ∷ es) sides h = (
    both (length e.locals) e.locals sides.0.0 e.left sides.0.1 ∙ h.0 ∙ sym (both (length e.locals) e.locals sides.0.0 e.right sides.0.2),
    same_after es sides.1 h.1,
  )

  pub same_before : (es : List SchemeEquation) → AllByRecursion (AreSides sig names) es →
      AllByRecursion (IsSameInstance after) (map (applied_equation step.metas step.knowns) es) → AllByRecursion (IsSameInstance whole) es
  same_before [] sides h = tt
  same_before (e ∷ es) sides h = (
    sym (both (length e.locals) e.locals sides.0.0 e.left sides.0.1) ∙ h.0 ∙ both (length e.locals) e.locals sides.0.0 e.right sides.0.2,
    same_before es sides.1 h.1,
  )

  arguments_both : (decl : KnownVariable) → IsKnownEntry sig names names.root decl.entry →
      map (instance_of after 0) (applied_known step.metas step.knowns decl).entry.args ≡ map (instance_of whole 0) decl.entry.args
  arguments_both decl is =
      each_map (applied step.metas step.knowns 0) (instance_of after 0) decl.entry.args
      ∙ same_arguments sig names (λ s. instance_of after 0 (applied step.metas step.knowns 0 s)) (instance_of whole 0) (λ c s h. both 0 [] c s h) decl.entry is

  place_after : (decl : KnownVariable) → IsKnownEntry sig names names.root decl.entry → (place : Option ℕ) → IsKnownPlace whole decl place →
      IsKnownPlace after (applied_known step.metas step.knowns decl) place
  place_after decl is place h =
      match_map place (λ at. MatchOption (slice_get after.root.entries at) ⊥ (IsEntryOf whole at decl.entry))
      (λ at. MatchOption (slice_get after.root.entries at) ⊥ (IsEntryOf after at (applied_known step.metas step.knowns decl).entry))
      (λ (at : ℕ) g. match_map (slice_get after.root.entries at) (IsEntryOf whole at decl.entry) (IsEntryOf after at (applied_known step.metas step.knowns decl).entry)
      (λ (e : GroundEntry) k. (k.0, k.1 ∙ sym (arguments_both decl is))) g) h

  pub places_after : (decls : List KnownVariable) (places : List (Option ℕ)) → AllByRecursion (λ decl. IsKnownEntry sig names names.root decl.entry) decls →
      AllZip (IsKnownPlace whole) decls places → AllZip (IsKnownPlace after) (map (applied_known step.metas step.knowns) decls) places
  places_after [] [] is h = tt
  places_after [] (p ∷ ps) is h = absurd h
  places_after (decl ∷ decls) [] is h = absurd h
  places_after (decl ∷ decls) (p ∷ ps) is h = (place_after decl is.0 p h.0, places_after decls ps is.1 h.1)

  place_before : (decl : KnownVariable) → IsKnownEntry sig names names.root decl.entry → (place : Option ℕ) →
      IsKnownPlace after (applied_known step.metas step.knowns decl) place → IsKnownPlace whole decl place
  place_before decl is place h =
      match_map place (λ at. MatchOption (slice_get after.root.entries at) ⊥ (IsEntryOf after at (applied_known step.metas step.knowns decl).entry))
      (λ at. MatchOption (slice_get after.root.entries at) ⊥ (IsEntryOf whole at decl.entry))
      (λ (at : ℕ) g. match_map (slice_get after.root.entries at) (IsEntryOf after at (applied_known step.metas step.knowns decl).entry) (IsEntryOf whole at decl.entry)
      (λ (e : GroundEntry) k. (k.0, k.1 ∙ arguments_both decl is)) g) h

  pub places_before : (decls : List KnownVariable) (places : List (Option ℕ)) → AllByRecursion (λ decl. IsKnownEntry sig names names.root decl.entry) decls →
      AllZip (IsKnownPlace after) (map (applied_known step.metas step.knowns) decls) places → AllZip (IsKnownPlace whole) decls places
  places_before [] [] is h = tt
  places_before [] (p ∷ ps) is h = absurd h
  places_before (decl ∷ decls) [] is h = absurd h
  places_before (decl ∷ decls) (p ∷ ps) is h = (place_before decl is.0 p h.0, places_before decls ps is.1 h.1)

  -- what the run has found before
  found_metas : (decls : List MetaDecl) (ss : List SchemeTree) → AllZip (IsTyped sig names) decls ss →
      followed_metas decls (map (applied step.metas step.knowns 0) ss) after ≡ followed_metas decls ss whole
  found_metas [] ss h = refl
  found_metas (decl ∷ decls) [] h = absurd h
  found_metas (decl ∷ decls) (s ∷ ss) h =
      ap (λ t. Some t ∷ followed_metas decls (map (applied step.metas step.knowns 0) ss) after)
      (ap (instance_of after (params decl)) (applied_anywhere step.metas step.knowns 0 (params decl) s (suits (params_scope decl) decl.cat.0 s h.0))
      ∙ both (params decl) (params_scope decl) decl.cat.0 s h.0)
      ∙ ap (λ ts. Some (instance_of whole (params decl) s) ∷ ts) (found_metas decls ss h.1)

  pub place_both : (k : ℕ) → length after.knowns ≡ length names.knowns → place_of whole k ≡ place_of after (known_for step.knowns k)
  place_both k long = at step.knowns k k (λ far. none after.knowns k (omega (arith, far, long, as_many)))
    where
      as_many : length step.knowns ≡ length names.knowns
      as_many = AllZip-long _ names.knowns step.knowns keeps.knowns

      none : (ps : List (Option ℕ)) (i : ℕ) → length ps ≤ i → unwrap_or (unwrap_or (slice_get ps i) None) 0 ≡ 0
      none [] i far = refl
      none (p ∷ ps) zero far = absurd (let no : ⊥ = omega (arith, far) in no)
      none (p ∷ ps) (suc i) far = none ps i (omega (arith, far))

      at : (ks : List ℕ) (i d : ℕ) → (length ks ≤ i → place_of after d ≡ 0) →
          unwrap_or (unwrap_or (slice_get (map (λ k. Some (place_of after k)) ks) i) None) 0 ≡ place_of after (unwrap_or (slice_get ks i) d)
      at [] i d far = sym (far (omega arith))
      at (x ∷ ks) zero d far = refl
      at (x ∷ ks) (suc i) d far = at ks i d (λ more. far (omega (arith, more)))

  found_knowns : length after.knowns ≡ length names.knowns → (ks : List ℕ) →
      map (λ k. Some (place_of after k)) (map (known_for step.knowns) ks) ≡ map (λ k. Some (place_of whole k)) ks
  found_knowns long [] = refl
  found_knowns long (k ∷ ks) =
      ap (λ p. Some p ∷ map (λ j. Some (place_of after j)) (map (known_for step.knowns) ks)) (sym (place_both k long))
      ∙ ap (λ ps. Some (place_of whole k) ∷ ps) (found_knowns long ks)

  pub found_before : length after.knowns ≡ length names.knowns → (decls : List MetaDecl) (so_far : Substitution) → AllZip (IsTyped sig names) decls so_far.metas →
      followed decls (composed so_far (substitution_of names step)) after ≡ followed decls so_far whole
  found_before long decls so_far h =
      ap (λ ts. instance_with ts (map (λ k. Some (place_of after k)) (map (known_for step.knowns) so_far.knowns))) (found_metas decls so_far.metas h)
      ∙ ap (instance_with (followed_metas decls so_far.metas whole)) (found_knowns long so_far.knowns)
    where
      instance_with : List (Option Tree) → List (Option ℕ) → Instance
      instance_with ts ps = record { metas = ts; knowns = ps; root = after.root }
