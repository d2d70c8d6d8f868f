-- What a common instance that is a substitution is after a bind, a meet or a prune, and after a join.
use Rattle.std.proofs.Common.{◌≡◌, ◌⊎◌, inl, inr, ℕ, ◌<◌, ◌≤◌, Bool, List, [], ◌∷◌, ◌++◌, length, map, Some, slice_get, unwrap_or, append-nil, refl, ap, sym, ◌∙◌, subst, arith}
use Rattle.std.specs.List.{AllByRecursion, AllZip}
use Rattle.std.proofs.lemmas.Bool.{cases_lt}
use Rattle.std.proofs.lemmas.List.{length-map}
use Rattle.std.proofs.lemmas.Option.{slice_get_within}
use Rattle.std.proofs.lemmas.Slice.Zip.{AllZip-long}
use Rattle.binding_terms.specs.Signature.{Signature}
use Rattle.binding_terms.proofs.Lists.{append_within, zip_push, some_once}
use Rattle.scheme_terms.specs.SchemeTree.{SchemeTree, local, values, filled}
use Rattle.scheme_terms.specs.Forms.{Names, Substitution, KnownVariable}
use Rattle.scheme_terms.specs.SchemeScope.{IsScheme, KnownsFit, params_scope}
use Rattle.scheme_terms.specs.Substituting.{scheme_for, known_for, argument_or_local, applied, composed, params, parameters, knowns_from, Suits, IsSubstitution}
use Rattle.scheme_terms.specs.Demands.{lowered}
use Rattle.scheme_terms.specs.declared.scheme.MetaDecl.{MetaDecl}
use Rattle.scheme_terms.proofs.Options.{zip_at}
use Rattle.scheme_terms.proofs.Makings.{Making, applied_making}
use Rattle.scheme_terms.proofs.StrictTyped.{strict_is_scheme}
use Rattle.scheme_terms.proofs.SchemeFacts.{length_params}
use Rattle.pattern_unify.specs.Patterns.{marked}
use Rattle.pattern_unify.specs.State.{Step, names_after, substitution_of, applied_known, becomes_new, decl_with, metas_but}
use Rattle.pattern_unify.proofs.Renaming.{KeepsCategories}
use Rattle.pattern_unify.proofs.KeptParameters.{kept_numbers, restored, marked_distinct}
use Rattle.pattern_unify.proofs.MoveValues.{HasParametersAmong}
use Rattle.pattern_unify.proofs.TypedSuits.{IsTyped, typed_all_suit}
use Rattle.pattern_unify.proofs.StepCategories.{on_kept, new_there, new_typed, new_categories}
use Rattle.pattern_unify.proofs.StepInstances.{metas_become}
use Rattle.pattern_unify.proofs.MovedNames.{takes_own, meta_but, meta_but_there, meta_but_other, knowns_become, knowns_but_none}

-- a number is another or not
pub same_or_other : (m n : ℕ) → (m ≡ n) ⊎ (m ≡ n → ⊥)
same_or_other m n = at (cases_lt m n) (cases_lt n m)
  where
    at : (m < n) ⊎ (n ≤ m) → (n < m) ⊎ (m ≤ n) → (m ≡ n) ⊎ (m ≡ n → ⊥)
    at (inl less) more = inr (λ e. omega (arith, less, e))
    at (inr up) (inl more) = inr (λ e. omega (arith, more, e))
    at (inr up) (inr down) = inl (omega (arith, up, down))

pub value_is : (ss : List SchemeTree) (k : ℕ) (v : SchemeTree) → slice_get ss k ≡ Some v → scheme_for ss k ≡ v
value_is ss k v e = ap (λ o. unwrap_or o (local 0)) e

-- known variables that stay where they are
pub knowns_stay : (ks : List ℕ) (decls : List KnownVariable) → length ks ≡ length decls → map (known_for ks) (knowns_from 0 decls) ≡ ks
knowns_stay ks decls long =
    ap (map (known_for ks)) (sym (knowns_but_none (length decls) (length decls) 0 decls (omega arith)))
    ∙ knowns_become (known_for ks) ks (length decls) (length decls) decls long refl (λ k y e. ap (λ o. unwrap_or o k) e)

-- each metavariable for itself but one, where what is put in after the step gives each the value that it had
pub each_has_value : (made : Making) (ss : List SchemeTree) (m : ℕ) (s : SchemeTree) (k : ℕ) (decl : MetaDecl) (v : SchemeTree) → slice_get ss k ≡ Some v →
    made.stands_for k ≡ scheme_for ss k → (k ≡ m → made.make (params decl) s ≡ v) → made.make (params decl) (meta_but m s k decl) ≡ v
each_has_value made ss m s k decl v e same here = at (same_or_other k m)
  where
    at : (k ≡ m) ⊎ (k ≡ m → ⊥) → made.make (params decl) (meta_but m s k decl) ≡ v
    at (inl there) = ap (made.make (params decl)) (meta_but_there m s k decl there) ∙ here there
    at (inr other) = ap (made.make (params decl)) (meta_but_other m s k decl other) ∙ takes_own made k (params decl) ∙ same ∙ value_is ss k v e

module _ (sig : Signature) (names : Names) (fits : KnownsFit sig names) (before : Substitution) (is : IsSubstitution sig names before) where
  long_knowns : length before.knowns ≡ length names.knowns
  long_knowns = AllZip-long _ names.knowns before.knowns is.knowns

  long_metas : length before.metas ≡ length names.metas
  long_metas = AllZip-long _ names.metas before.metas is.metas

  -- a step that puts in one scheme for a metavariable
  module _ (m : ℕ) (s : SchemeTree) (step : Step) (metas : step.metas ≡ metas_but m s 0 names.metas) (knowns : step.knowns ≡ knowns_from 0 names.knowns)
      (keeps : KeepsCategories sig names (substitution_of names step)) (ss : List SchemeTree) (typed : AllZip (IsTyped sig before.into) (names_after names step).metas ss) where
    abbrev after : Substitution
    after = record { metas = ss; knowns = before.knowns; into = before.into }

    pub same_together : ((k : ℕ) (v : SchemeTree) → slice_get before.metas k ≡ Some v → scheme_for ss k ≡ v) →
        ((decl : MetaDecl) (v : SchemeTree) → slice_get names.metas m ≡ Some decl → slice_get before.metas m ≡ Some v → applied ss before.knowns (params decl) s ≡ v) →
        composed (substitution_of names step) after ≡ before
    same_together others here =
        ap (λ ts. by_these ts (map (known_for before.knowns) step.knowns))
        (ap (map (applied ss before.knowns 0)) metas ∙ metas_become m s names.metas ss before.knowns before.metas long_metas suits each)
        ∙ ap (by_these before.metas) (ap (map (known_for before.knowns)) knowns ∙ knowns_stay before.knowns names.knowns long_knowns)
      where
        by_these : List SchemeTree → List ℕ → Substitution
        by_these ts ks = record { metas = ts; knowns = ks; into = before.into }

        suits : AllByRecursion (Suits ss before.knowns) (metas_but m s 0 names.metas)
        suits =
            subst (AllByRecursion (Suits ss before.knowns)) metas
            (typed_all_suit sig (names_after names step) before.into ss before.knowns typed
            (long_knowns ∙ sym (length-map names.knowns (applied_known step.metas step.knowns))) names.metas step.metas keeps.metas)

        each : (k : ℕ) (decl : MetaDecl) (v : SchemeTree) → slice_get names.metas k ≡ Some decl → slice_get before.metas k ≡ Some v →
            applied ss before.knowns (params decl) (meta_but m s k decl) ≡ v
        each k decl v declared e =
            each_has_value (applied_making ss before.knowns) before.metas m s k decl v e (others k v e ∙ sym (value_is before.metas k v e))
            (λ there. here decl v (ap (slice_get names.metas) (sym there) ∙ declared) (ap (slice_get before.metas) (sym there) ∙ e))

  -- a metavariable becomes a new one over the parameters that its value has
  module _ (m : ℕ) (decl : MetaDecl) (keeps : List Bool) (declared : slice_get names.metas m ≡ Some decl) where
    abbrev pub new_value : SchemeTree
    new_value = lowered (kept_numbers keeps (params decl)) (params decl) (scheme_for before.metas m)

    abbrev pub with_new : List SchemeTree
    with_new = before.metas ++ new_value ∷ []

    new_stands : scheme_for with_new (length names.metas) ≡ new_value
    new_stands = ap (scheme_for with_new) (sym long_metas) ∙ value_is with_new (length before.metas) new_value (last_one before.metas new_value)
      where
        last_one : (ss : List SchemeTree) (s : SchemeTree) → slice_get (ss ++ s ∷ []) (length ss) ≡ Some s
        last_one [] s = refl
        last_one (x ∷ ss) s = last_one ss s

    old_stands : (k : ℕ) (v : SchemeTree) → slice_get before.metas k ≡ Some v → scheme_for with_new k ≡ v
    old_stands k v e = value_is with_new k v (append_within before.metas (new_value ∷ []) k (slice_get_within before.metas k v e) ∙ e)

    new_makes : HasParametersAmong (kept_numbers keeps (params decl)) (params decl) (scheme_for before.metas m) →
        applied with_new before.knowns (params decl) (on_kept sig names fits decl keeps) ≡ scheme_for before.metas m
    new_makes among =
        let made : Making = applied_making with_new before.knowns in
        made.of_meta (params decl) (length names.metas) (values (marked keeps (parameters (params decl)))) (marked_distinct keeps (params decl))
        ∙ ap (filled (argument_or_local (params decl) (map local (kept_numbers keeps (params decl))))) new_stands
        ∙ restored (kept_numbers keeps (params decl)) (params decl) (scheme_for before.metas m) among

    value_there : (v : SchemeTree) × (slice_get before.metas m ≡ Some v) × IsTyped sig before.into decl v
    value_there = zip_at (IsTyped sig before.into) names.metas before.metas is.metas m decl declared

    new_is_typed : HasParametersAmong (kept_numbers keeps (params decl)) (params decl) (scheme_for before.metas m) → IsTyped sig before.into (decl_with keeps decl) new_value
    new_is_typed among =
        let step : Step = becomes_new m decl keeps names in
        let given : IsTyped sig before.into decl (scheme_for before.metas m) =
        subst (IsTyped sig before.into decl) (sym (value_is before.metas m value_there.0 value_there.1)) value_there.2 in
        let made : IsScheme sig before.into (params_scope decl) decl.cat.0 (applied with_new before.knowns (length (params_scope decl)) (on_kept sig names fits decl keeps)) =
        subst (IsScheme sig before.into (params_scope decl) decl.cat.0)
        (sym (ap (λ d. applied with_new before.knowns d (on_kept sig names fits decl keeps)) (length_params decl) ∙ new_makes among)) given in
        subst (λ sc. IsScheme sig before.into sc decl.cat.0 new_value) (append-nil (params_scope (decl_with keeps decl)))
        (subst (IsScheme sig before.into (params_scope (decl_with keeps decl) ++ []) decl.cat.0) new_stands
        (strict_is_scheme [] [] (λ i c e. e) sig (names_after names step) before.into (applied_making with_new before.knowns) (length names.metas) (decl_with keeps decl)
        (new_there sig names fits m decl keeps) (params_scope decl) decl.cat.0 (on_kept sig names fits decl keeps) (refl, marked_distinct keeps (params decl))
        (new_typed sig names fits m decl keeps declared)
        (subst (λ sc. IsScheme sig before.into sc decl.cat.0 (applied with_new before.knowns (length (params_scope decl)) (on_kept sig names fits decl keeps)))
        (sym (append-nil (params_scope decl))) made)))

    pub all_typed : HasParametersAmong (kept_numbers keeps (params decl)) (params decl) (scheme_for before.metas m) →
        AllZip (IsTyped sig before.into) (names.metas ++ decl_with keeps decl ∷ []) with_new
    all_typed among = zip_push (IsTyped sig before.into) names.metas before.metas (decl_with keeps decl) new_value is.metas (new_is_typed among)

    pub new_together : HasParametersAmong (kept_numbers keeps (params decl)) (params decl) (scheme_for before.metas m) →
        composed (substitution_of names (becomes_new m decl keeps names)) (record { metas = with_new; knowns = before.knowns; into = before.into }) ≡ before
    new_together among =
        same_together m (on_kept sig names fits decl keeps) (becomes_new m decl keeps names) refl refl (new_categories sig names fits m decl keeps declared) with_new (all_typed among)
        old_stands (λ other v at e. ap (λ d. applied with_new before.knowns (params d) (on_kept sig names fits decl keeps)) (some_once at declared)
        ∙ new_makes among ∙ value_is before.metas m v e)
