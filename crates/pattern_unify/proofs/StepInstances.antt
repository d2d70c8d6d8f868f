-- A step keeps the common instances that are substitutions: one of the equations before is, after the step, one of those after it, and back.
use Rattle.std.proofs.Common.{◌≡◌, ℕ, zero, suc, ◌<◌, List, [], ◌∷◌, length, map, Some, slice_get, unwrap_or, option_map, ap, sym, ◌∙◌, subst, arith}
use Rattle.std.specs.List.{AllByRecursion, AllZip}
use Rattle.std.proofs.lemmas.List.{length-map}
use Rattle.std.proofs.lemmas.Option.{slice_get-map, slice_get_within}
use Rattle.std.proofs.lemmas.Slice.Zip.{AllZip-long}
use Rattle.binding_terms.specs.Signature.{Signature}
use Rattle.binding_terms.proofs.Lists.{some_within}
use Rattle.scheme_terms.specs.SchemeTree.{SchemeTree}
use Rattle.scheme_terms.specs.Forms.{Names, Substitution}
use Rattle.scheme_terms.specs.SchemeScope.{IsScheme, KnownsFit, params_scope}
use Rattle.scheme_terms.specs.Substituting.{applied, known_for, composed, params, Suits, IsKnownValue, IsSubstitution}
use Rattle.scheme_terms.specs.declared.scheme.MetaDecl.{MetaDecl}
use Rattle.scheme_terms.proofs.SchemeFacts.{scheme_suits}
use Rattle.scheme_terms.proofs.SchemeScopes.{applied_scheme}
use Rattle.scheme_terms.proofs.AppliedSchemes.{applied_anywhere}
use Rattle.pattern_unify.specs.Equations.{SchemeEquation, AreSides}
use Rattle.pattern_unify.specs.CommonInstance.{MakesEqual, IsCommonInstance}
use Rattle.pattern_unify.specs.State.{Step, names_after, substitution_of, applied_equation, applied_known, metas_but}
use Rattle.pattern_unify.proofs.Renaming.{KeepsCategories}
use Rattle.pattern_unify.proofs.TypedSuits.{IsTyped}
use Rattle.pattern_unify.proofs.SteppedSchemes.{equal_before, equal_after, knowns_before, knowns_after}
use Rattle.pattern_unify.proofs.MovedNames.{same_by_places, metas_but_long, metas_but_there, meta_but}

known_is : (ks : List ℕ) (k y : ℕ) → slice_get ks k ≡ Some y → known_for ks k ≡ y
known_is ks k y e = ap (λ o. unwrap_or o k) e

suits_at : (ss : List SchemeTree) (ks : List ℕ) (ts : List SchemeTree) → AllByRecursion (Suits ss ks) ts → (k : ℕ) (s : SchemeTree) → slice_get ts k ≡ Some s → Suits ss ks s
suits_at ss ks [] h k s e = absurd (let no : ⊥ = cc in no)
suits_at ss ks (t ∷ ts) h zero s e = subst (Suits ss ks) (let same : t ≡ s = cc in same) h.0
suits_at ss ks (t ∷ ts) h (suc k) s e = suits_at ss ks ts h.1 k s e

-- what is put in after the step gives each metavariable its value
pub metas_become : (m : ℕ) (s : SchemeTree) (decls : List MetaDecl) (ss : List SchemeTree) (ks : List ℕ) (vs : List SchemeTree) → length vs ≡ length decls →
    AllByRecursion (Suits ss ks) (metas_but m s 0 decls) →
    ((k : ℕ) (decl : MetaDecl) (v : SchemeTree) → slice_get decls k ≡ Some decl → slice_get vs k ≡ Some v → applied ss ks (params decl) (meta_but m s k decl) ≡ v) →
    map (applied ss ks 0) (metas_but m s 0 decls) ≡ vs
metas_become m s decls ss ks vs long suits each =
    same_by_places (map (applied ss ks 0) (metas_but m s 0 decls)) vs (length-map (metas_but m s 0 decls) (applied ss ks 0) ∙ metas_but_long m s 0 decls ∙ sym long) at
  where
    at : (k : ℕ) (v : SchemeTree) → slice_get vs k ≡ Some v → slice_get (map (applied ss ks 0) (metas_but m s 0 decls)) k ≡ Some v
    at k v e =
        let within : k < length vs = slice_get_within vs k v e in
        let found = some_within decls k (omega (arith, within, long)) in
        let here : slice_get (metas_but m s 0 decls) k ≡ Some (meta_but m s k found.0) = metas_but_there m s decls k found.0 found.1 in
        slice_get-map (applied ss ks 0) (metas_but m s 0 decls) k ∙ ap (option_map (applied ss ks 0)) here
        ∙ ap Some (applied_anywhere ss ks 0 (params found.0) (meta_but m s k found.0) (suits_at ss ks (metas_but m s 0 decls) suits k (meta_but m s k found.0) here)
        ∙ each k found.0 v found.1 e)

module _ (sig : Signature) (names : Names) (fits : KnownsFit sig names) (step : Step) (keeps : KeepsCategories sig names (substitution_of names step)) where
  abbrev together : Substitution → Substitution
  together after = composed (substitution_of names step) after

  -- forth
  pub forth : (eqs : List SchemeEquation) → AllByRecursion (AreSides sig names) eqs → (before : Substitution) → IsCommonInstance sig names eqs before →
      (ss : List SchemeTree) → AllZip (IsTyped sig before.into) (names_after names step).metas ss →
      together (record { metas = ss; knowns = before.knowns; into = before.into }) ≡ before →
      IsCommonInstance sig (names_after names step) (map (applied_equation step.metas step.knowns) eqs) (record { metas = ss; knowns = before.knowns; into = before.into })
  forth eqs sides before common ss typed same =
      let after : Substitution = record { metas = ss; knowns = before.knowns; into = before.into } in
      let long : length before.knowns ≡ length names.knowns = AllZip-long _ names.knowns before.knowns common.schemes.knowns in
      record {
        scope = common.scope;
        schemes = record {
          metas = typed;
          knowns = knowns_after sig names step keeps after typed long names.knowns before.knowns fits
              (subst (λ (b : Substitution). AllZip (IsKnownValue b) names.knowns before.knowns) (sym same) common.schemes.knowns);
        };
        equal = equal_after sig names step keeps after typed long eqs sides
            (subst (λ (b : Substitution). AllByRecursion (MakesEqual b.metas b.knowns) eqs) (sym same) common.equal);
      }

  module _ (after : Substitution) (is : IsSubstitution sig (names_after names step) after) where
    many : length after.knowns ≡ length names.knowns
    many = AllZip-long _ (names_after names step).knowns after.knowns is.knowns ∙ length-map names.knowns (applied_known step.metas step.knowns)

    typed_together : (decls : List MetaDecl) (ss : List SchemeTree) → AllZip (IsTyped sig (names_after names step)) decls ss →
        AllZip (IsTyped sig after.into) decls (map (applied after.metas after.knowns 0) ss)
    typed_together [] [] h = tt
    typed_together [] (s ∷ ss) h = absurd h
    typed_together (decl ∷ decls) [] h = absurd h
    typed_together (decl ∷ decls) (s ∷ ss) h =
        let suits : Suits after.metas after.knowns s = scheme_suits sig (names_after names step) after is (params_scope decl) decl.cat.0 s h.0 in (
          subst (IsScheme sig after.into (params_scope decl) decl.cat.0) (applied_anywhere after.metas after.knowns (length (params_scope decl)) 0 s suits)
              (applied_scheme sig (names_after names step) after is (params_scope decl) decl.cat.0 s h.0),
          typed_together decls ss h.1,
        )

    -- each known variable of the names before has a value after the step, its own place's
    pub knowns_together : AllZip (IsKnownValue (together after)) names.knowns after.knowns
    knowns_together = knowns_before sig names step keeps after is.metas many names.knowns after.knowns fits is.knowns

    pub equal_together : (eqs : List SchemeEquation) → AllByRecursion (AreSides sig names) eqs →
        AllByRecursion (MakesEqual after.metas after.knowns) (map (applied_equation step.metas step.knowns) eqs) →
        AllByRecursion (MakesEqual (together after).metas (together after).knowns) eqs
    equal_together eqs sides h = equal_before sig names step keeps after is.metas many eqs sides h

    -- and back
    pub back : (eqs : List SchemeEquation) → KnownsFit sig after.into →
        AllZip (IsKnownValue (together after)) names.knowns (map (known_for after.knowns) step.knowns) →
        AllByRecursion (MakesEqual (together after).metas (together after).knowns) eqs → IsCommonInstance sig names eqs (together after)
    back eqs scope knowns equal = record {
      scope = scope;
      schemes = record { metas = typed_together names.metas step.metas keeps.metas; knowns = knowns };
      equal = equal;
    }
