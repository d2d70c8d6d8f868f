-- What each move puts in is of the names' categories.
use Rattle.std.proofs.Common.{◌≡◌, ℕ, Bool, List, length, map, Some, slice_get, refl, sym, ◌∙◌, subst}
use Rattle.std.proofs.lemmas.Option.{slice_get_within}
use Rattle.binding_terms.specs.Signature.{Signature}
use Rattle.binding_terms.proofs.Lists.{append_within, match_from, match_some}
use Rattle.scheme_terms.specs.SchemeTree.{SchemeTree, meta, Values, values}
use Rattle.scheme_terms.specs.Forms.{Names}
use Rattle.scheme_terms.specs.SchemeScope.{IsScheme, AreValues, KnownsFit, params_scope}
use Rattle.scheme_terms.specs.Substituting.{parameters, params}
use Rattle.scheme_terms.specs.declared.scheme.MetaDecl.{MetaDecl}
use Rattle.pattern_unify.specs.Patterns.{HasLocalsAmong, over_parameters, marked}
use Rattle.pattern_unify.specs.State.{Step, names_after, substitution_of, becomes, becomes_new, joins_to, decl_with}
use Rattle.pattern_unify.proofs.Renaming.{KeepsCategories, after_scheme, one_meta_keeps, one_known_keeps, own_values}
use Rattle.pattern_unify.proofs.Fewer.{meta_typed}
use Rattle.pattern_unify.proofs.StatesKept.{AreTwo, marked_values, last_at, over_parameters_typed}

module _ (sig : Signature) (names : Names) (fits : KnownsFit sig names) where
  -- the new metavariable on the parameters that are kept
  abbrev pub on_kept : MetaDecl → List Bool → SchemeTree
  on_kept decl keeps = meta (length names.metas) (values (marked keeps (parameters (params decl))))

  pub new_there : (m : ℕ) (decl : MetaDecl) (keeps : List Bool) → slice_get (names_after names (becomes_new m decl keeps names)).metas (length names.metas) ≡ Some (decl_with keeps decl)
  new_there m decl keeps = last_at names.metas (decl_with keeps decl)

  pub new_typed : (m : ℕ) (decl : MetaDecl) (keeps : List Bool) → slice_get names.metas m ≡ Some decl →
      IsScheme sig (names_after names (becomes_new m decl keeps names)) (params_scope decl) decl.cat.0 (on_kept decl keeps)
  new_typed m decl keeps declared =
      let step : Step = becomes_new m decl keeps names in
      let own : AreValues sig (names_after names step) (params_scope decl) (map (λ c. c.0) decl.params) (values (parameters (params decl))) =
      meta_typed sig (names_after names step) (params_scope decl) decl.cat.0 m (values (parameters (params decl))) decl
      (own_values sig names step fits m decl declared) (append_within names.metas step.made m (slice_get_within names.metas m decl declared) ∙ declared) in
      match_from (slice_get (names_after names step).metas (length names.metas))
      (λ d. (d.cat.0 ≡ decl.cat.0) × AreValues sig (names_after names step) (params_scope decl) (map (λ p. p.0) d.params) (values (marked keeps (parameters (params decl)))))
      (decl_with keeps decl) (new_there m decl keeps) (refl, marked_values sig (names_after names step) (params_scope decl) keeps decl.params (parameters (params decl)) own)

  pub new_categories : (m : ℕ) (decl : MetaDecl) (keeps : List Bool) → slice_get names.metas m ≡ Some decl →
      KeepsCategories sig names (substitution_of names (becomes_new m decl keeps names))
  new_categories m decl keeps declared =
      one_meta_keeps sig names (becomes_new m decl keeps names) fits m (on_kept decl keeps) decl declared (new_typed m decl keeps declared) refl refl

  pub bind_categories : (ls : List ℕ) (c m : ℕ) (vs : Values) (t : SchemeTree) → IsScheme sig names ls c (meta m vs) → IsScheme sig names ls c t → HasLocalsAmong vs 0 t →
      KeepsCategories sig names (substitution_of names (becomes m (over_parameters vs t) names))
  bind_categories ls c m vs t one two among =
      let found = match_some (slice_get names.metas m) (λ decl. (decl.cat.0 ≡ c) × AreValues sig names ls (map (λ p. p.0) decl.params) vs) one in
      let step : Step = becomes m (over_parameters vs t) names in
      let typed : IsScheme sig names (params_scope found.0) c (over_parameters vs t) = over_parameters_typed sig names ls c found.0 vs t found.2.1 among two in
      one_meta_keeps sig names step fits m (over_parameters vs t) found.0 found.1
      (after_scheme sig names step (params_scope found.0) found.0.cat.0 (over_parameters vs t)
      (subst (λ d. IsScheme sig names (params_scope found.0) d (over_parameters vs t)) (sym found.2.0) typed)) refl refl

  pub join_categories : (low high : ℕ) → AreTwo names low high → KeepsCategories sig names (substitution_of names (joins_to high low names))
  join_categories low high two =
      one_known_keeps sig names (joins_to high low names) fits high low two.other two.one two.other_at two.one_at two.same refl refl
