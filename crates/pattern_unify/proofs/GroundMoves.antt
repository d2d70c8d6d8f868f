-- What a common ground instance is after a bind, a meet or a prune.
use Rattle.std.proofs.Common.{◌≡◌, ◌⊎◌, inl, inr, ℕ, zero, suc, ◌<◌, Bool, List, [], ◌∷◌, ◌++◌, length, map, Option, Some, None, MatchOption, slice_get, unwrap_or, refl, ap, sym, ◌∙◌, subst, arith}
use Rattle.std.specs.List.{AllZip}
use Rattle.std.proofs.lemmas.Option.{slice_get_within}
use Rattle.std.proofs.lemmas.Slice.Zip.{AllZip-long}
use Rattle.binding_terms.specs.Signature.{Signature}
use Rattle.binding_terms.specs.Tree.{Tree, var}
use Rattle.binding_terms.specs.Substitution as filling
use Rattle.binding_terms.specs.Scope.{IsTerm}
use Rattle.binding_terms.proofs.Lists.{append_within, some_within, some_once, zip_push}
use Rattle.scheme_terms.specs.SchemeTree.{SchemeTree, local, values, filled}
use Rattle.scheme_terms.specs.Forms.{Names, Instance}
use Rattle.scheme_terms.specs.Context.{scope_of}
use Rattle.scheme_terms.specs.Instance.{instance_of, value_of, place_of, FitsScope, IsMetaValue, IsKnownPlace, IsEntryOf}
use Rattle.scheme_terms.specs.SchemeScope.{IsScheme, KnownsFit, params_scope}
use Rattle.scheme_terms.specs.Embedding.{embedded}
use Rattle.scheme_terms.specs.Substituting.{params, parameters, followed, followed_metas, argument_or_local}
use Rattle.scheme_terms.specs.Demands.{variable_of, lowered}
use Rattle.scheme_terms.specs.declared.scheme.MetaDecl.{MetaDecl}
use Rattle.scheme_terms.proofs.Options.{zip_at}
use Rattle.scheme_terms.proofs.Makings.{Making, instance_making}
use Rattle.scheme_terms.proofs.Embeddings.{embedded_injective, embedded_filled, embedded_is_scheme, embedded_is_term}
use Rattle.scheme_terms.proofs.StrictTyped.{strict_is_scheme}
use Rattle.scheme_terms.proofs.SchemeFacts.{length_params}
use Rattle.pattern_unify.specs.Patterns.{marked}
use Rattle.pattern_unify.specs.State.{Step, knowns_but, names_after, substitution_of, becomes_new, decl_with, metas_but}
use Rattle.pattern_unify.proofs.KeptParameters.{kept_numbers, restored, marked_distinct}
use Rattle.pattern_unify.proofs.MoveValues.{HasParametersAmong}
use Rattle.pattern_unify.proofs.StepCategories.{on_kept, new_there, new_typed}
use Rattle.pattern_unify.proofs.MovedNames.{same_by_places, takes_own, meta_but, meta_but_there, meta_but_other, metas_but_long, metas_but_there, knowns_become, knowns_but_none}
use Rattle.pattern_unify.proofs.SubstitutionMoves.{same_or_other}

-- what is put in after the step gives each metavariable its value

followed_long : (decls : List MetaDecl) (ss : List SchemeTree) (inst : Instance) → length ss ≡ length decls → length (followed_metas decls ss inst) ≡ length decls
followed_long [] ss inst long = refl
followed_long (d ∷ decls) [] inst long = absurd (let no : ⊥ = omega (arith, long) in no)
followed_long (d ∷ decls) (s ∷ ss) inst long = ap suc (followed_long decls ss inst (omega (arith, long)))

followed_at : (decls : List MetaDecl) (ss : List SchemeTree) (inst : Instance) (k : ℕ) (decl : MetaDecl) (s : SchemeTree) → slice_get decls k ≡ Some decl →
    slice_get ss k ≡ Some s → slice_get (followed_metas decls ss inst) k ≡ Some (Some (instance_of inst (params decl) s))
followed_at [] ss inst k decl s e f = absurd (let no : ⊥ = cc in no)
followed_at (d ∷ decls) [] inst k decl s e f = absurd (let no : ⊥ = cc in no)
followed_at (d ∷ decls) (x ∷ ss) inst zero decl s e f =
    ap (λ y. Some (Some (instance_of inst (params y) x))) (let same : d ≡ decl = cc in same) ∙ ap (λ y. Some (Some (instance_of inst (params decl) y))) (let same : x ≡ s = cc in same)
followed_at (d ∷ decls) (x ∷ ss) inst (suc k) decl s e f = followed_at decls ss inst k decl s e f

pub values_become : (m : ℕ) (s : SchemeTree) (decls : List MetaDecl) (after : Instance) (vs : List (Option Tree)) → length vs ≡ length decls →
    ((k : ℕ) (decl : MetaDecl) (o : Option Tree) → slice_get decls k ≡ Some decl → slice_get vs k ≡ Some o → Some (instance_of after (params decl) (meta_but m s k decl)) ≡ o) →
    followed_metas decls (metas_but m s 0 decls) after ≡ vs
values_become m s decls after vs long each =
    same_by_places (followed_metas decls (metas_but m s 0 decls) after) vs (followed_long decls (metas_but m s 0 decls) after (metas_but_long m s 0 decls) ∙ sym long) at
  where
    at : (k : ℕ) (o : Option Tree) → slice_get vs k ≡ Some o → slice_get (followed_metas decls (metas_but m s 0 decls) after) k ≡ Some o
    at k o e =
        let within : k < length vs = slice_get_within vs k o e in
        let found = some_within decls k (omega (arith, within, long)) in
        followed_at decls (metas_but m s 0 decls) after k found.0 (meta_but m s k found.0) found.1 (metas_but_there m s decls k found.0 found.1) ∙ ap Some (each k found.0 o found.1 e)

-- each metavariable for itself but one
has_value : (made : Making) (m : ℕ) (s : SchemeTree) (k : ℕ) (decl : MetaDecl) (v : SchemeTree) → made.stands_for k ≡ v →
    (k ≡ m → made.make (params decl) s ≡ v) → made.make (params decl) (meta_but m s k decl) ≡ v
has_value made m s k decl v same here = at (same_or_other k m)
  where
    at : (k ≡ m) ⊎ (k ≡ m → ⊥) → made.make (params decl) (meta_but m s k decl) ≡ v
    at (inl there) = ap (made.make (params decl)) (meta_but_there m s k decl there) ∙ here there
    at (inr other) = ap (made.make (params decl)) (meta_but_other m s k decl other) ∙ takes_own made k (params decl) ∙ same

-- a place that is given
given : (P : ℕ → Type 0) (o : Option ℕ) → MatchOption o ⊥ P → Some (unwrap_or o 0) ≡ o
given P None h = absurd h
given P (Some n) h = refl

given_tree : (P : Tree → Type 0) (o : Option Tree) → MatchOption o ⊥ P → (t : Tree) × (o ≡ Some t) × P t
given_tree P None h = absurd h
given_tree P (Some t) h = (t, refl, h)

module _ (sig : Signature) (names : Names) (fits : KnownsFit sig names) (before : Instance) (is : FitsScope sig names before) where
  long_knowns : length before.knowns ≡ length names.knowns
  long_knowns = AllZip-long _ names.knowns before.knowns is.knowns

  long_metas : length before.metas ≡ length names.metas
  long_metas = AllZip-long _ names.metas before.metas is.metas

  pub place_given : (k : ℕ) (o : Option ℕ) → slice_get before.knowns k ≡ Some o → Some (place_of before k) ≡ o
  place_given k o e =
      let within : k < length before.knowns = slice_get_within before.knowns k o e in
      let found = some_within names.knowns k (omega (arith, within, long_knowns)) in
      let there = zip_at (IsKnownPlace before) names.knowns before.knowns is.knowns k found.0 found.1 in
      let same : there.0 ≡ o = some_once there.1 e in
      ap (λ x. Some (unwrap_or (unwrap_or x None) 0)) e
      ∙ given (λ at. MatchOption (slice_get before.root.entries at) ⊥ (IsEntryOf before at found.0.entry)) o (subst (IsKnownPlace before found.0) same there.2)

  module _ (m : ℕ) (s : SchemeTree) (step : Step) (metas : step.metas ≡ metas_but m s 0 names.metas) (ts : List (Option Tree)) where
    abbrev after : Instance
    after = record { metas = ts; knowns = before.knowns; root = before.root }

    pub same_together : (gone kept : ℕ) → step.knowns ≡ knowns_but gone kept 0 names.knowns → place_of before gone ≡ place_of before kept →
        ((k : ℕ) (o : Option Tree) → slice_get before.metas k ≡ Some o → slice_get ts k ≡ Some o) →
        ((decl : MetaDecl) → slice_get names.metas m ≡ Some decl → embedded (instance_of after (params decl) s) ≡ embedded (value_of before m)) →
        followed names.metas (substitution_of names step) after ≡ before
    same_together gone kept knowns agree others here =
        ap (λ xs. instance_with xs (map (λ k. Some (place_of after k)) step.knowns))
        (ap (λ ss. followed_metas names.metas ss after) metas ∙ values_become m s names.metas after before.metas long_metas each)
        ∙ ap (instance_with before.metas)
        (ap (map (λ k. Some (place_of after k))) knowns
        ∙ knowns_become (λ k. Some (place_of before k)) before.knowns gone kept names.knowns long_knowns (ap Some agree) (λ k o e. place_given k o e))
      where
        instance_with : List (Option Tree) → List (Option ℕ) → Instance
        instance_with xs ps = record { metas = xs; knowns = ps; root = before.root }

        each : (k : ℕ) (decl : MetaDecl) (o : Option Tree) → slice_get names.metas k ≡ Some decl → slice_get before.metas k ≡ Some o →
            Some (instance_of after (params decl) (meta_but m s k decl)) ≡ o
        each k decl o declared e =
            let there = zip_at (IsMetaValue sig before) names.metas before.metas is.metas k decl declared in
            let value = given_tree (λ t. IsTerm sig (params_scope decl ++ scope_of sig before.root) decl.cat.0 t) o
            (subst (IsMetaValue sig before decl) (some_once there.1 e) there.2) in
            let own : value_of before k ≡ value.0 = ap (λ x. unwrap_or (unwrap_or x None) (var 0)) e ∙ ap (λ x. unwrap_or x (var 0)) value.1 in
            let stands : value_of after k ≡ value.0 = ap (λ x. unwrap_or (unwrap_or x None) (var 0)) (others k o e) ∙ ap (λ x. unwrap_or x (var 0)) value.1 in
            ap Some (embedded_injective (instance_of after (params decl) (meta_but m s k decl)) value.0
            (has_value (instance_making after) m s k decl (embedded value.0) (ap embedded stands)
            (λ same. here decl (ap (slice_get names.metas) (sym same) ∙ declared) ∙ ap (λ j. embedded (value_of before j)) (sym same) ∙ ap embedded own)))
            ∙ sym value.1

  module _ (m : ℕ) (decl : MetaDecl) (keeps : List Bool) (declared : slice_get names.metas m ≡ Some decl) where
    abbrev pub new_value : Tree
    new_value = filling.filled (λ i. var (variable_of (kept_numbers keeps (params decl)) (params decl) i)) (value_of before m)

    abbrev pub with_new : List (Option Tree)
    with_new = before.metas ++ Some new_value ∷ []

    abbrev renewed : Instance
    renewed = record { metas = with_new; knowns = before.knowns; root = before.root }

    lowered_value : embedded new_value ≡ lowered (kept_numbers keeps (params decl)) (params decl) (embedded (value_of before m))
    lowered_value = embedded_filled (λ i. var (variable_of (kept_numbers keeps (params decl)) (params decl) i)) (value_of before m)

    last_one : (xs : List (Option Tree)) (x : Option Tree) → slice_get (xs ++ x ∷ []) (length xs) ≡ Some x
    last_one [] x = refl
    last_one (y ∷ xs) x = last_one xs x

    new_stands : value_of renewed (length names.metas) ≡ new_value
    new_stands =
        ap (value_of renewed) (sym long_metas) ∙ ap (λ x. unwrap_or (unwrap_or x None) (var 0)) (last_one before.metas (Some new_value))

    old_stands : (k : ℕ) (o : Option Tree) → slice_get before.metas k ≡ Some o → slice_get with_new k ≡ Some o
    old_stands k o e = append_within before.metas (Some new_value ∷ []) k (slice_get_within before.metas k o e) ∙ e

    new_makes : HasParametersAmong (kept_numbers keeps (params decl)) (params decl) (embedded (value_of before m)) →
        embedded (instance_of renewed (params decl) (on_kept sig names fits decl keeps)) ≡ embedded (value_of before m)
    new_makes among =
        let made : Making = instance_making renewed in
        made.of_meta (params decl) (length names.metas) (values (marked keeps (parameters (params decl)))) (marked_distinct keeps (params decl))
        ∙ ap (λ t. filled (argument_or_local (params decl) (map local (kept_numbers keeps (params decl)))) (embedded t)) new_stands
        ∙ ap (filled (argument_or_local (params decl) (map local (kept_numbers keeps (params decl))))) lowered_value
        ∙ restored (kept_numbers keeps (params decl)) (params decl) (embedded (value_of before m)) among

    value_typed : IsTerm sig (params_scope decl ++ scope_of sig before.root) decl.cat.0 (value_of before m)
    value_typed =
        let there = zip_at (IsMetaValue sig before) names.metas before.metas is.metas m decl declared in
        let value = given_tree (λ t. IsTerm sig (params_scope decl ++ scope_of sig before.root) decl.cat.0 t) there.0 there.2 in
        subst (IsTerm sig (params_scope decl ++ scope_of sig before.root) decl.cat.0)
        (sym (ap (λ x. unwrap_or (unwrap_or x None) (var 0)) there.1 ∙ ap (λ x. unwrap_or x (var 0)) value.1)) value.2

    new_is_typed : HasParametersAmong (kept_numbers keeps (params decl)) (params decl) (embedded (value_of before m)) →
        IsTerm sig (params_scope (decl_with keeps decl) ++ scope_of sig before.root) decl.cat.0 new_value
    new_is_typed among =
        let step : Step = becomes_new m decl keeps names in
        let made : IsScheme sig names (params_scope decl ++ scope_of sig before.root) decl.cat.0
        (embedded (instance_of renewed (length (params_scope decl)) (on_kept sig names fits decl keeps))) =
        subst (IsScheme sig names (params_scope decl ++ scope_of sig before.root) decl.cat.0)
        (sym (ap (λ d. embedded (instance_of renewed d (on_kept sig names fits decl keeps))) (length_params decl) ∙ new_makes among))
        (embedded_is_scheme sig names (params_scope decl ++ scope_of sig before.root) decl.cat.0 (value_of before m) value_typed) in
        embedded_is_term sig names (params_scope (decl_with keeps decl) ++ scope_of sig before.root) decl.cat.0 new_value
        (subst (λ t. IsScheme sig names (params_scope (decl_with keeps decl) ++ scope_of sig before.root) decl.cat.0 (embedded t)) new_stands
        (strict_is_scheme (scope_of sig before.root) (scope_of sig before.root) (λ i c e. e) sig (names_after names step) names (instance_making renewed) (length names.metas)
        (decl_with keeps decl) (new_there sig names fits m decl keeps) (params_scope decl) decl.cat.0 (on_kept sig names fits decl keeps)
        (refl, marked_distinct keeps (params decl)) (new_typed sig names fits m decl keeps declared) made))

    pub all_typed : HasParametersAmong (kept_numbers keeps (params decl)) (params decl) (embedded (value_of before m)) →
        AllZip (IsMetaValue sig renewed) (names.metas ++ decl_with keeps decl ∷ []) with_new
    all_typed among = zip_push (IsMetaValue sig renewed) names.metas before.metas (decl_with keeps decl) (Some new_value) is.metas (new_is_typed among)

    pub new_together : HasParametersAmong (kept_numbers keeps (params decl)) (params decl) (embedded (value_of before m)) →
        followed names.metas (substitution_of names (becomes_new m decl keeps names)) renewed ≡ before
    new_together among =
        same_together m (on_kept sig names fits decl keeps) (becomes_new m decl keeps names) refl with_new (length names.knowns) (length names.knowns)
        (sym (knowns_but_none (length names.knowns) (length names.knowns) 0 names.knowns (omega arith))) refl old_stands
        (λ other at. ap (λ d. embedded (instance_of renewed (params d) (on_kept sig names fits decl keeps))) (some_once at declared) ∙ new_makes among)
