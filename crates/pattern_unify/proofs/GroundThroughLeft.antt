-- Each common ground instance is what a solved run has found, over the names that are left, followed by one ground instance of these.
use Rattle.std.proofs.Common.{◌≡◌, inl, inr, ℕ, ◌<◌, true, List, [], ◌∷◌, ◌++◌, length, map, Option, Some, None, MatchOption, slice_get, unwrap_or, refl, ap, sym, ◌∙◌, subst, arith}
use Rattle.std.specs.List.{AllByRecursion, AllZip}
use Rattle.std.proofs.lemmas.Option.{slice_get_within}
use Rattle.std.proofs.lemmas.Slice.Zip.{AllZip-long}
use Rattle.binding_terms.specs.Numbered.{AnyByRecursion}
use Rattle.binding_terms.specs.Signature.{Signature, Place}
use Rattle.binding_terms.specs.Scope.{IsTerm}
use Rattle.binding_terms.specs.Tree.{Tree, var}
use Rattle.binding_terms.proofs.Lists.{all_at, cons_head, cons_tail, map_same, match_map, some_within}
use Rattle.scheme_terms.specs.SchemeTree.{SchemeTree, StrictIn}
use Rattle.scheme_terms.specs.Forms.{Names, Substitution, Instance, KnownVariable, GroundEntry, ContextValue}
use Rattle.scheme_terms.specs.Context.{scope_of}
use Rattle.scheme_terms.specs.Instance.{instance_of, value_of, place_of, FitsScope, IsMetaValue, IsKnownPlace, IsEntryOf}
use Rattle.scheme_terms.specs.SchemeScope.{AreSchemes, IsKnownEntry, KnownsFit, params_scope}
use Rattle.scheme_terms.specs.Embedding.{embedded}
use Rattle.scheme_terms.specs.Substituting.{known_for, applied, composed, params, followed, followed_metas, LocalsBelow, IsSaturated}
use Rattle.scheme_terms.specs.declared.scheme.MetaDecl.{MetaDecl}
use Rattle.scheme_terms.proofs.Options.{zip_at}
use Rattle.scheme_terms.proofs.Makings.{instance_making, demand_is_value, strict_demands}
use Rattle.scheme_terms.proofs.Embeddings.{embedded_injective}
use Rattle.scheme_terms.proofs.SchemeFacts.{length_params, scheme_saturated, scheme_below}
use Rattle.pattern_unify.specs.Equations.{SchemeEquation, AreSides}
use Rattle.pattern_unify.specs.MostGeneral.{IsGroundThrough, IsGroundThroughOnce}
use Rattle.pattern_unify.specs.State.{State, names_of, applied_known}
use Rattle.pattern_unify.specs.CommonLaws.{IsGroundOfState}
use Rattle.pattern_unify.specs.LeftNames.{is_meta_left, is_known_left, picked, rank, left_names}
use Rattle.pattern_unify.proofs.TypedSuits.{IsTyped}
use Rattle.pattern_unify.proofs.MovedNames.{same_by_places}
use Rattle.pattern_unify.proofs.StatesKept.{entry_places, entry_typed}
use Rattle.pattern_unify.proofs.LinesKept.{saturated}
use Rattle.pattern_unify.proofs.PickedLists.{picked_at, picked_back, zip_picked}
use Rattle.pattern_unify.proofs.Renumbered.{instances_agree}
use Rattle.pattern_unify.proofs.RunInstances.{Found}
use Rattle.pattern_unify.proofs.LeftInstances.{OnlyLeft, left_declared, known_left_declared, found_only, found_knowns_left, entry_only, put_known, is_renumbered, left_is_common}
use Rattle.pattern_unify.proofs.ThroughLeft.{numbers_agree, new_line, new_number}

same_instance : (a b : Instance) → a.metas ≡ b.metas → a.knowns ≡ b.knowns → a.root ≡ b.root → a ≡ b
same_instance a b metas knowns root =
    ap (λ ts. made ts a.knowns a.root) metas ∙ ap (λ ps. made b.metas ps a.root) knowns ∙ ap (λ v. made b.metas b.knowns v) root
  where
    made : List (Option Tree) → List (Option ℕ) → ContextValue → Instance
    made ts ps v = record { metas = ts; knowns = ps; root = v }

-- what is given is told by the value or the place that it has
given_tree : (P : Tree → Type 0) (o : Option Tree) → MatchOption o ⊥ P → o ≡ Some (unwrap_or o (var 0))
given_tree P None h = absurd h
given_tree P (Some t) h = refl

given_place : (P : ℕ → Type 0) (o : Option ℕ) → MatchOption o ⊥ P → o ≡ Some (unwrap_or o 0)
given_place P None h = absurd h
given_place P (Some n) h = refl

module _ (sig : Signature) (scope : Names) (inst : Instance) (is : FitsScope sig scope inst) where
  value_given : (i : ℕ) → i < length inst.metas → slice_get inst.metas i ≡ Some (Some (value_of inst i))
  value_given i within =
      let own = some_within inst.metas i within in
      let long : length inst.metas ≡ length scope.metas = AllZip-long _ scope.metas inst.metas is.metas in
      let decl = some_within scope.metas i (omega (arith, within, long)) in
      let there = zip_at (IsMetaValue sig inst) scope.metas inst.metas is.metas i decl.0 decl.1 in
      let shown : there.0 ≡ Some (unwrap_or there.0 (var 0)) =
      given_tree (λ t. IsTerm sig (params_scope decl.0 ++ scope_of sig inst.root) decl.0.cat.0 t) there.0 there.2 in
      there.1 ∙ ap Some (shown ∙ ap (λ o. Some (unwrap_or (unwrap_or o None) (var 0))) (sym there.1))

  place_given : (i : ℕ) → i < length inst.knowns → slice_get inst.knowns i ≡ Some (Some (place_of inst i))
  place_given i within =
      let long : length inst.knowns ≡ length scope.knowns = AllZip-long _ scope.knowns inst.knowns is.knowns in
      let decl = some_within scope.knowns i (omega (arith, within, long)) in
      let there = zip_at (IsKnownPlace inst) scope.knowns inst.knowns is.knowns i decl.0 decl.1 in
      let shown : there.0 ≡ Some (unwrap_or there.0 0) =
      given_place (λ at. MatchOption (slice_get inst.root.entries at) ⊥ (IsEntryOf inst at decl.0.entry)) there.0 there.2 in
      there.1 ∙ ap Some (shown ∙ ap (λ o. Some (unwrap_or (unwrap_or o None) 0)) (sym there.1))

module _ (sig : Signature) (names : Names) (eqs : List SchemeEquation) (final : State) (fits : KnownsFit sig names) (typed_sides : AllByRecursion (AreSides sig names) eqs)
    (found : Found sig names eqs final) (inst : Instance) (o : IsGroundOfState sig names final inst) where
  abbrev scope : Names
  scope = names_of final

  abbrev left : Substitution
  left = left_names final

  abbrev by : Substitution
  by = composed final.so_far (left_names final)

  abbrev Left : ℕ → Type 0
  Left m = is_meta_left final m ≡ true

  abbrev KnownLeft : ℕ → Type 0
  KnownLeft k = is_known_left final k ≡ true

  abbrev new_meta : ℕ → ℕ
  new_meta m = rank (is_meta_left final) 0 m

  abbrev new_known : ℕ → ℕ
  new_known k = rank (is_known_left final) 0 k

  abbrev Only : SchemeTree → Type 0
  Only s = OnlyLeft sig names eqs final fits typed_sides found s

  abbrev after : Instance
  after = o.after

  abbrev third : Instance
  third = record { metas = picked (is_meta_left final) 0 o.after.metas; knowns = picked (is_known_left final) 0 o.after.knowns; root = o.after.root }

  third_meta : (m : ℕ) → Left m → value_of third (new_meta m) ≡ value_of after m
  third_meta m h =
      let decl = left_declared sig names eqs final fits typed_sides found m h in
      let v = zip_at (IsMetaValue sig after) scope.metas after.metas o.common.scope.metas m decl.0 decl.1 in
      ap (λ x. unwrap_or (unwrap_or x None) (var 0)) (picked_at (is_meta_left final) after.metas m v.0 v.1 h) ∙ sym (ap (λ x. unwrap_or (unwrap_or x None) (var 0)) v.1)

  third_known : (k : ℕ) → KnownLeft k → place_of third (new_known k) ≡ place_of after k
  third_known k h =
      let decl = known_left_declared sig names eqs final fits typed_sides found k h in
      let v = zip_at (IsKnownPlace after) scope.knowns after.knowns o.common.scope.knowns k decl.0 decl.1 in
      ap (λ x. unwrap_or (unwrap_or x None) 0) (picked_at (is_known_left final) after.knowns k v.0 v.1 h) ∙ sym (ap (λ x. unwrap_or (unwrap_or x None) 0) v.1)

  agree : (d e : ℕ) (s : SchemeTree) → IsSaturated scope.metas s → Only s → instance_of third d (applied left.metas left.knowns e s) ≡ instance_of after d s
  agree d e s sat only =
      ap (instance_of third d) (is_renumbered sig names eqs final fits typed_sides found e s sat only)
      ∙ instances_agree new_meta new_known Left KnownLeft third after refl third_meta third_known d s only.0 only.1

  arguments_agree : (places : List Place) (ss : List SchemeTree) → AreSchemes sig scope [] places ss → AllByRecursion Only ss →
      map (instance_of third 0) (map (applied left.metas left.knowns 0) ss) ≡ map (instance_of after 0) ss
  arguments_agree [] [] h only = refl
  arguments_agree [] (s ∷ ss) h only = absurd h
  arguments_agree (at ∷ places) [] h only = absurd h
  arguments_agree (at ∷ places) (s ∷ ss) h only =
      ap (λ t. t ∷ map (instance_of third 0) (map (applied left.metas left.knowns 0) ss)) (agree 0 0 s (scheme_saturated sig scope [] at.cat s h.0) only.0)
      ∙ ap (λ ts. instance_of after 0 s ∷ ts) (arguments_agree places ss h.1 only.1)

  third_place : (k : ℕ) (decl : KnownVariable) (place : Option ℕ) → slice_get scope.knowns k ≡ Some decl → KnownLeft k → IsKnownPlace after decl place →
      IsKnownPlace third (applied_known left.metas left.knowns decl) place
  third_place k decl place e h value =
      match_map place (λ at. MatchOption (slice_get after.root.entries at) ⊥ (IsEntryOf after at decl.entry))
      (λ at. MatchOption (slice_get after.root.entries at) ⊥ (IsEntryOf third at (applied_known left.metas left.knowns decl).entry))
      (λ (at : ℕ) g. match_map (slice_get after.root.entries at) (IsEntryOf after at decl.entry) (IsEntryOf third at (applied_known left.metas left.knowns decl).entry)
      (λ (x : GroundEntry) same. (
        same.0,
        same.1 ∙ sym (arguments_agree (entry_places sig decl.entry.prod) decl.entry.args
            (entry_typed sig scope scope.root decl.entry (all_at (λ d. IsKnownEntry sig scope scope.root d.entry) scope.knowns k decl found.state.knowns e))
            (entry_only sig names eqs final fits typed_sides found k decl e)),
      )) g) value

  third_fits : FitsScope sig left.into third
  third_fits = record {
    root = o.common.scope.root;
    metas = subst (λ ds. AllZip (IsMetaValue sig after) (picked (is_meta_left final) 0 ds) third.metas) (map_same scope.metas)
        (zip_picked (is_meta_left final) (λ d. d) (IsMetaValue sig after) (IsMetaValue sig after) scope.metas after.metas (λ k a b e h r. r) o.common.scope.metas);
    knowns = zip_picked (is_known_left final) (applied_known left.metas left.knowns) (IsKnownPlace after) (IsKnownPlace third) scope.knowns after.knowns third_place o.common.scope.knowns;
  }

  metas_again : (decls : List MetaDecl) (ss : List SchemeTree) → AllByRecursion (IsSaturated scope.metas) ss → AllByRecursion Only ss →
      followed_metas decls (map (applied left.metas left.knowns 0) ss) third ≡ followed_metas decls ss after
  metas_again [] ss sat only = refl
  metas_again (d ∷ decls) [] sat only = refl
  metas_again (d ∷ decls) (s ∷ ss) sat only =
      ap (λ t. Some t ∷ followed_metas decls (map (applied left.metas left.knowns 0) ss) third) (agree (params d) 0 s sat.0 only.0)
      ∙ ap (λ ts. Some (instance_of after (params d) s) ∷ ts) (metas_again decls ss sat.1 only.1)

  knowns_again : (ks : List ℕ) → AllByRecursion KnownLeft ks → map (λ k. Some (place_of third k)) (map (known_for left.knowns) ks) ≡ map (λ k. Some (place_of after k)) ks
  knowns_again [] only = refl
  knowns_again (k ∷ ks) only =
      ap (λ p. Some p ∷ map (λ j. Some (place_of third j)) (map (known_for left.knowns) ks))
      (ap (place_of third) (ap (λ x. unwrap_or x k) (put_known sig names eqs final fits typed_sides found k only.0)) ∙ third_known k only.0)
      ∙ ap (λ ps. Some (place_of after k) ∷ ps) (knowns_again ks only.1)

  third_same : followed names.metas by third ≡ inst
  third_same =
      same_instance (followed names.metas by third) (followed names.metas final.so_far after)
      (metas_again names.metas final.so_far.metas (saturated sig names final found.state found.lines) (found_only sig names eqs final fits typed_sides found))
      (knowns_again final.so_far.knowns (found_knowns_left sig names eqs final fits typed_sides found)) refl
      ∙ o.same

  -- it is told by what it makes
  module _ (second : Instance) (through : IsGroundThrough sig names by inst second) where
    both_same : followed names.metas by second ≡ followed names.metas by third
    both_same = through.same ∙ sym third_same

    some_same : (t u : Tree) → Some t ≡ Some u → t ≡ u
    some_same t u e = cc

    value_told : (q : ℕ) (decls : List MetaDecl) (bs : List SchemeTree) → AllZip (IsTyped sig left.into) decls bs →
        followed_metas decls bs second ≡ followed_metas decls bs third → AnyByRecursion (StrictIn q) bs → value_of second q ≡ value_of third q
    value_told q [] [] is e h = absurd h
    value_told q [] (b ∷ bs) is e h = absurd is
    value_told q (d ∷ decls) [] is e h = absurd h
    value_told q (d ∷ decls) (b ∷ bs) is e (inr h) = value_told q decls bs is.1 (cons_tail e) h
    value_told q (d ∷ decls) (b ∷ bs) is e (inl strict) =
        let same : instance_of third (params d) b ≡ instance_of second (params d) b = sym (some_same (instance_of second (params d) b) (instance_of third (params d) b) (cons_head e)) in
        let asked = strict_demands (instance_making second) q (params d) b (embedded (instance_of second (params d) b)) refl strict in
        let low = subst (λ p. LocalsBelow p b) (length_params d) (scheme_below sig left.into (params_scope d) d.cat.0 b is.0) in
        embedded_injective (value_of second q) (value_of third q)
        (demand_is_value (instance_making second) q (params d) b (embedded (instance_of second (params d) b)) asked.0 low refl asked.1
        ∙ sym (demand_is_value (instance_making third) q (params d) b (embedded (instance_of second (params d) b)) asked.0 low (ap embedded same) asked.1))

    long_metas : length second.metas ≡ length third.metas
    long_metas = AllZip-long _ left.into.metas second.metas through.scope.metas ∙ sym (AllZip-long _ left.into.metas third.metas third_fits.metas)

    long_knowns : length second.knowns ≡ length third.knowns
    long_knowns = AllZip-long _ left.into.knowns second.knowns through.scope.knowns ∙ sym (AllZip-long _ left.into.knowns third.knowns third_fits.knowns)

    meta_told : (i : ℕ) (v : Option Tree) → slice_get third.metas i ≡ Some v → slice_get second.metas i ≡ Some v
    meta_told i v e =
        let from = picked_back (is_meta_left final) after.metas i v e in
        let told : value_of second (new_meta from.0) ≡ value_of third (new_meta from.0) =
        value_told (new_meta from.0) names.metas by.metas (left_is_common sig names eqs final fits typed_sides found).schemes.metas (ap (λ (x : Instance). x.metas) both_same)
        (new_line sig names eqs final fits typed_sides found from.0 from.2) in
        let there : value_of second i ≡ value_of third i = ap (value_of second) (sym from.1) ∙ told ∙ ap (value_of third) from.1 in
        let within : i < length third.metas = slice_get_within third.metas i v e in
        value_given sig left.into second through.scope i (omega (arith, within, long_metas)) ∙ ap (λ t. Some (Some t)) there
        ∙ sym (value_given sig left.into third third_fits i within) ∙ e

    known_told : (i : ℕ) (p : Option ℕ) → slice_get third.knowns i ≡ Some p → slice_get second.knowns i ≡ Some p
    known_told i p e =
        let from = picked_back (is_known_left final) after.knowns i p e in
        let told : Some (place_of second (new_known from.0)) ≡ Some (place_of third (new_known from.0)) =
        numbers_agree (λ k. Some (place_of second k)) (λ k. Some (place_of third k)) by.knowns (new_known from.0) (ap (λ (x : Instance). x.knowns) both_same)
        (new_number sig names eqs final fits typed_sides found from.0 from.2) in
        let there : Some (place_of second i) ≡ Some (place_of third i) =
        ap (λ j. Some (place_of second j)) (sym from.1) ∙ told ∙ ap (λ j. Some (place_of third j)) from.1 in
        let within : i < length third.knowns = slice_get_within third.knowns i p e in
        place_given sig left.into second through.scope i (omega (arith, within, long_knowns)) ∙ ap Some there
        ∙ sym (place_given sig left.into third third_fits i within) ∙ e

    second_is_third : second ≡ third
    second_is_third =
        same_instance second third (same_by_places second.metas third.metas long_metas meta_told) (same_by_places second.knowns third.knowns long_knowns known_told)
        (ap (λ (x : Instance). x.root) both_same)

  pub ground_through_once : IsGroundThroughOnce sig names by inst
  ground_through_once = record { after = third; through = record { scope = third_fits; same = third_same }; only = λ second through. second_is_third second through }
