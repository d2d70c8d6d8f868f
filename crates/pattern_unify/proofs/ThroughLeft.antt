-- Each common instance that is a substitution is what a solved run has found, over the names that are left, with one third after it.
use Rattle.std.proofs.Common.{◌≡◌, inl, inr, ℕ, ◌<◌, true, List, [], ◌∷◌, length, map, Some, slice_get, unwrap_or, refl, ap, sym, ◌∙◌, subst, arith}
use Rattle.std.specs.List.{AllByRecursion, AllZip}
use Rattle.std.proofs.lemmas.Option.{slice_get_within}
use Rattle.std.proofs.lemmas.Slice.Zip.{AllZip-long}
use Rattle.binding_terms.specs.Numbered.{AnyByRecursion}
use Rattle.binding_terms.specs.Signature.{Signature, Place}
use Rattle.binding_terms.proofs.Lists.{all_at, cons_head, cons_tail, map_same, match_map, some_within}
use Rattle.scheme_terms.specs.SchemeTree.{SchemeTree, meta, values, StrictIn}
use Rattle.scheme_terms.specs.Forms.{Names, Substitution, KnownVariable}
use Rattle.scheme_terms.specs.SchemeScope.{AreSchemes, IsKnownEntry, KnownsFit, params_scope}
use Rattle.scheme_terms.specs.Substituting.{scheme_for, known_for, applied, composed, params, parameters, IsSaturated, applied_entry, IsKnownValue, IsSubstitution}
use Rattle.scheme_terms.specs.declared.scheme.MetaDecl.{MetaDecl}
use Rattle.scheme_terms.proofs.Options.{zip_at}
use Rattle.scheme_terms.proofs.Makings.{applied_making, demand_is_value, strict_demands}
use Rattle.scheme_terms.proofs.SchemeFacts.{scheme_saturated, scheme_below, scheme_suits}
use Rattle.scheme_terms.proofs.AppliedSchemes.{applied_anywhere}
use Rattle.scheme_terms.proofs.Compositions.{entry_with}
use Rattle.pattern_unify.specs.Equations.{SchemeEquation, AreSides}
use Rattle.pattern_unify.specs.MostGeneral.{IsThrough, IsThroughOnce}
use Rattle.pattern_unify.specs.State.{State, names_of, applied_known}
use Rattle.pattern_unify.specs.CommonLaws.{IsOfState}
use Rattle.pattern_unify.specs.LeftNames.{is_meta_left, is_known_left, picked, rank, left_names}
use Rattle.pattern_unify.proofs.TypedSuits.{IsTyped}
use Rattle.pattern_unify.proofs.MovedNames.{same_by_places, all_marked, all_kept}
use Rattle.pattern_unify.proofs.SubstitutionMoves.{value_is}
use Rattle.pattern_unify.proofs.StrictKept.{strict_kept_in}
use Rattle.pattern_unify.proofs.StatesKept.{entry_places, entry_typed}
use Rattle.pattern_unify.proofs.LinesKept.{saturated, number_mapped}
use Rattle.pattern_unify.proofs.PickedLists.{picked_at, picked_back, zip_picked}
use Rattle.pattern_unify.proofs.Renumbered.{renumbered_agree}
use Rattle.pattern_unify.proofs.RunInstances.{Found}
use Rattle.pattern_unify.proofs.LeftInstances.{OnlyLeft, left_line, left_declared, known_left_declared, found_only, found_knowns_left, entry_only, put, put_known, is_renumbered, listed_back, left_is_common}

-- functions that agree on a list agree on what is in it
pub numbers_agree : {A : Type 0} (f g : ℕ → A) (ks : List ℕ) (x : ℕ) → map f ks ≡ map g ks → AnyByRecursion (λ j. j ≡ x) ks → f x ≡ g x
numbers_agree f g [] x e h = absurd h
numbers_agree f g (k ∷ ks) x e (inl same) = ap f (sym same) ∙ cons_head e ∙ ap g same
numbers_agree f g (k ∷ ks) x e (inr h) = numbers_agree f g ks x (cons_tail e) h

same_substitution : (a b : Substitution) → a.metas ≡ b.metas → a.knowns ≡ b.knowns → a.into ≡ b.into → a ≡ b
same_substitution a b metas knowns into =
    ap (λ ss. made ss a.knowns a.into) metas ∙ ap (λ ks. made b.metas ks a.into) knowns ∙ ap (λ ns. made b.metas b.knowns ns) into
  where
    made : List SchemeTree → List ℕ → Names → Substitution
    made ss ks ns = record { metas = ss; knowns = ks; into = ns }

module _ (sig : Signature) (names : Names) (eqs : List SchemeEquation) (final : State) (fits : KnownsFit sig names) (typed_sides : AllByRecursion (AreSides sig names) eqs)
    (found : Found sig names eqs final) where
  abbrev scope : Names
  scope = names_of final

  abbrev left : Substitution
  left = left_names final

  abbrev by : Substitution
  by = composed final.so_far (left_names final)

  abbrev Left : ℕ → Type 0
  Left m = is_meta_left final m ≡ true

  abbrev KnownLeft : ℕ → Type 0
  KnownLeft k = is_known_left final k ≡ true

  abbrev new_meta : ℕ → ℕ
  new_meta m = rank (is_meta_left final) 0 m

  abbrev new_known : ℕ → ℕ
  new_known k = rank (is_known_left final) 0 k

  abbrev Only : SchemeTree → Type 0
  Only s = OnlyLeft sig names eqs final fits typed_sides found s

  -- each name that is left has a strict occurrence in what is found
  pub new_line : (n : ℕ) → Left n → AnyByRecursion (StrictIn (new_meta n)) by.metas
  new_line n h =
      let decl = left_declared sig names eqs final fits typed_sides found n h in
      strict_kept_in left.metas left.knowns scope.metas n (new_meta n) decl.0 (all_marked (params decl.0)) decl.1
      (value_is left.metas n (meta (new_meta n) (values (parameters (params decl.0)))) (put sig names eqs final fits typed_sides found n decl.0 decl.1 h)
      ∙ ap (λ xs. meta (new_meta n) (values xs)) (sym (all_kept (params decl.0))))
      final.so_far.metas (saturated sig names final found.state found.lines) (left_line sig names eqs final fits typed_sides found n h)

  pub new_number : (k : ℕ) → KnownLeft k → AnyByRecursion (λ j. j ≡ new_known k) by.knowns
  new_number k h =
      number_mapped (known_for left.knowns) final.so_far.knowns k (new_known k) (listed_back final.so_far.knowns k h)
      (ap (λ o. unwrap_or o k) (put_known sig names eqs final fits typed_sides found k h))

  module _ (other : Substitution) (o : IsOfState sig final other) where
    abbrev after : Substitution
    after = o.after

    abbrev third : Substitution
    third = record { metas = picked (is_meta_left final) 0 o.after.metas; knowns = picked (is_known_left final) 0 o.after.knowns; into = o.after.into }

    third_meta : (m : ℕ) → Left m → scheme_for third.metas (new_meta m) ≡ scheme_for after.metas m
    third_meta m h =
        let decl = left_declared sig names eqs final fits typed_sides found m h in
        let v = zip_at (IsTyped sig after.into) scope.metas after.metas o.common.schemes.metas m decl.0 decl.1 in
        value_is third.metas (new_meta m) v.0 (picked_at (is_meta_left final) after.metas m v.0 v.1 h) ∙ sym (value_is after.metas m v.0 v.1)

    third_known : (k : ℕ) → KnownLeft k → known_for third.knowns (new_known k) ≡ known_for after.knowns k
    third_known k h =
        let decl = known_left_declared sig names eqs final fits typed_sides found k h in
        let v = zip_at (IsKnownValue after) scope.knowns after.knowns o.common.schemes.knowns k decl.0 decl.1 in
        ap (λ x. unwrap_or x (new_known k)) (picked_at (is_known_left final) after.knowns k v.0 v.1 h) ∙ sym (ap (λ x. unwrap_or x k) v.1)

    agree : (d e : ℕ) (s : SchemeTree) → IsSaturated scope.metas s → Only s → applied third.metas third.knowns d (applied left.metas left.knowns e s) ≡ applied after.metas after.knowns d s
    agree d e s sat only =
        ap (applied third.metas third.knowns d) (is_renumbered sig names eqs final fits typed_sides found e s sat only)
        ∙ renumbered_agree new_meta new_known Left KnownLeft third.metas third.knowns after.metas after.knowns third_meta third_known d s only.0 only.1

    arguments_agree : (places : List Place) (ss : List SchemeTree) → AreSchemes sig scope [] places ss → AllByRecursion Only ss →
        map (applied third.metas third.knowns 0) (map (applied left.metas left.knowns 0) ss) ≡ map (applied after.metas after.knowns 0) ss
    arguments_agree [] [] h only = refl
    arguments_agree [] (s ∷ ss) h only = absurd h
    arguments_agree (at ∷ places) [] h only = absurd h
    arguments_agree (at ∷ places) (s ∷ ss) h only =
        ap (λ t. t ∷ map (applied third.metas third.knowns 0) (map (applied left.metas left.knowns 0) ss)) (agree 0 0 s (scheme_saturated sig scope [] at.cat s h.0) only.0)
        ∙ ap (λ ts. applied after.metas after.knowns 0 s ∷ ts) (arguments_agree places ss h.1 only.1)

    third_value : (k : ℕ) (decl : KnownVariable) (j : ℕ) → slice_get scope.knowns k ≡ Some decl → KnownLeft k → IsKnownValue after decl j →
        IsKnownValue third (applied_known left.metas left.knowns decl) j
    third_value k decl j e h value =
        match_map (slice_get after.into.knowns j) (λ x. x.entry ≡ applied_entry after 0 decl.entry) (λ x. x.entry ≡ applied_entry third 0 (applied_known left.metas left.knowns decl).entry)
        (λ (x : KnownVariable) same. same ∙ sym (ap (entry_with decl.entry.prod)
        (arguments_agree (entry_places sig decl.entry.prod) decl.entry.args
        (entry_typed sig scope scope.root decl.entry (all_at (λ d. IsKnownEntry sig scope scope.root d.entry) scope.knowns k decl found.state.knowns e))
        (entry_only sig names eqs final fits typed_sides found k decl e)))) value

    third_is : IsSubstitution sig left.into third
    third_is = record {
      metas = subst (λ ds. AllZip (IsTyped sig after.into) (picked (is_meta_left final) 0 ds) third.metas) (map_same scope.metas)
          (zip_picked (is_meta_left final) (λ d. d) (IsTyped sig after.into) (IsTyped sig after.into) scope.metas after.metas (λ k a b e h r. r) o.common.schemes.metas);
      knowns = zip_picked (is_known_left final) (applied_known left.metas left.knowns) (IsKnownValue after) (IsKnownValue third) scope.knowns after.knowns third_value o.common.schemes.knowns;
    }

    metas_again : (ss : List SchemeTree) → AllByRecursion (IsSaturated scope.metas) ss → AllByRecursion Only ss →
        map (applied third.metas third.knowns 0) (map (applied left.metas left.knowns 0) ss) ≡ map (applied after.metas after.knowns 0) ss
    metas_again [] sat only = refl
    metas_again (s ∷ ss) sat only =
        ap (λ t. t ∷ map (applied third.metas third.knowns 0) (map (applied left.metas left.knowns 0) ss)) (agree 0 0 s sat.0 only.0)
        ∙ ap (λ ts. applied after.metas after.knowns 0 s ∷ ts) (metas_again ss sat.1 only.1)

    knowns_again : (ks : List ℕ) → AllByRecursion KnownLeft ks → map (known_for third.knowns) (map (known_for left.knowns) ks) ≡ map (known_for after.knowns) ks
    knowns_again [] only = refl
    knowns_again (k ∷ ks) only =
        ap (λ j. j ∷ map (known_for third.knowns) (map (known_for left.knowns) ks))
        (ap (known_for third.knowns) (ap (λ x. unwrap_or x k) (put_known sig names eqs final fits typed_sides found k only.0)) ∙ third_known k only.0)
        ∙ ap (λ js. known_for after.knowns k ∷ js) (knowns_again ks only.1)

    third_same : composed by third ≡ other
    third_same =
        same_substitution (composed by third) (composed final.so_far after)
        (metas_again final.so_far.metas (saturated sig names final found.state found.lines) (found_only sig names eqs final fits typed_sides found))
        (knowns_again final.so_far.knowns (found_knowns_left sig names eqs final fits typed_sides found)) refl
        ∙ o.same

    -- the third is told by what it makes
    module _ (second : Substitution) (through : IsThrough sig by other second) where
      both_same : composed by second ≡ composed by third
      both_same = through.same ∙ sym third_same

      value_told : (q : ℕ) (decls : List MetaDecl) (bs : List SchemeTree) → AllZip (IsTyped sig left.into) decls bs →
          map (applied second.metas second.knowns 0) bs ≡ map (applied third.metas third.knowns 0) bs → AnyByRecursion (StrictIn q) bs → scheme_for second.metas q ≡ scheme_for third.metas q
      value_told q [] [] is e h = absurd h
      value_told q [] (b ∷ bs) is e h = absurd is
      value_told q (d ∷ decls) [] is e h = absurd h
      value_told q (d ∷ decls) (b ∷ bs) is e (inr h) = value_told q decls bs is.1 (cons_tail e) h
      value_told q (d ∷ decls) (b ∷ bs) is e (inl strict) =
          let p : ℕ = length (params_scope d) in
          let same : applied third.metas third.knowns p b ≡ applied second.metas second.knowns p b =
          applied_anywhere third.metas third.knowns p 0 b (scheme_suits sig left.into third third_is (params_scope d) d.cat.0 b is.0) ∙ sym (cons_head e)
          ∙ applied_anywhere second.metas second.knowns 0 p b (scheme_suits sig left.into second through.schemes (params_scope d) d.cat.0 b is.0) in
          let asked = strict_demands (applied_making second.metas second.knowns) q p b (applied second.metas second.knowns p b) refl strict in
          let low = scheme_below sig left.into (params_scope d) d.cat.0 b is.0 in
          demand_is_value (applied_making second.metas second.knowns) q p b (applied second.metas second.knowns p b) asked.0 low refl asked.1
          ∙ sym (demand_is_value (applied_making third.metas third.knowns) q p b (applied second.metas second.knowns p b) asked.0 low same asked.1)

      meta_told : (i : ℕ) (v : SchemeTree) → slice_get third.metas i ≡ Some v → slice_get second.metas i ≡ Some v
      meta_told i v e =
          let from = picked_back (is_meta_left final) after.metas i v e in
          let told : scheme_for second.metas (new_meta from.0) ≡ scheme_for third.metas (new_meta from.0) =
          value_told (new_meta from.0) names.metas by.metas (left_is_common sig names eqs final fits typed_sides found).schemes.metas (ap (λ (x : Substitution). x.metas) both_same)
          (new_line from.0 from.2) in
          let there : scheme_for second.metas i ≡ v = ap (scheme_for second.metas) (sym from.1) ∙ told ∙ ap (scheme_for third.metas) from.1 ∙ value_is third.metas i v e in
          let within : i < length third.metas = slice_get_within third.metas i v e in
          let long : length second.metas ≡ length third.metas =
          AllZip-long _ left.into.metas second.metas through.schemes.metas ∙ sym (AllZip-long _ left.into.metas third.metas third_is.metas) in
          let own = some_within second.metas i (omega (arith, within, long)) in
          own.1 ∙ ap Some (sym (value_is second.metas i own.0 own.1) ∙ there)

      known_told : (i : ℕ) (y : ℕ) → slice_get third.knowns i ≡ Some y → slice_get second.knowns i ≡ Some y
      known_told i y e =
          let from = picked_back (is_known_left final) after.knowns i y e in
          let told : known_for second.knowns (new_known from.0) ≡ known_for third.knowns (new_known from.0) =
          numbers_agree (known_for second.knowns) (known_for third.knowns) by.knowns (new_known from.0) (ap (λ (x : Substitution). x.knowns) both_same) (new_number from.0 from.2) in
          let there : known_for second.knowns i ≡ y =
          ap (known_for second.knowns) (sym from.1) ∙ told ∙ ap (known_for third.knowns) from.1 ∙ ap (λ x. unwrap_or x i) e in
          let within : i < length third.knowns = slice_get_within third.knowns i y e in
          let long : length second.knowns ≡ length third.knowns =
          AllZip-long _ left.into.knowns second.knowns through.schemes.knowns ∙ sym (AllZip-long _ left.into.knowns third.knowns third_is.knowns) in
          let own = some_within second.knowns i (omega (arith, within, long)) in
          own.1 ∙ ap Some (sym (ap (λ x. unwrap_or x i) own.1) ∙ there)

      second_is_third : second ≡ third
      second_is_third =
          same_substitution second third
          (same_by_places second.metas third.metas
          (AllZip-long _ left.into.metas second.metas through.schemes.metas ∙ sym (AllZip-long _ left.into.metas third.metas third_is.metas)) meta_told)
          (same_by_places second.knowns third.knowns
          (AllZip-long _ left.into.knowns second.knowns through.schemes.knowns ∙ sym (AllZip-long _ left.into.knowns third.knowns third_is.knowns)) known_told)
          (ap (λ (x : Substitution). x.into) both_same)

    pub through_once : IsThroughOnce sig by other
    through_once = record { after = third; through = record { schemes = third_is; same = third_same }; only = λ second through. second_is_third second through }
