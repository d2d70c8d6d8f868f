-- Compositions of substitutions with each other and with instances, in scopes.
use Rattle.std.proofs.Common.{◌≡◌, ℕ, List, [], ◌∷◌, ◌++◌, length, map, drop, Some, None, slice_get, unwrap_or, refl, ap, ◌∙◌, sym, subst}
use Rattle.std.specs.List.{AllByRecursion, AllZip}
use Rattle.binding_terms.specs.Signature.{Signature, Place, slots}
use Rattle.binding_terms.specs.Scope.{IsTerm}
use Rattle.scheme_terms.specs.SchemeTree.{SchemeTree}
use Rattle.scheme_terms.specs.Forms.{Names, Substitution, Instance, SchemeEntry, KnownVariable}
use Rattle.scheme_terms.specs.Context.{scope_of, IsValue}
use Rattle.scheme_terms.specs.Instance.{instance_of, place_of, FitsScope, IsMetaValue, IsKnownPlace, IsEntryOf}
use Rattle.scheme_terms.specs.SchemeScope.{IsScheme, AreSchemes, IsKnownEntry, IsRoot, params_scope}
use Rattle.scheme_terms.specs.Substituting.{known_for, params, applied, composed, followed, followed_metas, Suits, applied_entry, IsKnownValue, IsSubstitution}
use Rattle.scheme_terms.specs.Laws.{AppliedTwiceInScope, ComposedIsSubstitution, FollowedFits, InstanceRaised}
use Rattle.scheme_terms.specs.declared.scheme.MetaDecl.{MetaDecl}
use Rattle.scheme_terms.specs.declared.scheme.Root.{Root}
use Rattle.scheme_terms.specs.declared.scheme.Root.TheVariants.{Closed, Empty, Whole}
use Rattle.scheme_terms.proofs.Options.{zip_at}
use Rattle.scheme_terms.proofs.SchemeFacts.{length_params, scheme_suits}
use Rattle.scheme_terms.proofs.Followed.{instance_of_applied_scheme}
use Rattle.scheme_terms.proofs.RaisedInstances.{instance_shifted}
use Rattle.scheme_terms.proofs.InstanceScopes.{instance_keeps_scope, place_some}
use Rattle.scheme_terms.proofs.SchemeScopes.{applied_scheme}
use Rattle.scheme_terms.proofs.AppliedSchemes.{applied_anywhere, applied_twice}
use Rattle.binding_terms.proofs.Lists.{each_map, match_from, match_some}

pub instance_raised : InstanceRaised
instance_raised inst cut d n s h = instance_shifted inst cut d n h s

abbrev pub entry_with : ℕ → List SchemeTree → SchemeEntry
entry_with p ss = record { prod = p; args = ss }

-- functions that agree on schemes of the scope agree on the arguments of an entry
each_scheme : {A : Type 0} (sig : Signature) (names : Names) (ls : List ℕ) (f g : SchemeTree → A) → ((c : ℕ) (s : SchemeTree) → IsScheme sig names ls c s → f s ≡ g s) →
    (places : List Place) (ss : List SchemeTree) → AreSchemes sig names ls places ss → map f ss ≡ map g ss
each_scheme sig names ls f g same [] [] h = refl
each_scheme sig names ls f g same [] (s ∷ ss) h = absurd h
each_scheme sig names ls f g same (at ∷ places) [] h = absurd h
each_scheme sig names ls f g same (at ∷ places) (s ∷ ss) h =
    ap (λ t. t ∷ map f ss) (same at.cat s h.0) ∙ ap (λ ts. g s ∷ ts) (each_scheme sig names ls f g same places ss h.1)

entry_schemes : (sig : Signature) (names : Names) (root : Root) (e : SchemeEntry) → IsKnownEntry sig names root e →
    (places : List Place) × AreSchemes sig names [] places e.args
entry_schemes sig names Closed e h = absurd h
entry_schemes sig names (Empty c) e h = absurd h
entry_schemes sig names (Whole c) e h =
    let found = match_some (slice_get sig.prods e.prod) _ h in (drop 1 (slots found.0.items), found.2.2)

pub same_arguments : {A : Type 0} (sig : Signature) (names : Names) (f g : SchemeTree → A) → ((c : ℕ) (s : SchemeTree) → IsScheme sig names [] c s → f s ≡ g s) →
    (e : SchemeEntry) → IsKnownEntry sig names names.root e → map f e.args ≡ map g e.args
same_arguments sig names f g same e h =
    let found = entry_schemes sig names names.root e h in each_scheme sig names [] f g same found.0 e.args found.1

module _ (sig : Signature) (scope : Names) (first after : Substitution) (one : IsSubstitution sig scope first) (two : IsSubstitution sig first.into after) where
  values_suit : (decls : List MetaDecl) (ss : List SchemeTree) → AllZip (λ d s. IsScheme sig first.into (params_scope d) d.cat.0 s) decls ss →
      AllByRecursion (Suits after.metas after.knowns) ss
  values_suit [] [] h = tt
  values_suit [] (s ∷ ss) h = absurd h
  values_suit (d ∷ ds) [] h = absurd h
  values_suit (d ∷ ds) (s ∷ ss) h = (scheme_suits sig first.into after two (params_scope d) d.cat.0 s h.0, values_suit ds ss h.1)

  pub twice : (ls : List ℕ) (c : ℕ) (s : SchemeTree) → IsScheme sig scope ls c s →
      applied after.metas after.knowns (length ls) (applied first.metas first.knowns (length ls) s)
      ≡ applied (composed first after).metas (composed first after).knowns (length ls) s
  twice ls c s h = applied_twice first after (values_suit scope.metas first.metas one.metas) (length ls) s (scheme_suits sig scope first one ls c s h)

  composed_metas : (decls : List MetaDecl) (ss : List SchemeTree) → AllZip (λ d s. IsScheme sig first.into (params_scope d) d.cat.0 s) decls ss →
      AllZip (λ d s. IsScheme sig after.into (params_scope d) d.cat.0 s) decls (map (applied after.metas after.knowns 0) ss)
  composed_metas [] [] h = tt
  composed_metas [] (s ∷ ss) h = absurd h
  composed_metas (d ∷ ds) [] h = absurd h
  composed_metas (d ∷ ds) (s ∷ ss) h =
      let suits : Suits after.metas after.knowns s = scheme_suits sig first.into after two (params_scope d) d.cat.0 s h.0 in (
        subst (IsScheme sig after.into (params_scope d) d.cat.0) (applied_anywhere after.metas after.knowns (length (params_scope d)) 0 s suits)
            (applied_scheme sig first.into after two (params_scope d) d.cat.0 s h.0),
        composed_metas ds ss h.1,
      )

  entry_twice : (e : SchemeEntry) → IsKnownEntry sig scope scope.root e → applied_entry after 0 (applied_entry first 0 e) ≡ applied_entry (composed first after) 0 e
  entry_twice e h =
      ap (λ ss. entry_with e.prod ss)
      (each_map (applied first.metas first.knowns 0) (applied after.metas after.knowns 0) e.args
      ∙ same_arguments sig scope (λ s. applied after.metas after.knowns 0 (applied first.metas first.knowns 0 s)) (applied (composed first after).metas (composed first after).knowns 0)
      (λ c s is. twice [] c s is) e h)

  composed_knowns : (decls : List KnownVariable) (ks : List ℕ) → AllByRecursion (λ d. IsKnownEntry sig scope scope.root d.entry) decls → AllZip (IsKnownValue first) decls ks →
      AllZip (IsKnownValue (composed first after)) decls (map (known_for after.knowns) ks)
  composed_knowns [] [] fits h = tt
  composed_knowns [] (k ∷ ks) fits h = absurd h
  composed_knowns (d ∷ ds) [] fits h = absurd h
  composed_knowns (d ∷ ds) (k ∷ ks) fits h =
      let other = match_some (slice_get first.into.knowns k) (λ o. o.entry ≡ applied_entry first 0 d.entry) h.0 in
      let stored = zip_at (IsKnownValue after) first.into.knowns after.knowns two.knowns k other.0 other.1 in
      let third = match_some (slice_get after.into.knowns stored.0) (λ o. o.entry ≡ applied_entry after 0 other.0.entry) stored.2 in (
        match_from (slice_get after.into.knowns (known_for after.knowns k)) (λ o. o.entry ≡ applied_entry (composed first after) 0 d.entry) third.0
            (ap (λ o. slice_get after.into.knowns (unwrap_or o k)) stored.1 ∙ third.1)
            (third.2 ∙ ap (applied_entry after 0) other.2 ∙ entry_twice d.entry fits.0),
        composed_knowns ds ks fits.1 h.1,
      )

pub applied_twice_in_scope : AppliedTwiceInScope
applied_twice_in_scope sig scope first after ls c s one two h = twice sig scope first after one two ls c s h

pub composed_is_substitution : ComposedIsSubstitution
composed_is_substitution sig scope first after fits one two = record {
  metas = composed_metas sig scope first after one two scope.metas first.metas one.metas;
  knowns = composed_knowns sig scope first after one two scope.knowns first.knowns fits one.knowns;
}

module _ (sig : Signature) (scope : Names) (by : Substitution) (inst : Instance) (is : IsSubstitution sig scope by) (fits : FitsScope sig by.into inst) where
  metas_fit : (given : Instance) → given.root ≡ inst.root →
      ((ls : List ℕ) (c : ℕ) (s : SchemeTree) → IsScheme sig by.into ls c s → IsTerm sig (ls ++ scope_of sig inst.root) c (instance_of inst (length ls) s)) →
      (decls : List MetaDecl) (ss : List SchemeTree) → AllZip (λ d s. IsScheme sig by.into (params_scope d) d.cat.0 s) decls ss →
      AllZip (IsMetaValue sig given) decls (followed_metas decls ss inst)
  metas_fit given root keeps [] [] h = tt
  metas_fit given root keeps [] (s ∷ ss) h = absurd h
  metas_fit given root keeps (d ∷ ds) [] h = absurd h
  metas_fit given root keeps (d ∷ ds) (s ∷ ss) h =
      let kept : IsTerm sig (params_scope d ++ scope_of sig inst.root) d.cat.0 (instance_of inst (params d) s) =
      subst (λ n. IsTerm sig (params_scope d ++ scope_of sig inst.root) d.cat.0 (instance_of inst n s)) (length_params d) (keeps (params_scope d) d.cat.0 s h.0) in
      (subst (λ v. IsTerm sig (params_scope d ++ scope_of sig v) d.cat.0 (instance_of inst (params d) s)) (sym root) kept, metas_fit given root keeps ds ss h.1)

  entry_follows : (e : SchemeEntry) → IsKnownEntry sig scope scope.root e →
      map (instance_of inst 0) (applied_entry by 0 e).args ≡ map (instance_of (followed scope.metas by inst) 0) e.args
  entry_follows e h =
      each_map (applied by.metas by.knowns 0) (instance_of inst 0) e.args
      ∙ same_arguments sig scope (λ s. instance_of inst 0 (applied by.metas by.knowns 0 s)) (instance_of (followed scope.metas by inst) 0)
      (λ c s h. instance_of_applied_scheme sig scope by inst [] c s is h) e h

  knowns_fit : (decls : List KnownVariable) (ks : List ℕ) → AllByRecursion (λ d. IsKnownEntry sig scope scope.root d.entry) decls → AllZip (IsKnownValue by) decls ks →
      AllZip (IsKnownPlace (followed scope.metas by inst)) decls (map (λ k. Some (place_of inst k)) ks)
  knowns_fit [] [] entries h = tt
  knowns_fit [] (k ∷ ks) entries h = absurd h
  knowns_fit (d ∷ ds) [] entries h = absurd h
  knowns_fit (d ∷ ds) (k ∷ ks) entries h =
      let other = match_some (slice_get by.into.knowns k) (λ o. o.entry ≡ applied_entry by 0 d.entry) h.0 in
      let stored = zip_at (IsKnownPlace inst) by.into.knowns inst.knowns fits.knowns k other.0 other.1 in
      let place : place_of inst k ≡ unwrap_or stored.0 0 = ap (λ o. unwrap_or (unwrap_or o None) 0) stored.1 in
      let placed = match_some (slice_get inst.root.entries (unwrap_or stored.0 0)) (IsEntryOf inst (unwrap_or stored.0 0) other.0.entry) (place_some inst other.0 stored.0 stored.2) in
      let here : IsEntryOf (followed scope.metas by inst) (unwrap_or stored.0 0) d.entry placed.0 =
      (placed.2.0 ∙ ap (λ e. e.prod) other.2, placed.2.1 ∙ ap (λ e. map (instance_of inst 0) e.args) other.2 ∙ entry_follows d.entry entries.0) in (
        match_from (slice_get inst.root.entries (place_of inst k)) (IsEntryOf (followed scope.metas by inst) (place_of inst k) d.entry) placed.0
            (ap (slice_get inst.root.entries) place ∙ placed.1) (subst (λ at. IsEntryOf (followed scope.metas by inst) at d.entry placed.0) (sym place) here),
        knowns_fit ds ks entries.1 h.1,
      )

pub followed_fits : FollowedFits
followed_fits sig scope by inst fits root entries same is given = record {
  root = subst (λ r. IsValue sig r inst.root) same given.root;
  metas = metas_fit sig scope by inst is given (followed scope.metas by inst) refl
      (λ ls c s h. instance_keeps_scope sig by.into inst ls c s fits (subst (IsRoot sig) (sym same) root) given h) scope.metas by.metas is.metas;
  knowns = knowns_fit sig scope by inst is given scope.knowns by.knowns entries is.knowns;
}
