-- A substitution followed by an instance gives each name of a scheme what the instance makes of what is put in for it.
use Rattle.std.proofs.Common.{◌≡◌, ℕ, zero, suc, ◌<◌, List, [], ◌∷◌, length, map, Some, None, slice_get, unwrap_or, option_map, MatchOption, refl, ap, ◌∙◌, sym}
use Rattle.std.proofs.lemmas.Option.{slice_get-map, slice_get-get_or}
use Rattle.std.proofs.Common.{get_or}
use Rattle.binding_terms.specs.Tree.{var}
use Rattle.scheme_terms.specs.SchemeTree.{SchemeTree, meta, known, local, con, Values, no_values, value, Parts, no_parts, part, listed}
use Rattle.scheme_terms.specs.Forms.{Substitution, Instance}
use Rattle.scheme_terms.specs.Instance.{instance_of, place_of}
use Rattle.scheme_terms.specs.Substituting.{scheme_for, known_for, params, followed_metas, followed, LocalsBelow, Suits, SuitsValues, SuitsParts, IsSaturated, AreSaturated, PartsAreSaturated}
use Rattle.scheme_terms.specs.Laws.{InstanceOfApplied, InstanceOfAppliedScheme}
use Rattle.scheme_terms.specs.declared.scheme.MetaDecl.{MetaDecl}
use Rattle.scheme_terms.proofs.SchemeFacts.{scheme_saturated, scheme_suits}
use Rattle.scheme_terms.proofs.AppliedInstances.{Follows, FollowsValues, FollowsParts, instance_applied}

meta_follows : (metas : List MetaDecl) (ss : List SchemeTree) (inst : Instance) (m n : ℕ) → MatchOption (slice_get metas m) ⊥ (λ decl. n ≡ params decl)
    → MatchOption (slice_get ss m) ⊥ (LocalsBelow n)
    → unwrap_or (unwrap_or (slice_get (followed_metas metas ss inst) m) None) (var 0) ≡ instance_of inst n (scheme_for ss m)
meta_follows [] ss inst m n h k = absurd h
meta_follows (decl ∷ metas) [] inst m n h k = absurd k
meta_follows (decl ∷ metas) (s ∷ ss) inst zero n h k = ap (λ j. instance_of inst j s) (sym h)
meta_follows (decl ∷ metas) (s ∷ ss) inst (suc m) n h k = meta_follows metas ss inst m n h k

known_follows : (ks : List ℕ) (inst : Instance) (k : ℕ) → k < length ks →
    unwrap_or (unwrap_or (slice_get (map (λ l. Some (place_of inst l)) ks) k) None) 0 ≡ place_of inst (known_for ks k)
known_follows ks inst k h =
    let l : ℕ = get_or ks k 0 in
    let found : slice_get ks k ≡ Some l = slice_get-get_or ks k 0 h in
    ap (λ o. unwrap_or (unwrap_or o None) 0) (slice_get-map (λ l. Some (place_of inst l)) ks k ∙ ap (option_map (λ l. Some (place_of inst l))) found)
    ∙ ap (λ o. place_of inst (unwrap_or o k)) (sym found)

module _ (metas : List MetaDecl) (by : Substitution) (inst : Instance) where
  mutual
    follows : (s : SchemeTree) → IsSaturated metas s → Suits by.metas by.knowns s → Follows inst (followed metas by inst) by.metas by.knowns s
    follows (meta m vs) h k = (meta_follows metas by.metas inst m (length (listed vs)) h.0 k.0, values_follow vs h.1 k.1)
    follows (known l) h k = known_follows by.knowns inst l k
    follows (local i) h k = tt
    follows (con p xs) h k = parts_follow xs h k

    values_follow : (vs : Values) → AreSaturated metas vs → SuitsValues by.metas by.knowns vs → FollowsValues inst (followed metas by inst) by.metas by.knowns vs
    values_follow no_values h k = tt
    values_follow (value s vs) h k = (follows s h.0 k.0, values_follow vs h.1 k.1)

    parts_follow : (xs : Parts) → PartsAreSaturated metas xs → SuitsParts by.metas by.knowns xs → FollowsParts inst (followed metas by inst) by.metas by.knowns xs
    parts_follow no_parts h k = tt
    parts_follow (part n s xs) h k = (follows s h.0 k.0, parts_follow xs h.1 k.1)

pub instance_of_applied : InstanceOfApplied
instance_of_applied metas by inst d s h k =
    instance_applied inst (followed metas by inst) by.metas by.knowns d refl s k (follows metas by inst s h k)

pub instance_of_applied_scheme : InstanceOfAppliedScheme
instance_of_applied_scheme sig scope by inst ls c s is h =
    instance_of_applied scope.metas by inst (length ls) s (scheme_saturated sig scope ls c s h) (scheme_suits sig scope by is ls c s h)
