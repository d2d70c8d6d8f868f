-- The identity changes nothing.
use Rattle.std.proofs.Common.{◌≡◌, ℕ, zero, suc, ◌+◌, ◌-◌, ◌<◌, List, [], ◌∷◌, length, map, reverse, get_or, Some, slice_get, unwrap_or, refl, ap, ◌∙◌, sym, subst, arith}
use Rattle.std.specs.List.{AllByRecursion, AllZip}
use Rattle.std.proofs.lemmas.List.{length-map, length-reverse, get_or-reverse}
use Rattle.std.proofs.lemmas.Option.{unwrap_or-slice_get, slice_get-get_or}
use Rattle.binding_terms.specs.Signature.{Signature}
use Rattle.scheme_terms.specs.SchemeTree.{SchemeTree, meta, known, local, con, Values, no_values, value, values, Parts, no_parts, part, filled, filled_values, listed}
use Rattle.scheme_terms.specs.Forms.{Names, SchemeEntry, KnownVariable}
use Rattle.scheme_terms.specs.SchemeScope.{IsScheme, AreValues, IsKnownEntry, KnownsFit, params_scope}
use Rattle.scheme_terms.specs.Substituting.{scheme_for, known_for, params, argument_or_local, applied, applied_values, applied_parts, parameters, metas_from, knowns_from, identity, IsSaturated, AreSaturated, PartsAreSaturated, IsKnownValue, applied_entry}
use Rattle.scheme_terms.specs.Laws.{IdentityChangesNothing, IdentityKeepsSchemes, IdentityIsSubstitution}
use Rattle.scheme_terms.specs.declared.scheme.MetaDecl.{MetaDecl}
use Rattle.scheme_terms.proofs.Arguments.{argument_at}
use Rattle.scheme_terms.proofs.SchemeFacts.{scheme_saturated}
use Rattle.scheme_terms.proofs.Compositions.{same_arguments, entry_with}
use Rattle.binding_terms.proofs.Lists.{match_from, match_some}

-- the parameters with schemes put in for them, from the outermost
read_back : (f : ℕ → SchemeTree) (args : List SchemeTree) → ((i : ℕ) → i < length args → f (length args - 1 - i) ≡ get_or args i (local 0)) →
    filled_values f (values (parameters (length args))) ≡ values args
read_back f [] h = refl
read_back f (s ∷ args) h =
    let first : f (length args) ≡ s = ap f (let e : length args ≡ suc (length args) - 1 - 0 = omega arith in e) ∙ h 0 (omega arith) in
    ap (λ t. value t (filled_values f (values (parameters (length args))))) first
    ∙ ap (value s) (read_back f args (λ i below. ap f (let e : length args - 1 - i ≡ suc (length args) - 1 - suc i = omega arith in e) ∙ h (suc i) (omega arith)))

argument_is : (d : ℕ) (args : List SchemeTree) (i : ℕ) → i < length args → argument_or_local d args (length args - 1 - i) ≡ get_or args i (local 0)
argument_is d args i below =
    argument_at (local 0) (λ k. local (k + d)) args (length args - 1 - i) (omega arith)
    ∙ unwrap_or-slice_get (reverse args) (length args - 1 - i) (local 0)
    ∙ get_or-reverse args (length args - 1 - i) (local 0) (omega arith)
    ∙ ap (λ k. get_or args k (local 0)) (let e : length args - 1 - (length args - 1 - i) ≡ i = omega arith in e)

values_listed : (vs : Values) → values (listed vs) ≡ vs
values_listed no_values = refl
values_listed (value s vs) = ap (value s) (values_listed vs)

meta_itself : (decls : List MetaDecl) (first m : ℕ) (decl : MetaDecl) → slice_get decls m ≡ Some decl →
    slice_get (metas_from first decls) m ≡ Some (meta (first + m) (values (parameters (params decl))))
meta_itself [] first m decl e = absurd (let no : ⊥ = cc in no)
meta_itself (x ∷ decls) first zero decl e =
    let same : x ≡ decl = cc in
    ap (λ d. Some (meta first (values (parameters (params d))))) same
    ∙ ap (λ n. Some (meta n (values (parameters (params decl))))) (let k : first ≡ first + 0 = omega arith in k)
meta_itself (x ∷ decls) first (suc m) decl e =
    meta_itself decls (suc first) m decl e ∙ ap (λ n. Some (meta n (values (parameters (params decl))))) (let k : suc first + m ≡ first + suc m = omega arith in k)

known_itself : (decls : List KnownVariable) (first k : ℕ) → unwrap_or (slice_get (knowns_from first decls) k) (first + k) ≡ first + k
known_itself [] first k = refl
known_itself (x ∷ decls) first zero = let e : first ≡ first + 0 = omega arith in e
known_itself (x ∷ decls) first (suc k) =
    let e : first + suc k ≡ suc first + k = omega arith in
    ap (unwrap_or (slice_get (knowns_from (suc first) decls) k)) e ∙ known_itself decls (suc first) k ∙ sym e

known_stays : (decls : List KnownVariable) (k : ℕ) → known_for (knowns_from 0 decls) k ≡ k
known_stays decls k =
    let e : 0 + k ≡ k = omega arith in
    ap (unwrap_or (slice_get (knowns_from 0 decls) k)) (sym e) ∙ known_itself decls 0 k ∙ e

module _ (scope : Names) where
  mutual
    stays : (d : ℕ) (s : SchemeTree) → IsSaturated scope.metas s → applied (metas_from 0 scope.metas) (knowns_from 0 scope.knowns) d s ≡ s
    stays d (meta m vs) h =
        let found = match_some (slice_get scope.metas m) (λ decl. length (listed vs) ≡ params decl) h.0 in
        let itself : scheme_for (metas_from 0 scope.metas) m ≡ meta m (values (parameters (length (listed vs)))) =
        ap (λ o. unwrap_or o (local 0)) (meta_itself scope.metas 0 m found.0 found.1)
        ∙ ap (λ k. meta k (values (parameters (params found.0)))) (let e : 0 + m ≡ m = omega arith in e)
        ∙ ap (λ n. meta m (values (parameters n))) (sym found.2) in
        ap (λ ts. filled (argument_or_local d ts) (scheme_for (metas_from 0 scope.metas) m)) (values_stay d vs h.1)
        ∙ ap (filled (argument_or_local d (listed vs))) itself
        ∙ ap (meta m) (read_back (argument_or_local d (listed vs)) (listed vs) (λ i below. argument_is d (listed vs) i below) ∙ values_listed vs)
    stays d (known k) h = ap known (known_stays scope.knowns k)
    stays d (local i) h = refl
    stays d (con p xs) h = ap (con p) (parts_stay d xs h)

    values_stay : (d : ℕ) (vs : Values) → AreSaturated scope.metas vs → applied_values (metas_from 0 scope.metas) (knowns_from 0 scope.knowns) d vs ≡ listed vs
    values_stay d no_values h = refl
    values_stay d (value s vs) h =
        ap (λ t. t ∷ applied_values (metas_from 0 scope.metas) (knowns_from 0 scope.knowns) d vs) (stays d s h.0) ∙ ap (λ ts. s ∷ ts) (values_stay d vs h.1)

    parts_stay : (d : ℕ) (xs : Parts) → PartsAreSaturated scope.metas xs → applied_parts (metas_from 0 scope.metas) (knowns_from 0 scope.knowns) d xs ≡ xs
    parts_stay d no_parts h = refl
    parts_stay d (part n s xs) h =
        ap (λ t. part n t (applied_parts (metas_from 0 scope.metas) (knowns_from 0 scope.knowns) d xs)) (stays (d + n) s h.0) ∙ ap (part n s) (parts_stay d xs h.1)

pub identity_changes_nothing : IdentityChangesNothing
identity_changes_nothing scope d s h = stays scope d s h

pub identity_keeps_schemes : IdentityKeepsSchemes
identity_keeps_schemes sig scope ls c s h = stays scope (length ls) s (scheme_saturated sig scope ls c s h)

map_itself : (ss : List SchemeTree) → map (λ s. s) ss ≡ ss
map_itself [] = refl
map_itself (s ∷ ss) = ap (λ ts. s ∷ ts) (map_itself ss)

-- the parameters are schemes for themselves
parameters_are : (sig : Signature) (scope : Names) (ls cs : List ℕ) → ((i : ℕ) → i < length cs → slice_get ls (length cs - 1 - i) ≡ Some (get_or cs i 0)) →
    AreValues sig scope ls cs (values (parameters (length cs)))
parameters_are sig scope ls [] h = tt
parameters_are sig scope ls (c ∷ cs) h = (
  ap (slice_get ls) (let e : length cs ≡ suc (length cs) - 1 - 0 = omega arith in e) ∙ h 0 (omega arith),
  parameters_are sig scope ls cs (λ i below. ap (slice_get ls) (let e : length cs - 1 - i ≡ suc (length cs) - 1 - suc i = omega arith in e) ∙ h (suc i) (omega arith)),
)

reversed_at : (cs : List ℕ) (i : ℕ) → i < length cs → slice_get (reverse cs) (length cs - 1 - i) ≡ Some (get_or cs i 0)
reversed_at cs i below =
    let within : length cs - 1 - i < length (reverse cs) = omega (arith, length-reverse cs) in
    slice_get-get_or (reverse cs) (length cs - 1 - i) 0 within
    ∙ ap Some (get_or-reverse cs (length cs - 1 - i) 0 (omega arith) ∙ ap (λ k. get_or cs k 0) (let e : length cs - 1 - (length cs - 1 - i) ≡ i = omega arith in e))

module _ (sig : Signature) (scope : Names) (fits : KnownsFit sig scope) where
  meta_is : (decl : MetaDecl) (m : ℕ) → slice_get scope.metas m ≡ Some decl → IsScheme sig scope (params_scope decl) decl.cat.0 (meta m (values (parameters (params decl))))
  meta_is decl m e =
      let long : length (map (λ p. p.0) decl.params) ≡ params decl = length-map decl.params (λ p. p.0) in
      let each : AreValues sig scope (params_scope decl) (map (λ p. p.0) decl.params) (values (parameters (length (map (λ p. p.0) decl.params)))) =
      parameters_are sig scope (params_scope decl) (map (λ p. p.0) decl.params) (λ i below. reversed_at (map (λ p. p.0) decl.params) i below) in
      match_from (slice_get scope.metas m) (λ d. (d.cat.0 ≡ decl.cat.0) × AreValues sig scope (params_scope decl) (map (λ p. p.0) d.params) (values (parameters (params decl))))
      decl e (refl, subst (λ n. AreValues sig scope (params_scope decl) (map (λ p. p.0) decl.params) (values (parameters n))) long each)

  metas_are : (decls : List MetaDecl) (first : ℕ) → ((m : ℕ) (decl : MetaDecl) → slice_get decls m ≡ Some decl → slice_get scope.metas (first + m) ≡ Some decl) →
      AllZip (λ d s. IsScheme sig scope (params_scope d) d.cat.0 s) decls (metas_from first decls)
  metas_are [] first h = tt
  metas_are (decl ∷ decls) first h = (
    meta_is decl first (ap (slice_get scope.metas) (let e : first ≡ first + 0 = omega arith in e) ∙ h 0 decl refl),
    metas_are decls (suc first) (λ m d e. ap (slice_get scope.metas) (let k : suc first + m ≡ first + suc m = omega arith in k) ∙ h (suc m) d e),
  )

  entry_stays : (e : SchemeEntry) → IsKnownEntry sig scope scope.root e → e ≡ applied_entry (identity scope) 0 e
  entry_stays e h =
      ap (λ ss. entry_with e.prod ss)
      (sym (map_itself e.args) ∙ same_arguments sig scope (λ s. s) (applied (metas_from 0 scope.metas) (knowns_from 0 scope.knowns) 0)
      (λ c s is. sym (identity_keeps_schemes sig scope [] c s is)) e h)

  knowns_are : (decls : List KnownVariable) (first : ℕ) → ((k : ℕ) (decl : KnownVariable) → slice_get decls k ≡ Some decl → slice_get scope.knowns (first + k) ≡ Some decl) →
      AllByRecursion (λ d. IsKnownEntry sig scope scope.root d.entry) decls → AllZip (IsKnownValue (identity scope)) decls (knowns_from first decls)
  knowns_are [] first h entries = tt
  knowns_are (decl ∷ decls) first h entries = (
    match_from (slice_get scope.knowns first) (λ o. o.entry ≡ applied_entry (identity scope) 0 decl.entry) decl
        (ap (slice_get scope.knowns) (let e : first ≡ first + 0 = omega arith in e) ∙ h 0 decl refl) (entry_stays decl.entry entries.0),
    knowns_are decls (suc first) (λ k d e. ap (slice_get scope.knowns) (let n : suc first + k ≡ first + suc k = omega arith in n) ∙ h (suc k) d e) entries.1,
  )

pub identity_is_substitution : IdentityIsSubstitution
identity_is_substitution sig scope fits = record {
  metas = metas_are sig scope fits scope.metas 0 (λ m decl e. ap (slice_get scope.metas) (let k : 0 + m ≡ m = omega arith in k) ∙ e);
  knowns = knowns_are sig scope fits scope.knowns 0 (λ m decl e. ap (slice_get scope.knowns) (let k : 0 + m ≡ m = omega arith in k) ∙ e) fits;
}
