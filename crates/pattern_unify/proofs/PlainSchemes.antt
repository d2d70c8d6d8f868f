-- Schemes where nothing binds: metavariables alone, and productions whose parts bind nothing.
use Rattle.std.proofs.Common.{◌≡◌, ℕ, ◌<◌, List, [], ◌∷◌, ◌++◌, length, map, refl, ap, ◌∙◌, subst}
use Rattle.std.specs.List.{AllByRecursion}
use Rattle.std.proofs.lemmas.Option.{slice_get_within}
use Rattle.binding_terms.specs.Signature.{Signature, Place, slots, binders}
use Rattle.binding_terms.specs.Scope.{bound}
pub use Rattle.binding_terms.proofs.Lists.{all_at}
use Rattle.binding_terms.proofs.Lists.{match_some}
use Rattle.scheme_terms.specs.SchemeTree.{SchemeTree, meta, known, local, con, Values, no_values, value, Parts, no_parts, part}
use Rattle.scheme_terms.specs.Forms.{Names}
use Rattle.scheme_terms.specs.SchemeScope.{IsScheme, AreValues, AreSchemeParts}
use Rattle.pattern_unify.specs.Plain.{NothingBinds, HaveNoParameters}

abbrev mutual
  pub IsPlain : (count : ℕ) → SchemeTree → Type 0
  IsPlain n (meta m vs) = (m < n) × (vs ≡ no_values)
  IsPlain n (known k) = ⊥
  IsPlain n (local i) = ⊥
  IsPlain n (con p xs) = ArePlain n xs

  pub ArePlain : (count : ℕ) → Parts → Type 0
  ArePlain n no_parts = Unit {0}
  ArePlain n (part b s xs) = (b ≡ 0) × IsPlain n s × ArePlain n xs

no_params : (cs : List ℕ) (vs : Values) (sig : Signature) (names : Names) (ls : List ℕ) → cs ≡ [] → AreValues sig names ls cs vs → vs ≡ no_values
no_params [] no_values sig names ls e h = refl
no_params [] (value s vs) sig names ls e h = absurd h
no_params (c ∷ cs) vs sig names ls e h = cc

module _ (sig : Signature) (names : Names) (slots_bind : NothingBinds sig) (metas : HaveNoParameters names.metas) (knowns : names.knowns ≡ []) where
  plain_meta : (c m : ℕ) (vs : Values) → IsScheme sig names [] c (meta m vs) → (m < length names.metas) × (vs ≡ no_values)
  plain_meta c m vs h =
      let found = match_some _ _ h in
      let none = all_at (λ m. m.params ≡ []) names.metas m found.0 metas found.1 in
      (slice_get_within names.metas m found.0 found.1, no_params _ vs sig names [] (ap (λ ps. map (λ p. p.0) ps) none) found.2.1)

  plain_known : (c k : ℕ) → IsScheme sig names [] c (known k) → ⊥
  plain_known c k h = rw knowns at h

  mutual
    pub plain_scheme : (c : ℕ) (s : SchemeTree) → IsScheme sig names [] c s → IsPlain (length names.metas) s
    plain_scheme c (meta m vs) h = plain_meta c m vs h
    plain_scheme c (known k) h = plain_known c k h
    plain_scheme c (local i) h = cc
    plain_scheme c (con p xs) h =
        let found = match_some _ _ h in
        plain_parts (binders found.0.items) (slots found.0.items) xs (all_at _ sig.prods p found.0 slots_bind found.1) found.2.1

    pub plain_parts : (bs : List ℕ) (ss : List Place) (xs : Parts) → AllByRecursion (λ s. s.binds ≡ []) ss → AreSchemeParts sig names [] bs ss xs →
        ArePlain (length names.metas) xs
    plain_parts bs [] no_parts b h = tt
    plain_parts bs [] (part n t xs) b h = absurd h
    plain_parts bs (s ∷ ss) no_parts b h = absurd h
    plain_parts bs (s ∷ ss) (part n t xs) b h =
        (h.0 ∙ ap length b.0, plain_scheme s.cat t (subst (λ ns. IsScheme sig names (bound bs ns ++ []) s.cat t) b.0 h.1), plain_parts bs ss xs b.1 h.2)
