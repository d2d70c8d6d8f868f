-- What holds of each scheme of a category in a scope.
use Rattle.std.proofs.Common.{◌≡◌, ℕ, suc, ◌+◌, ◌<◌, List, [], ◌∷◌, ◌++◌, length, map, slice_get, slice_index, refl, ap, ◌∙◌, sym, subst, length-append, arith}
use Rattle.std.proofs.lemmas.List.{length-map, length-reverse}
use Rattle.std.proofs.lemmas.Option.{slice_get_within}
use Rattle.std.proofs.lemmas.Slice.Zip.{AllZip-long}
use Rattle.binding_terms.specs.Signature.{Signature, Place, slots, binders}
use Rattle.binding_terms.specs.Scope.{bound}
use Rattle.scheme_terms.specs.SchemeTree.{SchemeTree, meta, known, local, con, Values, no_values, value, Parts, no_parts, part, listed}
use Rattle.scheme_terms.specs.Forms.{Names, Substitution}
use Rattle.scheme_terms.specs.SchemeScope.{IsScheme, AreValues, AreSchemeParts, params_scope}
use Rattle.scheme_terms.specs.Substituting.{params, LocalsBelow, ValuesBelow, PartsBelow, Suits, SuitsValues, SuitsParts, IsSaturated, AreSaturated, PartsAreSaturated, IsSubstitution}
use Rattle.scheme_terms.specs.declared.scheme.MetaDecl.{MetaDecl}
use Rattle.scheme_terms.proofs.Options.{zip_at}
use Rattle.binding_terms.proofs.Lists.{match_from, match_some}

pub length_bound : (bs binds : List ℕ) → length (bound bs binds) ≡ length binds
length_bound bs binds = length-reverse (map (slice_index bs) binds) ∙ length-map binds (slice_index bs)

pub length_values : (sig : Signature) (names : Names) (ls : List ℕ) (cs : List ℕ) (vs : Values) → AreValues sig names ls cs vs → length (listed vs) ≡ length cs
length_values sig names ls [] no_values h = refl
length_values sig names ls [] (value s vs) h = absurd h
length_values sig names ls (c ∷ cs) no_values h = absurd h
length_values sig names ls (c ∷ cs) (value s vs) h = ap suc (length_values sig names ls cs vs h.1)

pub length_params : (decl : MetaDecl) → length (params_scope decl) ≡ params decl
length_params decl = length-reverse (map (λ c. c.0) decl.params) ∙ length-map decl.params (λ c. c.0)

module _ (sig : Signature) (names : Names) where
  -- as many arguments as parameters
  mutual
    pub scheme_saturated : (ls : List ℕ) (c : ℕ) (s : SchemeTree) → IsScheme sig names ls c s → IsSaturated names.metas s
    scheme_saturated ls c (meta m vs) h =
        let found = match_some (slice_get names.metas m) (λ decl. (decl.cat.0 ≡ c) × AreValues sig names ls (map (λ p. p.0) decl.params) vs) h in
        let decl : MetaDecl = found.0 in
        let long : length (listed vs) ≡ params decl = length_values sig names ls (map (λ p. p.0) decl.params) vs found.2.1 ∙ length-map decl.params (λ p. p.0) in
        (match_from (slice_get names.metas m) (λ d. length (listed vs) ≡ params d) decl found.1 long, values_saturated ls (map (λ p. p.0) decl.params) vs found.2.1)
    scheme_saturated ls c (known k) h = tt
    scheme_saturated ls c (local i) h = tt
    scheme_saturated ls c (con p xs) h =
        let found = match_some (slice_get sig.prods p) (λ prod. (prod.cat.0 ≡ c) × AreSchemeParts sig names ls (binders prod.items) (slots prod.items) xs) h in
        parts_saturated ls (binders found.0.items) (slots found.0.items) xs found.2.1

    values_saturated : (ls cs : List ℕ) (vs : Values) → AreValues sig names ls cs vs → AreSaturated names.metas vs
    values_saturated ls [] no_values h = tt
    values_saturated ls [] (value s vs) h = absurd h
    values_saturated ls (c ∷ cs) no_values h = absurd h
    values_saturated ls (c ∷ cs) (value s vs) h = (scheme_saturated ls c s h.0, values_saturated ls cs vs h.1)

    parts_saturated : (ls bs : List ℕ) (ss : List Place) (xs : Parts) → AreSchemeParts sig names ls bs ss xs → PartsAreSaturated names.metas xs
    parts_saturated ls bs [] no_parts h = tt
    parts_saturated ls bs [] (part n s xs) h = absurd h
    parts_saturated ls bs (at ∷ ss) no_parts h = absurd h
    parts_saturated ls bs (at ∷ ss) (part n s xs) h =
        (scheme_saturated (bound bs at.binds ++ ls) at.cat s h.1, parts_saturated ls bs ss xs h.2)

  -- the free locals are those that it stands under
  mutual
    pub scheme_below : (ls : List ℕ) (c : ℕ) (s : SchemeTree) → IsScheme sig names ls c s → LocalsBelow (length ls) s
    scheme_below ls c (meta m vs) h =
        let found = match_some (slice_get names.metas m) (λ decl. (decl.cat.0 ≡ c) × AreValues sig names ls (map (λ p. p.0) decl.params) vs) h in
        values_below ls (map (λ p. p.0) found.0.params) vs found.2.1
    scheme_below ls c (known k) h = tt
    scheme_below ls c (local i) h = slice_get_within ls i c h
    scheme_below ls c (con p xs) h =
        let found = match_some (slice_get sig.prods p) (λ prod. (prod.cat.0 ≡ c) × AreSchemeParts sig names ls (binders prod.items) (slots prod.items) xs) h in
        parts_below ls (binders found.0.items) (slots found.0.items) xs found.2.1

    values_below : (ls cs : List ℕ) (vs : Values) → AreValues sig names ls cs vs → ValuesBelow (length ls) vs
    values_below ls [] no_values h = tt
    values_below ls [] (value s vs) h = absurd h
    values_below ls (c ∷ cs) no_values h = absurd h
    values_below ls (c ∷ cs) (value s vs) h = (scheme_below ls c s h.0, values_below ls cs vs h.1)

    parts_below : (ls bs : List ℕ) (ss : List Place) (xs : Parts) → AreSchemeParts sig names ls bs ss xs → PartsBelow (length ls) xs
    parts_below ls bs [] no_parts h = tt
    parts_below ls bs [] (part n s xs) h = absurd h
    parts_below ls bs (at ∷ ss) no_parts h = absurd h
    parts_below ls bs (at ∷ ss) (part n s xs) h =
        let deep : length (bound bs at.binds ++ ls) ≡ length ls + n = omega (arith, length-append (bound bs at.binds) ls, length_bound bs at.binds, h.0) in
        (subst (λ d. LocalsBelow d s) deep (scheme_below (bound bs at.binds ++ ls) at.cat s h.1), parts_below ls bs ss xs h.2)

-- a substitution of the scope has what a scheme of the scope needs
module _ (sig : Signature) (names : Names) (by : Substitution) (is : IsSubstitution sig names by) where
  mutual
    pub scheme_suits : (ls : List ℕ) (c : ℕ) (s : SchemeTree) → IsScheme sig names ls c s → Suits by.metas by.knowns s
    scheme_suits ls c (meta m vs) h =
        let found = match_some (slice_get names.metas m) (λ decl. (decl.cat.0 ≡ c) × AreValues sig names ls (map (λ p. p.0) decl.params) vs) h in
        let decl : MetaDecl = found.0 in
        let put = zip_at (λ d s. IsScheme sig by.into (params_scope d) d.cat.0 s) names.metas by.metas is.metas m decl found.1 in
        let long : length (params_scope decl) ≡ length (listed vs) =
        length_params decl ∙ sym (length_values sig names ls (map (λ p. p.0) decl.params) vs found.2.1 ∙ length-map decl.params (λ p. p.0)) in
        let below : LocalsBelow (length (listed vs)) put.0 = subst (λ d. LocalsBelow d put.0) long (scheme_below sig by.into (params_scope decl) decl.cat.0 put.0 put.2) in
        (match_from (slice_get by.metas m) (LocalsBelow (length (listed vs))) put.0 put.1 below, values_suit ls (map (λ p. p.0) decl.params) vs found.2.1)
    scheme_suits ls c (known k) h =
        let found = match_some (slice_get names.knowns k) _ h in
        let within : k < length names.knowns = slice_get_within names.knowns k found.0 found.1 in
        let long : length by.knowns ≡ length names.knowns = AllZip-long _ names.knowns by.knowns is.knowns in
        omega arith
    scheme_suits ls c (local i) h = tt
    scheme_suits ls c (con p xs) h =
        let found = match_some (slice_get sig.prods p) (λ prod. (prod.cat.0 ≡ c) × AreSchemeParts sig names ls (binders prod.items) (slots prod.items) xs) h in
        parts_suit ls (binders found.0.items) (slots found.0.items) xs found.2.1

    values_suit : (ls cs : List ℕ) (vs : Values) → AreValues sig names ls cs vs → SuitsValues by.metas by.knowns vs
    values_suit ls [] no_values h = tt
    values_suit ls [] (value s vs) h = absurd h
    values_suit ls (c ∷ cs) no_values h = absurd h
    values_suit ls (c ∷ cs) (value s vs) h = (scheme_suits ls c s h.0, values_suit ls cs vs h.1)

    parts_suit : (ls bs : List ℕ) (ss : List Place) (xs : Parts) → AreSchemeParts sig names ls bs ss xs → SuitsParts by.metas by.knowns xs
    parts_suit ls bs [] no_parts h = tt
    parts_suit ls bs [] (part n s xs) h = absurd h
    parts_suit ls bs (at ∷ ss) no_parts h = absurd h
    parts_suit ls bs (at ∷ ss) (part n s xs) h =
        (scheme_suits (bound bs at.binds ++ ls) at.cat s h.1, parts_suit ls bs ss xs h.2)
