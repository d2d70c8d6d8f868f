-- What a list of schemes and one of numbers need to be put in for the names of a scope: schemes of the names' categories, and enough numbers.
use Rattle.std.proofs.Common.{◌≡◌, ℕ, ◌<◌, List, [], ◌∷◌, ◌++◌, length, map, slice_get, sym, ◌∙◌, subst, arith}
use Rattle.std.specs.List.{AllByRecursion, AllZip}
use Rattle.std.proofs.lemmas.List.{length-map}
use Rattle.std.proofs.lemmas.Option.{slice_get_within}
use Rattle.binding_terms.specs.Signature.{Signature, Place, slots, binders}
use Rattle.binding_terms.specs.Scope.{bound}
use Rattle.binding_terms.proofs.Lists.{match_from, match_some}
use Rattle.scheme_terms.specs.SchemeTree.{SchemeTree, meta, known, local, con, Values, no_values, value, Parts, no_parts, part, listed}
use Rattle.scheme_terms.specs.Forms.{Names}
use Rattle.scheme_terms.specs.SchemeScope.{IsScheme, AreValues, AreSchemeParts, params_scope}
use Rattle.scheme_terms.specs.Substituting.{LocalsBelow, Suits, SuitsValues, SuitsParts}
use Rattle.scheme_terms.specs.declared.scheme.MetaDecl.{MetaDecl}
use Rattle.scheme_terms.proofs.Options.{zip_at}
use Rattle.scheme_terms.proofs.SchemeFacts.{length_values, length_params, scheme_below}

-- the scheme is of the metavariable's category, over its parameters
abbrev pub IsTyped : Signature → Names → MetaDecl → SchemeTree → Type 0
IsTyped sig into decl s = IsScheme sig into (params_scope decl) decl.cat.0 s

module _ (sig : Signature) (names into : Names) (ss : List SchemeTree) (ks : List ℕ) (typed : AllZip (IsTyped sig into) names.metas ss) (long : length ks ≡ length names.knowns) where
  mutual
    pub typed_suits : (ls : List ℕ) (c : ℕ) (s : SchemeTree) → IsScheme sig names ls c s → Suits ss ks s
    typed_suits ls c (meta m vs) h =
        let found = match_some (slice_get names.metas m) (λ decl. (decl.cat.0 ≡ c) × AreValues sig names ls (map (λ p. p.0) decl.params) vs) h in
        let decl : MetaDecl = found.0 in
        let put = zip_at (IsTyped sig into) names.metas ss typed m decl found.1 in
        let count : length (params_scope decl) ≡ length (listed vs) =
        length_params decl ∙ sym (length_values sig names ls (map (λ p. p.0) decl.params) vs found.2.1 ∙ length-map decl.params (λ p. p.0)) in
        let below : LocalsBelow (length (listed vs)) put.0 = subst (λ d. LocalsBelow d put.0) count (scheme_below sig into (params_scope decl) decl.cat.0 put.0 put.2) in
        (match_from (slice_get ss m) (LocalsBelow (length (listed vs))) put.0 put.1 below, values_suit ls (map (λ p. p.0) decl.params) vs found.2.1)
    typed_suits ls c (known k) h =
        let found = match_some (slice_get names.knowns k) _ h in
        let within : k < length names.knowns = slice_get_within names.knowns k found.0 found.1 in
        omega (arith, within, long)
    typed_suits ls c (local i) h = tt
    typed_suits ls c (con p xs) h =
        let found = match_some (slice_get sig.prods p) (λ prod. (prod.cat.0 ≡ c) × AreSchemeParts sig names ls (binders prod.items) (slots prod.items) xs) h in
        parts_suit ls (binders found.0.items) (slots found.0.items) xs found.2.1

    values_suit : (ls cs : List ℕ) (vs : Values) → AreValues sig names ls cs vs → SuitsValues ss ks vs
    values_suit ls [] no_values h = tt
    values_suit ls [] (value s vs) h = absurd h
    values_suit ls (c ∷ cs) no_values h = absurd h
    values_suit ls (c ∷ cs) (value s vs) h = (typed_suits ls c s h.0, values_suit ls cs vs h.1)

    parts_suit : (ls bs : List ℕ) (at : List Place) (xs : Parts) → AreSchemeParts sig names ls bs at xs → SuitsParts ss ks xs
    parts_suit ls bs [] no_parts h = tt
    parts_suit ls bs [] (part n s xs) h = absurd h
    parts_suit ls bs (at ∷ more) no_parts h = absurd h
    parts_suit ls bs (at ∷ more) (part n s xs) h = (typed_suits (bound bs at.binds ++ ls) at.cat s h.1, parts_suit ls bs more xs h.2)

  -- so do the schemes that are put in before
  pub typed_all_suit : (decls : List MetaDecl) (ts : List SchemeTree) → AllZip (IsTyped sig names) decls ts → AllByRecursion (Suits ss ks) ts
  typed_all_suit [] [] h = tt
  typed_all_suit [] (t ∷ ts) h = absurd h
  typed_all_suit (decl ∷ decls) [] h = absurd h
  typed_all_suit (decl ∷ decls) (t ∷ ts) h = (typed_suits (params_scope decl) decl.cat.0 t h.0, typed_all_suit decls ts h.1)
