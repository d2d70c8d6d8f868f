-- The instance of a scheme of a category is a term of the category.
use Rattle.std.proofs.Common.{◌≡◌, ◌⊎◌, ℕ, suc, ◌+◌, ◌-◌, ◌<◌, ◌≤◌, List, [], ◌∷◌, ◌++◌, length, map, reverse, Option, Some, None, MatchOption, slice_get, unwrap_or, inl, inr, ap, ◌∙◌, sym, subst, append_assoc, length-append, arith}
use Rattle.std.specs.List.{AllZip}
use Rattle.std.proofs.lemmas.Bool.{cases_lt}
use Rattle.std.proofs.lemmas.List.{length-reverse}
use Rattle.std.proofs.lemmas.Option.{slice_get_within}
use Rattle.std.proofs.lemmas.Slice.Zip.{AllZip-long}
use Rattle.binding_terms.specs.Tree.{Tree, var}
use Rattle.binding_terms.specs.Substitution as filling
use Rattle.binding_terms.specs.Signature.{Signature, Place, slots, binders, Fits}
use Rattle.binding_terms.specs.Scope.{bound, IsTerm, AreParts, Fills}
use Rattle.scheme_terms.specs.SchemeTree.{SchemeTree, meta, known, local, con, Values, no_values, value, Parts, no_parts, part}
use Rattle.scheme_terms.specs.Forms.{Names, Instance, KnownVariable}
use Rattle.scheme_terms.specs.Context.{scope_of, variables}
use Rattle.scheme_terms.specs.Instance.{instance_of, instances_of, parts_instance, argument_or_root, place_of, FitsScope, IsMetaValue, IsKnownPlace, IsEntryOf}
use Rattle.scheme_terms.specs.SchemeScope.{IsScheme, AreValues, AreSchemeParts, IsRoot, params_scope}
use Rattle.scheme_terms.specs.Laws.{InstanceKeepsScope, InstanceKeepsScopeOfMetas}
use Rattle.scheme_terms.specs.declared.scheme.MetaDecl.{MetaDecl}
use Rattle.scheme_terms.proofs.Options.{zip_at}
use Rattle.scheme_terms.proofs.Arguments.{argument_at, argument_past}
use Rattle.scheme_terms.proofs.SchemeFacts.{length_bound}
use Rattle.binding_terms.proofs.Scopes.{IsTerm-filled}
use Rattle.scheme_terms.proofs.Values.{value_adds_one, entry_variable}
use Rattle.binding_terms.proofs.Lists.{append_beyond, append_within, match_from, match_some, zip_reverse}

some_value : (P : Tree → Type 0) (o : Option Tree) → MatchOption o ⊥ P → P (unwrap_or o (var 0))
some_value P None h = absurd h
some_value P (Some t) h = h

-- the root's variable at the place of each known variable is of its category
abbrev pub KnownsStand : Signature → Names → Instance → Type 0
KnownsStand sig names inst =
    (k c : ℕ) → MatchOption (slice_get names.knowns k) ⊥ (λ decl. variables sig decl.entry.prod ≡ c ∷ []) →
    slice_get (scope_of sig inst.root) (length inst.root.entries - suc (place_of inst k)) ≡ Some c

module _ (sig : Signature) (names : Names) (inst : Instance) (metas : AllZip (IsMetaValue sig inst) names.metas inst.metas) (knowns : KnownsStand sig names inst) where
  -- the arguments and the root's variables are terms for the parameters and the root's variables
  arguments_fill : (ls cs : List ℕ) (args : List Tree) → AllZip (λ c t. IsTerm sig (ls ++ scope_of sig inst.root) c t) cs args →
      Fills sig (reverse cs ++ scope_of sig inst.root) (ls ++ scope_of sig inst.root) (argument_or_root (length ls) args)
  arguments_fill ls cs args h i c is = at (cases_lt i (length args))
    where
      long : length args ≡ length cs
      long = AllZip-long (λ c t. IsTerm sig (ls ++ scope_of sig inst.root) c t) cs args h

      at : (i < length args) ⊎ (length args ≤ i) → IsTerm sig (ls ++ scope_of sig inst.root) c (argument_or_root (length ls) args i)
      at (inl below) =
          let within : i < length (reverse cs) = rw length-reverse (let k : i < length cs = omega (arith, long) in k) in
          let here : slice_get (reverse cs) i ≡ Some c = sym (append_within (reverse cs) (scope_of sig inst.root) i within) ∙ is in
          let found = zip_at (λ c t. IsTerm sig (ls ++ scope_of sig inst.root) c t) (reverse cs) (reverse args) (zip_reverse _ cs args h) i c here in
          subst (IsTerm sig (ls ++ scope_of sig inst.root) c)
          (sym (argument_at (var 0) (λ j. var (j + length ls)) args i below ∙ ap (λ o. unwrap_or o (var 0)) found.1)) found.2
      at (inr beyond) =
          let past : length (reverse cs) ≤ i = rw length-reverse (let k : length cs ≤ i = omega (arith, long) in k) in
          let index : i - length (reverse cs) ≡ i - length args = rw length-reverse (let k : i - length cs ≡ i - length args = omega (arith, long) in k) in
          let there : slice_get (scope_of sig inst.root) (i - length args) ≡ Some c =
          ap (slice_get (scope_of sig inst.root)) (sym index) ∙ sym (append_beyond (reverse cs) (scope_of sig inst.root) i past) ∙ is in
          subst (IsTerm sig (ls ++ scope_of sig inst.root) c) (sym (argument_past (var 0) (λ j. var (j + length ls)) args i beyond))
          (append_beyond ls (scope_of sig inst.root) (i - length args + length ls) (omega arith)
          ∙ ap (slice_get (scope_of sig inst.root)) (let k : i - length args + length ls - length ls ≡ i - length args = omega arith in k) ∙ there)

  mutual
    pub instance_term : (ls : List ℕ) (c : ℕ) (s : SchemeTree) → IsScheme sig names ls c s → IsTerm sig (ls ++ scope_of sig inst.root) c (instance_of inst (length ls) s)
    instance_term ls c (meta m vs) h =
        let found = match_some (slice_get names.metas m) (λ decl. (decl.cat.0 ≡ c) × AreValues sig names ls (map (λ p. p.0) decl.params) vs) h in
        let decl : MetaDecl = found.0 in
        let stored = zip_at (IsMetaValue sig inst) names.metas inst.metas metas m decl found.1 in
        let kept : IsTerm sig (params_scope decl ++ scope_of sig inst.root) decl.cat.0 (unwrap_or stored.0 (var 0)) =
        some_value (IsTerm sig (params_scope decl ++ scope_of sig inst.root) decl.cat.0) stored.0 stored.2 in
        let fills = arguments_fill ls (map (λ p. p.0) decl.params) (instances_of inst (length ls) vs) (instance_terms ls (map (λ p. p.0) decl.params) vs found.2.1) in
        let filled : IsTerm sig (ls ++ scope_of sig inst.root) decl.cat.0 (filling.filled (argument_or_root (length ls) (instances_of inst (length ls) vs)) (unwrap_or stored.0 (var 0))) =
        IsTerm-filled sig (params_scope decl ++ scope_of sig inst.root) (ls ++ scope_of sig inst.root)
        (argument_or_root (length ls) (instances_of inst (length ls) vs)) fills decl.cat.0 (unwrap_or stored.0 (var 0)) kept in
        subst (λ o. IsTerm sig (ls ++ scope_of sig inst.root) c (filling.filled (argument_or_root (length ls) (instances_of inst (length ls) vs)) (unwrap_or (unwrap_or o None) (var 0))))
        (sym stored.1)
        (subst (λ d. IsTerm sig (ls ++ scope_of sig inst.root) d (filling.filled (argument_or_root (length ls) (instances_of inst (length ls) vs)) (unwrap_or stored.0 (var 0)))) found.2.0 filled)
    instance_term ls c (known k) h =
        let index : ℕ = length inst.root.entries - suc (place_of inst k) in
        append_beyond ls (scope_of sig inst.root) (index + length ls) (omega arith)
        ∙ ap (slice_get (scope_of sig inst.root)) (let e : index + length ls - length ls ≡ index = omega arith in e) ∙ knowns k c h
    instance_term ls c (local i) h = append_within ls (scope_of sig inst.root) i (slice_get_within ls i c h) ∙ h
    instance_term ls c (con p xs) h =
        let found = match_some (slice_get sig.prods p) (λ prod. (prod.cat.0 ≡ c) × AreSchemeParts sig names ls (binders prod.items) (slots prod.items) xs) h in
        match_from (slice_get sig.prods p)
        (λ prod. (prod.cat.0 ≡ c) × AreParts sig (ls ++ scope_of sig inst.root) (binders prod.items) (slots prod.items) (parts_instance inst (length ls) xs))
        found.0 found.1 (found.2.0, instance_parts ls (binders found.0.items) (slots found.0.items) xs found.2.1)

    pub instance_terms : (ls cs : List ℕ) (vs : Values) → AreValues sig names ls cs vs → AllZip (λ c t. IsTerm sig (ls ++ scope_of sig inst.root) c t) cs (instances_of inst (length ls) vs)
    instance_terms ls [] no_values h = tt
    instance_terms ls [] (value s vs) h = absurd h
    instance_terms ls (c ∷ cs) no_values h = absurd h
    instance_terms ls (c ∷ cs) (value s vs) h = (instance_term ls c s h.0, instance_terms ls cs vs h.1)

    pub instance_parts : (ls bs : List ℕ) (ss : List Place) (xs : Parts) → AreSchemeParts sig names ls bs ss xs →
        AreParts sig (ls ++ scope_of sig inst.root) bs ss (parts_instance inst (length ls) xs)
    instance_parts ls bs [] no_parts h = tt
    instance_parts ls bs [] (part n s xs) h = h
    instance_parts ls bs (at ∷ ss) no_parts h = h
    instance_parts ls bs (at ∷ ss) (part n s xs) h =
        let own : List ℕ = bound bs at.binds in
        let deep : length (own ++ ls) ≡ length ls + n = omega (arith, length-append own ls, length_bound bs at.binds, h.0) in
        let body : IsTerm sig ((own ++ ls) ++ scope_of sig inst.root) at.cat (instance_of inst (length (own ++ ls)) s) = instance_term (own ++ ls) at.cat s h.1 in (
          h.0,
          subst (λ sc. IsTerm sig sc at.cat (instance_of inst (length ls + n) s)) (append_assoc own ls (scope_of sig inst.root))
              (subst (λ d. IsTerm sig ((own ++ ls) ++ scope_of sig inst.root) at.cat (instance_of inst d s)) deep body),
          instance_parts ls bs ss xs h.2,
        )

pub place_some : (inst : Instance) (decl : KnownVariable) (o : Option ℕ) → IsKnownPlace inst decl o →
    MatchOption (slice_get inst.root.entries (unwrap_or o 0)) ⊥ (IsEntryOf inst (unwrap_or o 0) decl.entry)
place_some inst decl None h = absurd h
place_some inst decl (Some at) h = h

knowns_stand : (sig : Signature) (scope : Names) (inst : Instance) → Fits sig → IsRoot sig scope.root → FitsScope sig scope inst → KnownsStand sig scope inst
knowns_stand sig scope inst fits of_context h k c is =
    let found = match_some (slice_get scope.knowns k) (λ decl. variables sig decl.entry.prod ≡ c ∷ []) is in
    let stored = zip_at (IsKnownPlace inst) scope.knowns inst.knowns h.knowns k found.0 found.1 in
    let placed = match_some (slice_get inst.root.entries (unwrap_or stored.0 0)) (IsEntryOf inst (unwrap_or stored.0 0) found.0.entry) (place_some inst found.0 stored.0 stored.2) in
    let one : variables sig placed.0.prod ≡ c ∷ [] = ap (variables sig) placed.2.0 ∙ found.2 in
    ap (λ o. slice_get (scope_of sig inst.root) (length inst.root.entries - suc (unwrap_or (unwrap_or o None) 0))) stored.1
    ∙ entry_variable sig inst.root.entries (value_adds_one sig scope.root inst.root fits of_context h.root) [] (unwrap_or stored.0 0) c placed.0 placed.1 one

pub instance_keeps_scope : InstanceKeepsScope
instance_keeps_scope sig scope inst ls c s fits of_context h is =
    instance_term sig scope inst h.metas (knowns_stand sig scope inst fits of_context h) ls c s is

pub instance_keeps_scope_of_metas : InstanceKeepsScopeOfMetas
instance_keeps_scope_of_metas sig scope inst ls c s none h is =
    instance_term sig scope inst h.metas (λ k d known. absurd (subst (λ ks. MatchOption (slice_get ks k) ⊥ (λ decl. variables sig decl.entry.prod ≡ d ∷ [])) none known)) ls c s is
