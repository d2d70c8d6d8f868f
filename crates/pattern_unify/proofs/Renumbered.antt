-- Schemes in which only names that are left stand, with the new numbers of these.
use Rattle.std.proofs.Common.{◌≡◌, inl, inr, ℕ, zero, suc, ◌+◌, ◌-◌, ◌<◌, ◌≤◌, List, [], ◌∷◌, ◌++◌, length, map, get_or, Some, MatchOption, slice_get, unwrap_or, refl, ap, sym, ◌∙◌, arith}
use Rattle.std.proofs.lemmas.Option.{slice_get_within}
use Rattle.binding_terms.specs.Signature.{Signature, Place, slots, binders}
use Rattle.binding_terms.specs.Tree as terms
use Rattle.binding_terms.specs.Tree.{Tree, var, Args}
use Rattle.binding_terms.specs.Substitution as filling
use Rattle.binding_terms.specs.Scope.{bound}
use Rattle.binding_terms.proofs.Lists.{match_from, match_some}
use Rattle.scheme_terms.specs.SchemeTree.{SchemeTree, meta, known, local, con, Values, no_values, value, values, listed, Parts, no_parts, part, filled, filled_values, OccursIn, OccursInValues, OccursInParts, KnownIn, KnownInValues, KnownInParts}
use Rattle.scheme_terms.specs.Forms.{Names, Instance, KnownVariable}
use Rattle.scheme_terms.specs.Context.{variables}
use Rattle.scheme_terms.specs.Instance.{instance_of, instances_of, parts_instance, argument_or_root, value_of, place_of}
use Rattle.scheme_terms.specs.SchemeScope.{IsScheme, AreValues, AreSchemeParts}
use Rattle.scheme_terms.specs.Substituting.{scheme_for, known_for, argument_or_local, applied, applied_values, applied_parts, params, parameters, LocalsBelow, ValuesBelow, Suits, SuitsValues, SuitsParts, IsSaturated, AreSaturated, PartsAreSaturated}
use Rattle.scheme_terms.specs.declared.scheme.MetaDecl.{MetaDecl}
use Rattle.scheme_terms.proofs.AppliedInstances.{length_applied}
use Rattle.pattern_unify.proofs.StrictKept.{argument_is}

read_back : (f : ℕ → SchemeTree) (args : List SchemeTree) → ((i : ℕ) → i < length args → f (length args - 1 - i) ≡ get_or args i (local 0)) →
    filled_values f (values (parameters (length args))) ≡ values args
read_back f [] h = refl
read_back f (s ∷ args) h =
    let first : f (length args) ≡ s = ap f (let e : length args ≡ suc (length args) - 1 - 0 = omega arith in e) ∙ h 0 (omega arith) in
    ap (λ t. value t (filled_values f (values (parameters (length args))))) first
    ∙ ap (value s) (read_back f args (λ i below. ap f (let e : length args - 1 - i ≡ suc (length args) - 1 - suc i = omega arith in e) ∙ h (suc i) (omega (arith, below))))

own_below : (q p : ℕ) → p ≤ q → ValuesBelow q (values (parameters p))
own_below q zero h = tt
own_below q (suc p) h = (omega (arith, h), own_below q p (omega (arith, h)))

module _ (to_meta to_known : ℕ → ℕ) where
  abbrev mutual
    pub renumbered : SchemeTree → SchemeTree
    renumbered (meta m vs) = meta (to_meta m) (renumbered_values vs)
    renumbered (known k) = known (to_known k)
    renumbered (local i) = local i
    renumbered (con p xs) = con p (renumbered_parts xs)

    pub renumbered_values : Values → Values
    renumbered_values no_values = no_values
    renumbered_values (value s vs) = value (renumbered s) (renumbered_values vs)

    pub renumbered_parts : Parts → Parts
    renumbered_parts no_parts = no_parts
    renumbered_parts (part n s xs) = part n (renumbered s) (renumbered_parts xs)

  module _ (metas : ℕ → Type 0) (knowns : ℕ → Type 0) where
    -- schemes put in for the new numbers
    module _ (ts : List SchemeTree) (js : List ℕ) (us : List SchemeTree) (is : List ℕ) (same : (m : ℕ) → metas m → scheme_for ts (to_meta m) ≡ scheme_for us m)
        (same_known : (k : ℕ) → knowns k → known_for js (to_known k) ≡ known_for is k) where
      mutual
        pub renumbered_agree : (d : ℕ) (s : SchemeTree) → ((m : ℕ) → OccursIn m s → metas m) → ((k : ℕ) → KnownIn k s → knowns k) →
            applied ts js d (renumbered s) ≡ applied us is d s
        renumbered_agree d (meta m vs) h k =
            ap (λ xs. filled (argument_or_local d xs) (scheme_for ts (to_meta m))) (values_agree d vs (λ n at. h n (inr at)) k)
            ∙ ap (filled (argument_or_local d (applied_values us is d vs))) (same m (h m (inl refl)))
        renumbered_agree d (known l) h k = ap known (same_known l (k l refl))
        renumbered_agree d (local i) h k = refl
        renumbered_agree d (con p xs) h k = ap (con p) (parts_agree d xs h k)

        values_agree : (d : ℕ) (vs : Values) → ((m : ℕ) → OccursInValues m vs → metas m) → ((k : ℕ) → KnownInValues k vs → knowns k) →
            applied_values ts js d (renumbered_values vs) ≡ applied_values us is d vs
        values_agree d no_values h k = refl
        values_agree d (value s vs) h k =
            ap (λ t. t ∷ applied_values ts js d (renumbered_values vs)) (renumbered_agree d s (λ n at. h n (inl at)) (λ n at. k n (inl at)))
            ∙ ap (λ xs. applied us is d s ∷ xs) (values_agree d vs (λ n at. h n (inr at)) (λ n at. k n (inr at)))

        parts_agree : (d : ℕ) (xs : Parts) → ((m : ℕ) → OccursInParts m xs → metas m) → ((k : ℕ) → KnownInParts k xs → knowns k) →
            applied_parts ts js d (renumbered_parts xs) ≡ applied_parts us is d xs
        parts_agree d no_parts h k = refl
        parts_agree d (part n s xs) h k =
            ap (λ t. part n t (applied_parts ts js d (renumbered_parts xs))) (renumbered_agree (d + n) s (λ m at. h m (inl at)) (λ m at. k m (inl at)))
            ∙ ap (part n (applied us is (d + n) s)) (parts_agree d xs (λ m at. h m (inr at)) (λ m at. k m (inr at)))

    -- and instances
    module _ (one other : Instance) (long : length one.root.entries ≡ length other.root.entries) (same : (m : ℕ) → metas m → value_of one (to_meta m) ≡ value_of other m)
        (same_known : (k : ℕ) → knowns k → place_of one (to_known k) ≡ place_of other k) where
      mutual
        pub instances_agree : (d : ℕ) (s : SchemeTree) → ((m : ℕ) → OccursIn m s → metas m) → ((k : ℕ) → KnownIn k s → knowns k) →
            instance_of one d (renumbered s) ≡ instance_of other d s
        instances_agree d (meta m vs) h k =
            ap (λ xs. filling.filled (argument_or_root d xs) (value_of one (to_meta m))) (value_instances_agree d vs (λ n at. h n (inr at)) k)
            ∙ ap (filling.filled (argument_or_root d (instances_of other d vs))) (same m (h m (inl refl)))
        instances_agree d (known l) h k =
            ap (λ n. var (n - suc (place_of one (to_known l)) + d)) long ∙ ap (λ p. var (length other.root.entries - suc p + d)) (same_known l (k l refl))
        instances_agree d (local i) h k = refl
        instances_agree d (con p xs) h k = ap (terms.con p) (part_instances_agree d xs h k)

        value_instances_agree : (d : ℕ) (vs : Values) → ((m : ℕ) → OccursInValues m vs → metas m) → ((k : ℕ) → KnownInValues k vs → knowns k) →
            instances_of one d (renumbered_values vs) ≡ instances_of other d vs
        value_instances_agree d no_values h k = refl
        value_instances_agree d (value s vs) h k =
            ap (λ t. t ∷ instances_of one d (renumbered_values vs)) (instances_agree d s (λ n at. h n (inl at)) (λ n at. k n (inl at)))
            ∙ ap (λ xs. instance_of other d s ∷ xs) (value_instances_agree d vs (λ n at. h n (inr at)) (λ n at. k n (inr at)))

        part_instances_agree : (d : ℕ) (xs : Parts) → ((m : ℕ) → OccursInParts m xs → metas m) → ((k : ℕ) → KnownInParts k xs → knowns k) →
            parts_instance one d (renumbered_parts xs) ≡ parts_instance other d xs
        part_instances_agree d no_parts h k = refl
        part_instances_agree d (part n s xs) h k =
            ap (λ t. terms.arg n t (parts_instance one d (renumbered_parts xs))) (instances_agree (d + n) s (λ m at. h m (inl at)) (λ m at. k m (inl at)))
            ∙ ap (terms.arg n (instance_of other (d + n) s)) (part_instances_agree d xs (λ m at. h m (inr at)) (λ m at. k m (inr at)))

    module _ (scope : Names) (ss : List SchemeTree) (ks : List ℕ)
        (put : (m : ℕ) (decl : MetaDecl) → slice_get scope.metas m ≡ Some decl → metas m → slice_get ss m ≡ Some (meta (to_meta m) (values (parameters (params decl)))))
        (put_known : (k : ℕ) → knowns k → slice_get ks k ≡ Some (to_known k)) where
      -- putting in the new numbers
      mutual
        pub renumbered_is : (d : ℕ) (s : SchemeTree) → IsSaturated scope.metas s → ((m : ℕ) → OccursIn m s → metas m) → ((k : ℕ) → KnownIn k s → knowns k) →
            applied ss ks d s ≡ renumbered s
        renumbered_is d (meta m vs) sat h k =
            let found = match_some (slice_get scope.metas m) (λ decl. length (listed vs) ≡ params decl) sat.0 in
            let count : params found.0 ≡ length (applied_values ss ks d vs) = sym found.2 ∙ sym (length_applied ss ks d vs) in
            ap (filled (argument_or_local d (applied_values ss ks d vs))) (ap (λ o. unwrap_or o (local 0)) (put m found.0 found.1 (h m (inl refl))))
            ∙ ap (meta (to_meta m))
            (ap (λ p. filled_values (argument_or_local d (applied_values ss ks d vs)) (values (parameters p))) count
            ∙ read_back (argument_or_local d (applied_values ss ks d vs)) (applied_values ss ks d vs) (λ i below. argument_is d (applied_values ss ks d vs) i below)
            ∙ values_are d vs sat.1 (λ n at. h n (inr at)) k)
        renumbered_is d (known l) sat h k = ap known (ap (λ o. unwrap_or o l) (put_known l (k l refl)))
        renumbered_is d (local i) sat h k = refl
        renumbered_is d (con p xs) sat h k = ap (con p) (parts_are d xs sat h k)

        values_are : (d : ℕ) (vs : Values) → AreSaturated scope.metas vs → ((m : ℕ) → OccursInValues m vs → metas m) → ((k : ℕ) → KnownInValues k vs → knowns k) →
            values (applied_values ss ks d vs) ≡ renumbered_values vs
        values_are d no_values sat h k = refl
        values_are d (value s vs) sat h k =
            ap (λ t. value t (values (applied_values ss ks d vs))) (renumbered_is d s sat.0 (λ n at. h n (inl at)) (λ n at. k n (inl at)))
            ∙ ap (value (renumbered s)) (values_are d vs sat.1 (λ n at. h n (inr at)) (λ n at. k n (inr at)))

        parts_are : (d : ℕ) (xs : Parts) → PartsAreSaturated scope.metas xs → ((m : ℕ) → OccursInParts m xs → metas m) → ((k : ℕ) → KnownInParts k xs → knowns k) →
            applied_parts ss ks d xs ≡ renumbered_parts xs
        parts_are d no_parts sat h k = refl
        parts_are d (part n s xs) sat h k =
            ap (λ t. part n t (applied_parts ss ks d xs)) (renumbered_is (d + n) s sat.0 (λ m at. h m (inl at)) (λ m at. k m (inl at)))
            ∙ ap (part n (renumbered s)) (parts_are d xs sat.1 (λ m at. h m (inr at)) (λ m at. k m (inr at)))

      mutual
        pub left_suits : (s : SchemeTree) → IsSaturated scope.metas s → ((m : ℕ) → OccursIn m s → metas m) → ((k : ℕ) → KnownIn k s → knowns k) → Suits ss ks s
        left_suits (meta m vs) sat h k =
            let found = match_some (slice_get scope.metas m) (λ decl. length (listed vs) ≡ params decl) sat.0 in (
              match_from (slice_get ss m) (LocalsBelow (length (listed vs))) (meta (to_meta m) (values (parameters (params found.0)))) (put m found.0 found.1 (h m (inl refl)))
                  (own_below (length (listed vs)) (params found.0) (let same = found.2 in omega (arith, same))),
              left_values_suit vs sat.1 (λ n at. h n (inr at)) k,
            )
        left_suits (known l) sat h k = slice_get_within ks l (to_known l) (put_known l (k l refl))
        left_suits (local i) sat h k = tt
        left_suits (con p xs) sat h k = left_parts_suit xs sat h k

        left_values_suit : (vs : Values) → AreSaturated scope.metas vs → ((m : ℕ) → OccursInValues m vs → metas m) → ((k : ℕ) → KnownInValues k vs → knowns k) → SuitsValues ss ks vs
        left_values_suit no_values sat h k = tt
        left_values_suit (value s vs) sat h k =
            (left_suits s sat.0 (λ n at. h n (inl at)) (λ n at. k n (inl at)), left_values_suit vs sat.1 (λ n at. h n (inr at)) (λ n at. k n (inr at)))

        left_parts_suit : (xs : Parts) → PartsAreSaturated scope.metas xs → ((m : ℕ) → OccursInParts m xs → metas m) → ((k : ℕ) → KnownInParts k xs → knowns k) → SuitsParts ss ks xs
        left_parts_suit no_parts sat h k = tt
        left_parts_suit (part n s xs) sat h k =
            (left_suits s sat.0 (λ m at. h m (inl at)) (λ m at. k m (inl at)), left_parts_suit xs sat.1 (λ m at. h m (inr at)) (λ m at. k m (inr at)))

    module _ (sig : Signature) (scope into : Names) (there : (m : ℕ) (decl : MetaDecl) → slice_get scope.metas m ≡ Some decl → metas m → slice_get into.metas (to_meta m) ≡ Some decl)
        (known_there : (k : ℕ) (decl : KnownVariable) → slice_get scope.knowns k ≡ Some decl → knowns k →
        MatchOption (slice_get into.knowns (to_known k)) ⊥ (λ other. other.entry.prod ≡ decl.entry.prod)) where
      mutual
        pub renumbered_typed : (ls : List ℕ) (c : ℕ) (s : SchemeTree) → IsScheme sig scope ls c s → ((m : ℕ) → OccursIn m s → metas m) → ((k : ℕ) → KnownIn k s → knowns k) →
            IsScheme sig into ls c (renumbered s)
        renumbered_typed ls c (meta m vs) is h k =
            let found = match_some (slice_get scope.metas m) (λ decl. (decl.cat.0 ≡ c) × AreValues sig scope ls (map (λ p. p.0) decl.params) vs) is in
            match_from (slice_get into.metas (to_meta m)) (λ decl. (decl.cat.0 ≡ c) × AreValues sig into ls (map (λ p. p.0) decl.params) (renumbered_values vs)) found.0
            (there m found.0 found.1 (h m (inl refl))) (found.2.0, values_typed ls (map (λ p. p.0) found.0.params) vs found.2.1 (λ n at. h n (inr at)) k)
        renumbered_typed ls c (known l) is h k =
            let found = match_some (slice_get scope.knowns l) (λ decl. variables sig decl.entry.prod ≡ c ∷ []) is in
            let other = match_some (slice_get into.knowns (to_known l)) (λ other. other.entry.prod ≡ found.0.entry.prod) (known_there l found.0 found.1 (k l refl)) in
            match_from (slice_get into.knowns (to_known l)) (λ decl. variables sig decl.entry.prod ≡ c ∷ []) other.0 other.1 (ap (variables sig) other.2 ∙ found.2)
        renumbered_typed ls c (local i) is h k = is
        renumbered_typed ls c (con p xs) is h k =
            let found = match_some (slice_get sig.prods p) (λ prod. (prod.cat.0 ≡ c) × AreSchemeParts sig scope ls (binders prod.items) (slots prod.items) xs) is in
            match_from (slice_get sig.prods p) (λ prod. (prod.cat.0 ≡ c) × AreSchemeParts sig into ls (binders prod.items) (slots prod.items) (renumbered_parts xs)) found.0 found.1
            (found.2.0, parts_typed ls (binders found.0.items) (slots found.0.items) xs found.2.1 h k)

        values_typed : (ls cs : List ℕ) (vs : Values) → AreValues sig scope ls cs vs → ((m : ℕ) → OccursInValues m vs → metas m) → ((k : ℕ) → KnownInValues k vs → knowns k) →
            AreValues sig into ls cs (renumbered_values vs)
        values_typed ls [] no_values is h k = tt
        values_typed ls [] (value s vs) is h k = absurd is
        values_typed ls (c ∷ cs) no_values is h k = absurd is
        values_typed ls (c ∷ cs) (value s vs) is h k =
            (renumbered_typed ls c s is.0 (λ n at. h n (inl at)) (λ n at. k n (inl at)), values_typed ls cs vs is.1 (λ n at. h n (inr at)) (λ n at. k n (inr at)))

        parts_typed : (ls bs : List ℕ) (ps : List Place) (xs : Parts) → AreSchemeParts sig scope ls bs ps xs → ((m : ℕ) → OccursInParts m xs → metas m) → ((k : ℕ) → KnownInParts k xs → knowns k) →
            AreSchemeParts sig into ls bs ps (renumbered_parts xs)
        parts_typed ls bs [] no_parts is h k = tt
        parts_typed ls bs [] (part n s xs) is h k = absurd is
        parts_typed ls bs (at ∷ ps) no_parts is h k = absurd is
        parts_typed ls bs (at ∷ ps) (part n s xs) is h k = (
          is.0,
          renumbered_typed (bound bs at.binds ++ ls) at.cat s is.1 (λ m o. h m (inl o)) (λ m o. k m (inl o)),
          parts_typed ls bs ps xs is.2 (λ m o. h m (inr o)) (λ m o. k m (inr o)),
        )
