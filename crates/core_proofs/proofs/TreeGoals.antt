-- A form has the goal of a statement exactly where it has the goal of its proof on a tree.
use Rattle.std.proofs.Common.{◌≡◌, ℕ, zero, suc, ◌+◌, ◌<◌, List, [], ◌∷◌, ◌++◌, length, map, take, Some, slice_get, refl, ap, ◌∙◌, sym, subst, arith}
use Rattle.std.proofs.lemmas.List.{take_all}
use Rattle.std.proofs.lemmas.Option.{same_Some, slice_get_within}
use Rattle.std.specs.List.{AllZip}
use Rattle.scheme_terms.specs.SchemeTree.{SchemeTree}
use Rattle.scheme_terms.specs.Forms.{Names, KnownVariable, Substitution}
use Rattle.scheme_terms.specs.SchemeScope.{IsScheme, params_scope, KnownsFit}
use Rattle.scheme_terms.specs.Substituting.{IsKnownValue, metas_from, knowns_from}
use Rattle.scheme_terms.specs.declared.scheme.MetaDecl.{MetaDecl}
use Rattle.scheme_terms.proofs.Identities.{identity_is_substitution}
use Rattle.rule_schemes.specs.Placed.{applied_judgment}
use Rattle.rule_schemes.specs.Rules.{JudgmentScheme, Theory}
use Rattle.rule_schemes.specs.Statement.{Theorem}
use Rattle.proof_trees.specs.Here.{Goal}
use Rattle.proof_trees.specs.Goals as goals
use Rattle.proof_trees.specs.Goals.{goal_substitution}
use Rattle.proof_trees.specs.Right.{IsProofScope}
use Rattle.core_proofs.specs.Proof.{itself, HasGoal}
use Rattle.binding_terms.proofs.Lists.{all_numbered, append_within, numbered_at, zip_append, zip_empty, zip_split}

length_metas : (n : ℕ) (decls : List MetaDecl) → length (metas_from n decls) ≡ length decls
length_metas n [] = refl
length_metas n (decl ∷ decls) = omega (arith, length_metas (suc n) decls)

itself_at : (n : ℕ) (decls : List MetaDecl) (m : ℕ) (decl : MetaDecl) → slice_get decls m ≡ Some decl → slice_get (metas_from n decls) m ≡ Some (itself (n + m) decl)
itself_at n [] m decl e = absurd (let no : ⊥ = cc in no)
itself_at n (d ∷ decls) zero decl e =
    let same : d ≡ decl = same_Some d decl e in
    ap (λ x. Some (itself n x)) same ∙ ap (λ k. Some (itself k decl)) (let k : n ≡ n + 0 = omega arith in k)
itself_at n (d ∷ decls) (suc m) decl e =
    itself_at (suc n) decls m decl e ∙ ap (λ k. Some (itself k decl)) (let k : suc n + m ≡ n + suc m = omega arith in k)

-- a front of schemes that are the names themselves is that of the identity
front_is : (R : MetaDecl → SchemeTree → Type 0) (n : ℕ) (decls : List MetaDecl) (ys vs : List SchemeTree) → AllZip R decls ys →
    ((m : ℕ) (decl : MetaDecl) → slice_get decls m ≡ Some decl → slice_get (ys ++ vs) m ≡ Some (itself (n + m) decl)) → ys ≡ metas_from n decls
front_is R n [] [] vs zip h = refl
front_is R n [] (y ∷ ys) vs zip h = absurd zip
front_is R n (d ∷ decls) [] vs zip h = absurd zip
front_is R n (d ∷ decls) (y ∷ ys) vs zip h =
    let first : y ≡ itself n d = same_Some y (itself n d) (h 0 d refl ∙ ap (λ k. Some (itself k d)) (let k : n + 0 ≡ n = omega arith in k)) in
    let rest : ys ≡ metas_from (suc n) decls =
    front_is R (suc n) decls ys vs zip.1 (λ m decl e. h (suc m) decl e ∙ ap (λ k. Some (itself k decl)) (let k : n + suc m ≡ suc n + m = omega arith in k)) in
    λ i. first i ∷ rest i

-- the goal of a proof as it begins
abbrev pub goal_of_proof : (st : Theorem) (scope : Names) → IsProofScope st scope → Goal
goal_of_proof st scope is = record { outer = length scope.metas; names = is.goal_names; forms = st.outputs }

module _ (th : Theory) (st : Theorem) (scope : Names) (is : IsProofScope st scope) (none : st.scope.knowns ≡ []) (form : JudgmentScheme) where
  abbrev goal : Goal
  goal = goal_of_proof st scope is

  abbrev IsOf : Names → MetaDecl → SchemeTree → Type 0
  IsOf into decl s = IsScheme th.sig into (params_scope decl) decl.cat.0 s

  no_knowns : knowns_from 0 scope.knowns ≡ []
  no_knowns = ap (knowns_from 0) is.knowns

  front : take (length scope.metas) (metas_from 0 scope.metas) ≡ metas_from 0 scope.metas
  front = take_all (length scope.metas) (metas_from 0 scope.metas) (let e = length_metas 0 scope.metas in omega (arith, e))

  pub goal_on_tree : HasGoal th st scope form → goals.HasGoal th scope goal (form ∷ [])
  goal_on_tree h =
      let parts = zip_split (IsOf h.by.into) scope.metas is.goal_names h.by.metas
      (subst (λ (ms : List MetaDecl). AllZip (IsOf h.by.into) ms h.by.metas) is.split h.schemes.metas) in
      let ys : List SchemeTree = parts.0 in
      let vs : List SchemeTree = parts.1 in
      let ys_are : ys ≡ metas_from 0 scope.metas =
      front_is (IsOf h.by.into) 0 scope.metas ys vs parts.3
      (λ m decl e. ap (λ xs. slice_get xs m) (sym parts.2) ∙ ap (slice_get h.by.metas) (let k : m ≡ 0 + m = omega arith in k) ∙ numbered_at (λ m decl. slice_get h.by.metas m ≡ Some (itself m decl)) 0 scope.metas m decl h.others_stay e) in
      let metas : h.by.metas ≡ take (length scope.metas) (metas_from 0 scope.metas) ++ vs = parts.2 ∙ ap (λ xs. xs ++ vs) (ys_are ∙ sym front) in
      let knowns : h.by.knowns ≡ knowns_from 0 scope.knowns =
      zip_empty (IsKnownValue h.by) h.by.knowns (subst (λ (ks : List KnownVariable). AllZip (IsKnownValue h.by) ks h.by.knowns) none h.schemes.knowns) ∙ sym no_knowns in
      let same_by : h.by ≡ goal_substitution scope goal vs = λ i. record { metas = metas i; knowns = knowns i; into = h.into i } in
      record {
        values = vs;
        schemes = subst (λ (into : Names). AllZip (IsOf into) is.goal_names vs) h.into parts.4;
        same = subst (λ (by : Substitution). map (applied_judgment by) st.outputs ≡ form ∷ []) same_by h.same;
      }

  knowns_fit : KnownsFit th.sig scope
  knowns_fit = none_to_fit scope.knowns is.knowns
    where
      none_to_fit : (ks : List KnownVariable) → ks ≡ [] → KnownsFit th.sig (record { root = scope.root; metas = scope.metas; knowns = ks })
      none_to_fit [] e = tt
      none_to_fit (k ∷ ks) e = absurd (let no : ⊥ = cc in no)

  pub goal_of_tree : goals.HasGoal th scope goal (form ∷ []) → HasGoal th st scope form
  goal_of_tree h =
      let by : Substitution = goal_substitution scope goal h.values in
      let metas : by.metas ≡ metas_from 0 scope.metas ++ h.values = ap (λ xs. xs ++ h.values) front in
      let zip : AllZip (IsOf scope) (scope.metas ++ is.goal_names) (metas_from 0 scope.metas ++ h.values) =
      zip_append (IsOf scope) scope.metas is.goal_names (metas_from 0 scope.metas) h.values (identity_is_substitution th.sig scope knowns_fit).metas h.schemes in
      record {
        by = by;
        into = refl;
        schemes = record {
          metas = subst (λ (ms : List MetaDecl). AllZip (IsOf scope) ms by.metas) (sym is.split)
              (subst (AllZip (IsOf scope) (scope.metas ++ is.goal_names)) (sym metas) zip);
          knowns = subst (λ (ks : List KnownVariable). AllZip (IsKnownValue by) ks by.knowns) (sym none) (subst (AllZip (IsKnownValue by) []) (sym no_knowns) tt);
        };
        others_stay = all_numbered (λ m decl. slice_get by.metas m ≡ Some (itself m decl)) 0 scope.metas
            (λ m decl e. stays m decl e (slice_get_within scope.metas m decl e) metas);
        same = h.same;
      }
    where
      stays : (m : ℕ) (decl : MetaDecl) → slice_get scope.metas m ≡ Some decl → m < length scope.metas → {ms : List SchemeTree} →
          ms ≡ metas_from 0 scope.metas ++ h.values → slice_get ms (0 + m) ≡ Some (itself (0 + m) decl)
      stays m decl e within {ms = ms} metas =
          let zero_more : 0 + m ≡ m = omega arith in
          ap (slice_get ms) zero_more ∙ ap (λ xs. slice_get xs m) metas
          ∙ append_within (metas_from 0 scope.metas) h.values m (let l = length_metas 0 scope.metas in omega (arith, l, within))
          ∙ itself_at 0 scope.metas m decl e
