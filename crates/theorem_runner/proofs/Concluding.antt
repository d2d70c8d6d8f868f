-- A derivation of the goal derives the instantiated conclusion.
use Rattle.std.proofs.Common.{◌≡◌, ◌⊎◌, ℕ, zero, suc, ◌+◌, reverse, List, [], ◌∷◌, ◌++◌, length, map, Some, None, slice_get, unwrap_or, refl, ap, ◌∙◌, sym, subst, arith}
use Rattle.std.specs.List.{AllByRecursion, AllZip}
use Rattle.binding_terms.specs.Tree.{var}
use Rattle.binding_terms.specs.Scope.{IsTerm}
use Rattle.scheme_terms.specs.SchemeTree.{SchemeTree, meta, no_values, values}
use Rattle.scheme_terms.specs.Forms.{Names, Instance, ContextValue, Substitution}
use Rattle.scheme_terms.specs.Context.{IsValue, scope_of}
use Rattle.scheme_terms.specs.Instance.{instance_of, IsMetaValue}
use Rattle.scheme_terms.specs.SchemeScope.{IsScheme, params_scope}
use Rattle.scheme_terms.specs.Substituting.{applied, followed, followed_metas, params, parameters}
use Rattle.scheme_terms.specs.declared.scheme.MetaDecl.{MetaDecl}
use Rattle.scheme_terms.proofs.Options.{zip_at}
use Rattle.pattern_unify.proofs.PlainSchemes.{all_at}
use Rattle.pattern_unify.proofs.Places.{numbered, numbered_at, within as place_within}
use Rattle.rule_schemes.specs.Plain.{IsPlainSystem}
use Rattle.rule_schemes.specs.Rules.{JudgmentScheme, Theory, IsInstance, AreClosed, judgment_instance}
use Rattle.rule_schemes.specs.Derivation.{Derivation, judgment, Derives}
use Rattle.rule_schemes.specs.Statement.{Theorem, InputTree, DeriveConclusions, given_value, IsOfInputs, IsOfOutputs, IsStatementForm}
use Rattle.core_proofs.specs.Plain.{IsPlainForm}
use Rattle.proof_trees.specs.Right.{IsProofScope}
use Rattle.rule_schemes.specs.Placed.{applied_judgment}
use Rattle.core_proofs.specs.Proof.{itself}
use Rattle.core_proofs.specs.Laws.{DerivesGoal}
use Rattle.core_proofs.specs.Provable.{IsProvable}
use Rattle.core_proofs.proofs.ClosedForms.{closed_form, no_value, instances_applied}
use Rattle.core_proofs.proofs.RuleFitting.{places, bare}
use Rattle.core_proofs.proofs.RuleSteps.{metas_fit}
use Rattle.core_proofs.proofs.PlainForms.{plain_form}
use Rattle.core_proofs.proofs.Keeping.{plain_scope}
use Rattle.scheme_terms.proofs.Lists.{instance_meta}
use Rattle.theorem_runner.specs.Instances.{Gives}
use Rattle.theorem_runner.proofs.Restricting.{of_inputs_below}
use Rattle.binding_terms.proofs.Lists.{append_within, match_some}

-- the value at a place of a substitution followed by an instance
followed_at : (ms : List MetaDecl) (ss : List SchemeTree) (inst : Instance) (m : ℕ) (decl : MetaDecl) (s : SchemeTree) → slice_get ms m ≡ Some decl → slice_get ss m ≡ Some s →
    slice_get (followed_metas ms ss inst) m ≡ Some (Some (instance_of inst (params decl) s))
followed_at [] ss inst m decl s h k = absurd (let no : ⊥ = cc in no)
followed_at (d ∷ ms) [] inst m decl s h k = absurd (let no : ⊥ = cc in no)
followed_at (d ∷ ms) (t ∷ ss) inst zero decl s h k =
    let first : d ≡ decl = cc in
    let second : t ≡ s = cc in
    λ i. Some (Some (instance_of inst (params (first i)) (second i)))
followed_at (d ∷ ms) (t ∷ ss) inst (suc m) decl s h k = followed_at ms ss inst m decl s h k

module _ (th : Theory) (system : IsPlainSystem th) (st : Theorem) (provable : IsProvable th st) (scope : Names) (is : IsProofScope st scope)
    (v : ContextValue) (xs : List InputTree) (inst : Instance) (gives : Gives th st scope v xs inst) (made : Derivation) (goal : DerivesGoal th st scope inst made) where
  abbrev by : Substitution
  by = goal.goal.by

  abbrev more : Instance
  more = followed st.scope.metas by inst

  schemes : AllZip (λ decl s. IsScheme th.sig scope (params_scope decl) decl.cat.0 s) st.scope.metas by.metas
  schemes = subst (λ (n : Names). AllZip (λ decl s. IsScheme th.sig n (params_scope decl) decl.cat.0 s) st.scope.metas by.metas) goal.goal.into goal.goal.schemes.metas

  all_fit : AllZip (IsMetaValue th.sig more) st.scope.metas more.metas
  all_fit = metas_fit th.sig scope inst more refl is.knowns gives.0 st.scope.metas by.metas schemes

  fits_at : (m : ℕ) (decl : MetaDecl) → slice_get st.scope.metas m ≡ Some decl → IsMetaValue th.sig more decl (given_value more m)
  fits_at m decl here =
      let got = zip_at (IsMetaValue th.sig more) st.scope.metas more.metas all_fit m decl here in
      subst (λ o. IsMetaValue th.sig more decl o) (sym (ap (λ o. unwrap_or o None) got.1)) got.2

  -- a name of the inputs keeps its value
  same_value : (m : ℕ) → IsOfInputs st m → given_value more m ≡ given_value inst m
  same_value m of =
      let below = of_inputs_below th system st provable scope is m of in
      let here = place_within scope.metas m below in
      let there : slice_get st.scope.metas m ≡ Some here.0 = ap (λ (ms : List MetaDecl). slice_get ms m) is.split ∙ append_within scope.metas is.goal_names m below ∙ here.1 in
      let none : here.0.params ≡ [] = all_at (λ (d : MetaDecl). d.params ≡ []) scope.metas m here.0 (plain_scope th system st provable scope is).metas here.1 in
      let stays : slice_get by.metas m ≡ Some (itself m here.0) =
      subst (λ k. slice_get by.metas k ≡ Some (itself k here.0)) (let e : 0 + m ≡ m = omega arith in e)
      (numbered_at (λ k decl. slice_get by.metas k ≡ Some (itself k decl)) 0 scope.metas m here.0 goal.goal.others_stay here.1) in
      let value : given_value more m ≡ Some (instance_of inst (params here.0) (itself m here.0)) =
      ap (λ o. unwrap_or o None) (followed_at st.scope.metas by.metas inst m here.0 (itself m here.0) there stays) in
      let bare_name : instance_of inst (params here.0) (itself m here.0) ≡ instance_of inst 0 (meta m no_values) =
      ap (λ ps. instance_of inst (length ps) (meta m (values (parameters (length ps))))) none in
      let got = zip_at (IsMetaValue th.sig inst) scope.metas inst.metas gives.0.metas m here.0 here.1 in
      let set = match_some got.0 (λ t. IsTerm th.sig (reverse (map (λ c. c.0) here.0.params) ++ scope_of th.sig inst.root) here.0.cat.0 t) got.2 in
      let old : given_value inst m ≡ Some set.0 = ap (λ o. unwrap_or o None) got.1 ∙ set.1 in
      value ∙ ap Some (bare_name ∙ instance_meta inst m ∙ ap (λ o. unwrap_or o (var 0)) old) ∙ sym old

  conclusion_same : (j : JudgmentScheme) → IsPlainForm th st.scope j → judgment_instance inst (applied_judgment by j) ≡ judgment_instance more j
  conclusion_same j form =
      let is = bare th st.scope j form in
      let middle : judgment_instance inst (closed_form j.judgment (map (applied by.metas by.knowns 0) j.args)) ≡ judgment_instance more (closed_form j.judgment j.args) =
      λ i. record { judgment = j.judgment; context = no_value; args = instances_applied th.sig st.scope by inst (places th j.judgment) j.args goal.goal.schemes is.args i } in
      let applied_form : applied_judgment by j ≡ closed_form j.judgment (map (applied by.metas by.knowns 0) j.args) =
      subst (λ (x : JudgmentScheme). applied_judgment by x ≡ closed_form x.judgment (map (applied by.metas by.knowns 0) x.args)) (sym is.form) refl in
      ap (judgment_instance inst) applied_form ∙ middle ∙ ap (judgment_instance more) (sym is.form)

  outputs : (js : List JudgmentScheme) → length js ≡ 1 → AllByRecursion (IsStatementForm th st) js → map (applied_judgment by) js ≡ goal.form ∷ [] →
      AllZip (λ j d. Derives th d × IsInstance more j (judgment d)) js (made ∷ [])
  outputs [] one forms e = absurd (let no : ⊥ = omega (arith, one) in no)
  outputs (j ∷ (i ∷ js)) one forms e = absurd (let no : ⊥ = omega (arith, one) in no)
  outputs (j ∷ []) one forms e =
      let form = plain_form th system st.scope j forms.0.0 in
      let first : applied_judgment by j ≡ goal.form = cc in
      let root : j.context.root ≡ goal.form.context.root = ap (λ (f : JudgmentScheme). f.context.root) first in (
        (
          goal.derives,
          record {
            same = sym (conclusion_same j form) ∙ ap (judgment_instance inst) first ∙ goal.is_instance.same;
            closed = subst (λ r. AreClosed r (judgment made).args) (sym root) goal.is_instance.closed;
          },
        ),
        tt,
      )

  pub concludes : DeriveConclusions th st inst (made ∷ [])
  concludes = record {
    more = more;
    root = refl;
    same = same_value;
    fits = record {
      root = subst (λ root. IsValue th.sig root inst.root) is.root gives.0.root;
      metas = numbered (λ m decl. IsOfInputs st m ⊎ IsOfOutputs st m → IsMetaValue th.sig more decl (given_value more m)) 0 st.scope.metas
          (λ k decl here of. subst (λ m. IsMetaValue th.sig more decl (given_value more m)) (let e : k ≡ 0 + k = omega arith in e) (fits_at k decl here));
    };
    outputs = outputs st.outputs provable.one_output provable.forms.outputs goal.goal.same;
  }
