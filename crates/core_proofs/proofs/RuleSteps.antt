-- The instance of a right step by a rule is a derivation.
use Rattle.std.proofs.Common.{◌≡◌, ℕ, List, [], ◌∷◌, ◌++◌, length, map, Some, slice_get, refl, ap, ◌∙◌, sym, subst}
use Rattle.std.specs.List.{AllByRecursion, AllZip}
use Rattle.binding_terms.specs.Signature.{Signature, Place, slots}
use Rattle.binding_terms.specs.Scope.{IsTerm}
use Rattle.scheme_terms.specs.SchemeTree.{SchemeTree}
use Rattle.scheme_terms.specs.Forms.{SchemeContext, ContextValue, Names, Instance, Substitution}
use Rattle.scheme_terms.specs.Context.{scope_of, IsValue}
use Rattle.scheme_terms.specs.Instance.{instance_of, place_of, FitsScope, IsMetaValue, IsKnownPlace}
use Rattle.scheme_terms.specs.SchemeScope.{IsScheme, AreSchemes, IsSchemeContext, AreExplicitEntries, params_scope, entry_variables}
use Rattle.scheme_terms.specs.Substituting.{applied, followed, followed_metas, params, IsSubstitution, IsKnownValue}
use Rattle.scheme_terms.specs.declared.scheme.MetaDecl.{MetaDecl}
use Rattle.scheme_terms.specs.declared.scheme.Root.TheVariants.{Closed}
use Rattle.scheme_terms.proofs.SchemeFacts.{length_params}
use Rattle.scheme_terms.proofs.InstanceScopes.{instance_keeps_scope_of_metas}
use Rattle.rule_schemes.specs.Rules.{JudgmentScheme, JudgmentValue, Rule, Theory, IsInstance, IsJudgmentScheme, IsRootOf, IsBelow, AreClosed, judgment_instance, argument_slots, rule_names}
use Rattle.rule_schemes.specs.Derivation.{Derivation, judgment, AreInstances, IsNodeOf, Derives, AllDerive}
use Rattle.rule_schemes.specs.Placed.{form_in}
use Rattle.proof_trees.specs.RuleStep.{IsRaisedTo}
use Rattle.proof_trees.specs.Value.{subtrees}
use Rattle.core_proofs.specs.Laws.{RuleStepDerives}
use Rattle.core_proofs.proofs.ClosedForms.{closed_form, is_closed_form, no_value, closed_instances, instances_applied}
use Rattle.binding_terms.proofs.Lists.{match_from, match_some}

-- a closed form over names has no entries, and its arguments are schemes without locals
record IsClosedOver (th : Theory) (names : Names) (j : JudgmentScheme) : Type 0 where
  pub places : List Place
  pub form : j ≡ closed_form j.judgment j.args
  pub args : AreSchemes th.sig names [] places j.args

closed_over : (th : Theory) (names : Names) (j : JudgmentScheme) → j.context.root ≡ Closed → IsJudgmentScheme th names j → IsClosedOver th names j
closed_over th names j root is =
    let got = match_some (slice_get th.judgments j.judgment)
    (λ form. IsRootOf form.ctx j.context.root × IsSchemeContext th.sig names j.context
    × AreSchemes th.sig names (entry_variables th.sig [] j.context.entries) (argument_slots form.ctx (slots form.items)) j.args) is in
    let none : j.context.entries ≡ [] = subst (λ r. AreExplicitEntries th.sig names r j.context.entries) root got.2.1 in
    record {
      places = argument_slots got.0.ctx (slots got.0.items);
      form = is_closed_form j root none;
      args = subst (λ es. AreSchemes th.sig names (entry_variables th.sig [] es) (argument_slots got.0.ctx (slots got.0.items)) j.args) none got.2.2;
    }

-- the instance of a closed form is the same whatever its context says
closed_root : (j : JudgmentScheme) → j ≡ closed_form j.judgment j.args → j.context.root ≡ Closed
closed_root j e = ap (λ (f : JudgmentScheme). f.context.root) e

-- the values of a rule's metavariables under a substitution followed by an instance
pub metas_fit : (sig : Signature) (scope : Names) (inst given : Instance) → given.root ≡ inst.root → scope.knowns ≡ [] → FitsScope sig scope inst →
    (decls : List MetaDecl) (ss : List SchemeTree) → AllZip (λ decl s. IsScheme sig scope (params_scope decl) decl.cat.0 s) decls ss →
    AllZip (IsMetaValue sig given) decls (followed_metas decls ss inst)
metas_fit sig scope inst given same none fits [] [] h = tt
metas_fit sig scope inst given same none fits [] (s ∷ ss) h = absurd h
metas_fit sig scope inst given same none fits (m ∷ ms) [] h = absurd h
metas_fit sig scope inst given same none fits (m ∷ ms) (s ∷ ss) h =
    let term : IsTerm sig (params_scope m ++ scope_of sig inst.root) m.cat.0 (instance_of inst (length (params_scope m)) s) =
    instance_keeps_scope_of_metas sig scope inst (params_scope m) m.cat.0 s none fits h.0 in
    let counted : IsTerm sig (params_scope m ++ scope_of sig inst.root) m.cat.0 (instance_of inst (params m) s) =
    subst (λ n. IsTerm sig (params_scope m ++ scope_of sig inst.root) m.cat.0 (instance_of inst n s)) (length_params m) term in (
      subst (λ (v : ContextValue). IsTerm sig (params_scope m ++ scope_of sig v) m.cat.0 (instance_of inst (params m) s)) (sym same) counted,
      metas_fit sig scope inst given same none fits ms ss h.1,
    )

no_knowns : (by : Substitution) (ks : List ℕ) → AllZip (IsKnownValue by) [] ks → ks ≡ []
no_knowns by [] h = refl
no_knowns by (k ∷ ks) h = absurd h

knowns_fit : (inst given : Instance) (ks : List ℕ) → ks ≡ [] → AllZip (IsKnownPlace given) [] (map (λ k. Some (place_of inst k)) ks)
knowns_fit inst given [] e = tt
knowns_fit inst given (k ∷ ks) e = absurd (let no : ⊥ = cc in no)

-- a closed form in a step's context
pub form_is : (ctx : SchemeContext) (by : Substitution) (j : JudgmentScheme) → j ≡ closed_form j.judgment j.args →
    form_in ctx by j ≡ closed_form j.judgment (map (applied by.metas by.knowns 0) j.args)
form_is ctx by j e =
    subst (λ (x : JudgmentScheme). form_in ctx by x ≡ closed_form x.judgment (map (applied by.metas by.knowns 0) x.args)) (sym e) refl

module _ (th : Theory) (scope : Names) (inst : Instance) (rule : Rule) (by : Substitution)
    (root : scope.root ≡ Closed) (none : scope.knowns ≡ []) (fits : FitsScope th.sig scope inst)
    (rule_root : rule.conclusion.context.root ≡ Closed) (into : by.into ≡ scope) (schemes : IsSubstitution th.sig (rule_names rule) by) where
  closed_value : IsValue th.sig Closed inst.root
  closed_value = subst (λ r. IsValue th.sig r inst.root) root fits.root

  root_is : inst.root ≡ no_value
  root_is = λ i. record { cat = closed_value.0 i; entries = closed_value.1 i }

  no_variables : scope_of th.sig inst.root ≡ []
  no_variables = ap (λ (v : ContextValue). scope_of th.sig v) root_is

  rule_fits : FitsScope th.sig (rule_names rule) (followed rule.metas by inst)
  rule_fits = record {
    root = subst (λ r. IsValue th.sig r inst.root) (root ∙ sym rule_root) fits.root;
    metas = metas_fit th.sig scope inst (followed rule.metas by inst) refl none fits rule.metas by.metas
        (subst (λ (n : Names). AllZip (λ decl s. IsScheme th.sig n (params_scope decl) decl.cat.0 s) rule.metas by.metas) into schemes.metas);
    knowns = knowns_fit inst (followed rule.metas by inst) by.knowns (no_knowns by by.knowns schemes.knowns);
  }

  -- the instance of a form of the rule
  same_instance : (ctx : SchemeContext) (j : JudgmentScheme) → IsClosedOver th (rule_names rule) j →
      judgment_instance inst (form_in ctx by j) ≡ judgment_instance (followed rule.metas by inst) j
  same_instance ctx j is =
      let step : judgment_instance inst (closed_form j.judgment (map (applied by.metas by.knowns 0) j.args))
      ≡ judgment_instance (followed rule.metas by inst) (closed_form j.judgment j.args) =
      λ i. record { judgment = j.judgment; context = no_value; args = instances_applied th.sig (rule_names rule) by inst is.places j.args schemes is.args i } in
      ap (judgment_instance inst) (form_is ctx by j is.form) ∙ step ∙ ap (judgment_instance (followed rule.metas by inst)) (sym is.form)

  -- the premises, one by one
  premises_are : (ctx : SchemeContext) (ps : List JudgmentScheme) (ds : List Derivation) → AllByRecursion (λ p. p.context.root ≡ Closed) ps →
      AllByRecursion (IsJudgmentScheme th (rule_names rule)) ps → AllZip (λ j d. Derives th d × IsInstance inst j (judgment d)) (map (form_in ctx by) ps) ds →
      AreInstances (followed rule.metas by inst) ps (subtrees ds) × AllDerive th (subtrees ds)
  premises_are ctx [] [] roots are h = (tt, tt)
  premises_are ctx [] (d ∷ ds) roots are h = absurd h
  premises_are ctx (p ∷ ps) [] roots are h = absurd h
  premises_are ctx (p ∷ ps) (d ∷ ds) roots are h =
      let is = closed_over th (rule_names rule) p roots.0 are.0 in
      let rest = premises_are ctx ps ds roots.1 are.1 h.1 in
      let closed_in : (form_in ctx by p).context.root ≡ Closed = ap (λ (f : JudgmentScheme). f.context.root) (form_is ctx by p is.form) in
      let premise : IsInstance (followed rule.metas by inst) p (judgment d) = record {
        same = sym (same_instance ctx p is) ∙ h.0.1.same;
        closed = subst (λ r. AreClosed r (judgment d).args) (closed_in ∙ sym roots.0) h.0.1.closed;
      } in
      ((premise, rest.0), (h.0.0, rest.1))

pub rule_step_derives : RuleStepDerives
rule_step_derives th scope inst r rule form cited ds root none fits here rule_root premise_roots conclusion_is premises_are_forms step is cited_derive =
    let raised : is.higher ≡ rule = subst (λ x. IsRaisedTo th.sig form.context x rule is.higher) rule_root is.raised in
    let schemes : IsSubstitution th.sig (rule_names rule) is.by = subst (λ (h : Rule). IsSubstitution th.sig (rule_names h) is.by) raised is.schemes in
    let conclusion : form_in form.context is.by rule.conclusion ≡ form = subst (λ (h : Rule). form_in form.context is.by h.conclusion ≡ form) raised is.conclusion in
    let premises : map (form_in form.context is.by) rule.premises ≡ cited = subst (λ (h : Rule). map (form_in form.context is.by) h.premises ≡ cited) raised is.premises in
    let head = closed_over th (rule_names rule) rule.conclusion rule_root conclusion_is in
    let form_root : form.context.root ≡ Closed =
    sym (ap (λ (f : JudgmentScheme). f.context.root) conclusion) ∙ ap (λ (f : JudgmentScheme). f.context.root) (form_is form.context is.by rule.conclusion head.form) in
    let form_over = closed_over th scope form form_root step.in_scope in
    let closed_args : AllByRecursion (IsBelow 0) (map (instance_of inst 0) form.args) =
    closed_instances th.sig scope inst form_over.places form.args none (no_variables th scope inst rule is.by root none fits rule_root is.into schemes) fits form_over.args in
    let instance_is : judgment_instance inst form ≡ judgment_instance inst (closed_form form.judgment form.args) = ap (judgment_instance inst) form_over.form in
    let args_closed : AllByRecursion (IsBelow 0) (judgment_instance inst form).args =
    subst (λ (v : JudgmentValue). AllByRecursion (IsBelow 0) v.args) (sym instance_is) closed_args in
    let below_premises = premises_are th scope inst rule is.by root none fits rule_root is.into schemes form.context rule.premises ds premise_roots premises_are_forms
    (subst (λ (js : List JudgmentScheme). AllZip (λ j d. Derives th d × IsInstance inst j (judgment d)) js ds) (sym premises) cited_derive) in
    let made : IsNodeOf th (judgment_instance inst form) (subtrees ds) rule = record {
      ordinary = is.ordinary;
      inst = followed rule.metas is.by inst;
      root = root_is th scope inst rule is.by root none fits rule_root is.into schemes
          ∙ ap (λ (v : JudgmentValue). v.context) (sym instance_is);
      scope = rule_fits th scope inst rule is.by root none fits rule_root is.into schemes;
      conclusion = record {
        same = sym (same_instance th scope inst rule is.by root none fits rule_root is.into schemes form.context rule.conclusion head)
            ∙ ap (judgment_instance inst) conclusion;
        closed = subst (λ x. AreClosed x (judgment_instance inst form).args) (sym rule_root) args_closed;
      };
      premises = below_premises.0;
    } in (
      (match_from (slice_get th.rules r) (IsNodeOf th (judgment_instance inst form) (subtrees ds)) rule here made, below_premises.1),
      record { same = refl; closed = subst (λ x. AreClosed x (judgment_instance inst form).args) (sym form_root) args_closed },
    )
