-- Only one instance of the proof's scope gives the inputs.
use Rattle.std.proofs.Common.{◌≡◌, ◌⊎◌, ℕ, ◌+◌, ◌<◌, ◌≤◌, List, [], ◌∷◌, length, map, Option, slice_get, inl, inr, refl, ap, ◌∙◌, sym, subst, arith}
use Rattle.std.specs.List.{AllByRecursion, AllZip}
use Rattle.std.proofs.lemmas.Bool.{cases_lt}
use Rattle.std.proofs.lemmas.List.{length-append}
use Rattle.std.proofs.lemmas.Option.{slice_get_past}
use Rattle.std.proofs.lemmas.Slice.Zip.{AllZip-long}
use Rattle.binding_terms.specs.Numbered.{AnyByRecursion}
use Rattle.binding_terms.specs.Signature.{Place}
use Rattle.scheme_terms.specs.SchemeTree.{SchemeTree, StrictIn}
use Rattle.scheme_terms.specs.Forms.{Names, Instance, ContextValue, KnownVariable}
use Rattle.scheme_terms.specs.Instance.{instance_of, IsMetaValue, IsKnownPlace}
use Rattle.scheme_terms.specs.SchemeScope.{AreSchemes}
use Rattle.scheme_terms.proofs.StrictAgreements.{strict_agreement_in_scope}
use Rattle.pattern_unify.proofs.Places.{numbered_at, same_lists, within as place_within}
use Rattle.rule_schemes.specs.Plain.{IsPlainSystem}
use Rattle.rule_schemes.specs.Rules.{JudgmentScheme, JudgmentValue, Theory, StrictInJudgment, StrictInEntries}
use Rattle.rule_schemes.specs.Derivation.{judgment}
use Rattle.rule_schemes.specs.Statement.{StatementInput, given, syntax_input, Theorem, InputTree, derived, term, IsGiven, IsOfInputs, StrictInInput, StrictInStatement}
use Rattle.core_proofs.specs.Plain.{IsPlainForm}
use Rattle.proof_trees.specs.Right.{IsProofScope}
use Rattle.core_proofs.specs.Proof.{given_judgments}
use Rattle.core_proofs.specs.Provable.{IsProvable, IsOfDerivation}
use Rattle.core_proofs.proofs.RuleFitting.{places, bare}
use Rattle.theorem_runner.specs.Instances.{Gives}
use Rattle.theorem_runner.proofs.PlainInstances.{instance_args}
use Rattle.theorem_runner.proofs.Restricting.{forms_plain}

pub no_places : (inst : Instance) (ks : List (Option ℕ)) → AllZip (IsKnownPlace inst) [] ks → ks ≡ []
no_places inst [] h = refl
no_places inst (k ∷ ks) h = absurd h

module _ (th : Theory) (system : IsPlainSystem th) (st : Theorem) (provable : IsProvable th st) (scope : Names) (is : IsProofScope st scope)
    (v : ContextValue) (xs : List InputTree) (a b : Instance) (first : Gives th st scope v xs a) (second : Gives th st scope v xs b) where
  strict_terms : (m : ℕ) (ps : List Place) (ss : List SchemeTree) → AreSchemes th.sig scope [] ps ss → map (instance_of a 0) ss ≡ map (instance_of b 0) ss →
      AnyByRecursion (StrictIn m) ss → slice_get a.metas m ≡ slice_get b.metas m
  strict_terms m [] [] are e h = absurd h
  strict_terms m [] (s ∷ ss) are e h = absurd are
  strict_terms m (p ∷ ps) [] are e h = absurd are
  strict_terms m (p ∷ ps) (s ∷ ss) are e (inl h) =
      let here : instance_of a 0 s ≡ instance_of b 0 s = cc in
      strict_agreement_in_scope th.sig scope a b [] p.cat m s first.0 second.0 are.0 h here
  strict_terms m (p ∷ ps) (s ∷ ss) are e (inr h) =
      let rest : map (instance_of a 0) ss ≡ map (instance_of b 0) ss = cc in
      strict_terms m ps ss are.1 rest h

  strict_form : (m : ℕ) (j : JudgmentScheme) (u : JudgmentValue) → IsPlainForm th scope j → map (instance_of a 0) j.args ≡ u.args → map (instance_of b 0) j.args ≡ u.args →
      StrictInJudgment m j → slice_get a.metas m ≡ slice_get b.metas m
  strict_form m j u form e f (inl h) = absurd (subst (StrictInEntries m) (bare th scope j form).entries h)
  strict_form m j u form e f (inr h) = strict_terms m (places th j.judgment) j.args (bare th scope j form).args (e ∙ sym f) h

  strict_inputs : (m : ℕ) (inputs : List StatementInput) (ys : List InputTree) → AllByRecursion IsOfDerivation inputs →
      AllByRecursion (IsPlainForm th scope) (given_judgments inputs) → AllZip (IsGiven th a) inputs ys → AllZip (IsGiven th b) inputs ys →
      AnyByRecursion (StrictInInput m) inputs → slice_get a.metas m ≡ slice_get b.metas m
  strict_inputs m [] ys ds forms f g h = absurd h
  strict_inputs m (i ∷ inputs) [] ds forms f g h = absurd f
  strict_inputs m (given j ∷ inputs) (derived d ∷ ys) ds forms f g (inl h) =
      strict_form m j (judgment d) forms.0 (sym (instance_args th scope a j forms.0) ∙ ap (λ (u : JudgmentValue). u.args) f.0.1.same)
      (sym (instance_args th scope b j forms.0) ∙ ap (λ (u : JudgmentValue). u.args) g.0.1.same) h
  strict_inputs m (given j ∷ inputs) (derived d ∷ ys) ds forms f g (inr h) = strict_inputs m inputs ys ds.1 forms.1 f.1 g.1 h
  strict_inputs m (given j ∷ inputs) (term t ∷ ys) ds forms f g h = absurd f.0
  strict_inputs m (syntax_input n ∷ inputs) (y ∷ ys) ds forms f g h = absurd ds.0

  of_inputs : (m : ℕ) → m < length scope.metas → IsOfInputs st m
  of_inputs m h =
      let here = place_within scope.metas m h in
      subst (IsOfInputs st) (let e : 0 + m ≡ m = omega arith in e) (numbered_at (λ m decl. IsOfInputs st m) 0 scope.metas m here.0 is.of_inputs here.1)

  strict_in_statement : (m : ℕ) → m < length st.scope.metas → StrictInStatement st m
  strict_in_statement m h =
      let here = place_within st.scope.metas m h in
      subst (StrictInStatement st) (let e : 0 + m ≡ m = omega arith in e)
      (numbered_at (λ m decl. StrictInStatement st m) 0 st.scope.metas m here.0 provable.no_fault.strict here.1)

  same_at : (m : ℕ) → (m < length scope.metas) ⊎ (length scope.metas ≤ m) → slice_get a.metas m ≡ slice_get b.metas m
  same_at m (inl h) =
      let whole : length scope.metas ≤ length st.scope.metas = omega (arith, ap length is.split, length-append scope.metas is.goal_names) in
      strict_inputs m st.inputs xs provable.derivations (forms_plain th system st provable scope is) first.1.inputs second.1.inputs
      ((strict_in_statement m (omega (arith, h, whole))).inputs (of_inputs m h))
  same_at m (inr h) =
      let long_a = AllZip-long (IsMetaValue th.sig a) scope.metas a.metas first.0.metas in
      let long_b = AllZip-long (IsMetaValue th.sig b) scope.metas b.metas second.0.metas in
      slice_get_past a.metas m (omega (arith, long_a, h)) ∙ sym (slice_get_past b.metas m (omega (arith, long_b, h)))

  pub one_instance : a ≡ b
  one_instance =
      let metas : a.metas ≡ b.metas = same_lists a.metas b.metas (λ m. same_at m (cases_lt m (length scope.metas))) in
      let root : a.root ≡ b.root = first.1.value ∙ sym second.1.value in
      let none_a = no_places a a.knowns (subst (λ (ks : List KnownVariable). AllZip (IsKnownPlace a) ks a.knowns) is.knowns first.0.knowns) in
      let none_b = no_places b b.knowns (subst (λ (ks : List KnownVariable). AllZip (IsKnownPlace b) ks b.knowns) is.knowns second.0.knowns) in
      let knowns : a.knowns ≡ b.knowns = none_a ∙ sym none_b in
      λ i. record { metas = metas i; knowns = knowns i; root = root i }
