-- Where right proofs of statements stand, the scope and the forms are plain.
use Rattle.std.specs.Prelude.{Option}
use Rattle.std.proofs.Common.{MatchOption, ◌≡◌, ◌↔◌, ◌+◌, ℕ, List, [], ◌∷◌, ◌++◌, length, take, drop, refl, arith, Some, None, slice_get, inl, inr, ap, ◌∙◌, sym, subst}
use Rattle.std.proofs.Math.Seq.{take-append_seam, drop-append_seam}
use Rattle.std.proofs.lemmas.List.{length-take, take-append-drop}
use Rattle.std.proofs.lemmas.Option.{slice_get_within}
use Rattle.std.specs.List.{AllByRecursion}
use Rattle.binding_terms.specs.Numbered.{AllNumbered, AnyByRecursion}
use Rattle.scheme_terms.specs.Forms.{Names}
use Rattle.scheme_terms.specs.declared.scheme.MetaDecl.{MetaDecl}
use Rattle.pattern_unify.specs.Plain.{HaveNoParameters}
use Rattle.rule_schemes.specs.Rules.{JudgmentScheme, Theory, IsJudgmentScheme}
use Rattle.rule_schemes.specs.Plain.{IsPlainSystem}
use Rattle.rule_schemes.specs.Statement.{StatementInput, given, syntax_input, Theorem, OccursInInput, OccursInJudgment, IsOfInputs, IsStatementInput}
use Rattle.core_proofs.specs.Plain.{IsPlainScope, IsPlainForm}
use Rattle.core_proofs.specs.Step.{Step, begin_theorem, end_theorem, by_rule}
use Rattle.proof_trees.specs.Right.{IsProofScope}
use Rattle.core_proofs.specs.Proof.{given_judgments, Standing, outside, within, Leads}
use Rattle.core_proofs.specs.Provable.{IsProvable, CountsInputs}
use Rattle.core_proofs.proofs.Moving.{Follows, leads_on, counted, is_front}
use Rattle.core_proofs.proofs.PlainForms.{form_in_front, plain_form}
use Rattle.binding_terms.proofs.Lists.{all_at, all_front, all_numbered, all_push, match_from, match_some}

-- The scope of a proof that was begun, the forms in scope and the last form: nothing binds, and there is no context.
pub record IsPlainProof (th : Theory) (st : Theorem) (scope : Names) (scoped : List JudgmentScheme) (last : Option JudgmentScheme) : Type 0 where
  pub begun : IsProofScope st scope
  pub names : IsPlainScope scope
  pub forms : AllByRecursion (IsPlainForm th scope) scoped
  pub last_form : MatchOption last (Unit {0}) (IsPlainForm th scope)

abbrev pub StandsPlainly : Theory → List Theorem → Standing → Type 0
StandsPlainly th sts (outside k) = Unit {0}
StandsPlainly th sts (within k scope scoped last) = MatchOption (slice_get sts k) ⊥ (λ st. IsPlainProof th st scope scoped last)

-- the scope of as many of the statement's names as stand in inputs
pub counted_scope : (st : Theorem) (given_scope : (scope : Names) × IsProofScope st scope) (n : ℕ) (scope : Names) → CountsInputs st n →
    scope.root ≡ st.scope.root → scope.metas ≡ take n st.scope.metas → scope.knowns ≡ [] → IsProofScope st scope
counted_scope st given_scope n scope counts root metas knowns =
    let front : scope.metas ≡ given_scope.0.metas =
    metas ∙ ap (λ k. take k st.scope.metas) (counted st given_scope.0 n given_scope.1 counts) ∙ ap (take (length given_scope.0.metas)) given_scope.1.split
    ∙ take-append_seam given_scope.0.metas given_scope.1.goal_names in
    let same : given_scope.0 ≡ scope =
    λ i. record { root = (given_scope.1.root ∙ sym root) i; metas = sym front i; knowns = (given_scope.1.knowns ∙ sym knowns) i } in
    subst (IsProofScope st) same given_scope.1

-- a proof begins in a scope exactly where no further name stands in an input
pub where_scope_ends : (st : Theorem) (n : ℕ) → CountsInputs st n →
    AllNumbered (λ m decl. IsOfInputs st m → ⊥) n (drop n st.scope.metas) ↔ ((scope : Names) × IsProofScope st scope)
where_scope_ends st n counts = (λ further. (there, ending further), λ h. split_there h.0 h.1)
  where
    front : List MetaDecl
    front = take n st.scope.metas

    long : length front ≡ n
    long = omega (arith, length-take n st.scope.metas, counts.in_range)

    there : Names
    there = record { root = st.scope.root; metas = front; knowns = [] }

    ending : AllNumbered (λ m (decl : MetaDecl). IsOfInputs st m → ⊥) n (drop n st.scope.metas) → IsProofScope st there
    ending further = record {
      root = refl;
      knowns = refl;
      goal_names = drop n st.scope.metas;
      split = sym (take-append-drop n st.scope.metas);
      of_inputs = all_numbered (λ m decl. IsOfInputs st m) 0 front (λ i decl at. counts.of_inputs (0 + i) (omega (arith, long, slice_get_within front i decl at)));
      further = subst (λ k. AllNumbered (λ m (decl : MetaDecl). IsOfInputs st m → ⊥) k (drop n st.scope.metas)) (sym long) further;
    }

    split_there : (scope : Names) → IsProofScope st scope → AllNumbered (λ m (decl : MetaDecl). IsOfInputs st m → ⊥) n (drop n st.scope.metas)
    split_there scope is =
        let same : n ≡ length scope.metas = counted st scope n is counts in
        let behind : drop (length scope.metas) st.scope.metas ≡ is.goal_names = ap (drop (length scope.metas)) is.split ∙ drop-append_seam scope.metas is.goal_names in
        subst (λ k. AllNumbered (λ m (decl : MetaDecl). IsOfInputs st m → ⊥) k (drop k st.scope.metas)) (sym same)
        (subst (AllNumbered (λ m (decl : MetaDecl). IsOfInputs st m → ⊥) (length scope.metas)) (sym behind) is.further)

module _ (th : Theory) (system : IsPlainSystem th) where
  module _ (st : Theorem) (provable : IsProvable th st) (scope : Names) (is : IsProofScope st scope) where
    pub plain_scope : IsPlainScope scope
    plain_scope = record {
      root = is.root ∙ provable.root;
      metas = all_front (λ (m : MetaDecl). m.params ≡ []) scope.metas is.goal_names (subst HaveNoParameters is.split provable.metas);
      knowns = is.knowns;
    }

    given_form : (j : JudgmentScheme) → IsJudgmentScheme th st.scope j → ((m : ℕ) → OccursInJudgment m j → IsOfInputs st m) → IsPlainForm th scope j
    given_form j form of =
        plain_form th system scope j
        (form_in_front th system st.scope scope is.goal_names is.split provable.scope.1 j form (λ m h k. is_front st scope is m k (of m h)))

    given_forms : (inputs : List StatementInput) → AllByRecursion (IsStatementInput th st) inputs → ((m : ℕ) → AnyByRecursion (OccursInInput m) inputs → IsOfInputs st m) →
        AllByRecursion (IsPlainForm th scope) (given_judgments inputs)
    given_forms [] forms of = tt
    given_forms (given j ∷ inputs) forms of = (given_form j forms.0.0 (λ m h. of m (inl h)), given_forms inputs forms.1 (λ m h. of m (inr h)))
    given_forms (syntax_input n ∷ inputs) forms of = given_forms inputs forms.1 (λ m h. of m (inr h))

    pub plain_beginning : IsPlainProof th st scope (given_judgments st.inputs) None
    plain_beginning = record { begun = is; names = plain_scope; forms = given_forms st.inputs provable.forms.inputs (λ m h. h); last_form = tt }

  module _ (sts : List Theorem) (provable : AllByRecursion (IsProvable th) sts) where
    keeps : (at to : Standing) (step : Step) → StandsPlainly th sts at → Follows th sts at step to → StandsPlainly th sts to
    keeps (outside k) to (begin_theorem n) plain f =
        subst (StandsPlainly th sts) (sym f.leads)
        (match_from (slice_get sts k) (λ st. IsPlainProof th st f.scope (given_judgments f.st.inputs) None) f.st f.here
        (plain_beginning f.st (all_at (IsProvable th) sts k f.st provable f.here) f.scope f.is_scope))
    keeps (outside k) to (end_theorem line) plain f = absurd f
    keeps (outside k) to (by_rule line form r on) plain f = absurd f
    keeps (within k scope scoped last) to (begin_theorem n) plain f = absurd f
    keeps (within k scope scoped last) to (end_theorem line) plain f = subst (StandsPlainly th sts) (sym f.leads) tt
    keeps (within k scope scoped last) to (by_rule line form r on) plain f =
        let got = match_some (slice_get sts k) (λ st. IsPlainProof th st scope scoped last) plain in
        let one = plain_form th system scope form f.right.form_is.in_scope in
        subst (StandsPlainly th sts) (sym f.leads)
        (match_from (slice_get sts k) (λ st. IsPlainProof th st scope (scoped ++ form ∷ []) (Some form)) got.0 got.1 (
        record {
          begun = got.2.begun;
          names = got.2.names;
          forms = all_push (IsPlainForm th scope) scoped form got.2.forms one;
          last_form = one;
        }
        ))

    pub all_keep : (steps : List Step) (at to : Standing) → StandsPlainly th sts at → Leads th sts at steps to → StandsPlainly th sts to
    all_keep [] at to plain leads = subst (StandsPlainly th sts) (leads_on th sts at to [] leads) plain
    all_keep (step ∷ steps) at to plain leads =
        let a = leads_on th sts at to (step ∷ steps) leads in
        all_keep steps a.0 to (keeps at a.0 step plain a.1) a.2
