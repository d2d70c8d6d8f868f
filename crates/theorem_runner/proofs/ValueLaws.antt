-- A theorem has one value on inputs that instantiate it, and this derives the conclusion.
use Rattle.std.proofs.Common.{◌≡◌, ℕ, suc, List, [], ◌∷◌, length, None, refl, ap, ◌∙◌, sym, subst}
use Rattle.std.specs.List.{AllByRecursion, AllZip}
use Rattle.std.proofs.lemmas.Option.{same_Some}
use Rattle.scheme_terms.specs.Forms.{Names, Instance, ContextValue}
use Rattle.scheme_terms.specs.declared.scheme.Root.TheVariants.{Closed}
use Rattle.pattern_unify.proofs.PlainSchemes.{all_at}
use Rattle.rule_schemes.specs.Plain.{IsPlainSystem}
use Rattle.rule_schemes.specs.Rules.{JudgmentScheme, Rule, Theory, IsJudgmentScheme, rule_names}
use Rattle.rule_schemes.specs.Derivation.{Derivation}
use Rattle.rule_schemes.specs.Statement.{StatementInput, given, syntax_input, Theorem, InputTree, derived, term, IsGiven, IsInstantiation, DeriveConclusions, given_value}
use Rattle.core_proofs.specs.Laws.{SpeaksOfNoContext, AreDerived, DerivesGoal}
use Rattle.core_proofs.specs.Plain.{IsPlainForm}
use Rattle.core_proofs.specs.Step.{Step}
use Rattle.proof_trees.specs.Right.{IsProofScope}
use Rattle.core_proofs.specs.Proof.{given_judgments, outside, within, Leads}
use Rattle.core_proofs.specs.Provable.{IsProvable}
use Rattle.core_proofs.specs.Value.{given_trees, Makes, HasValue}
use Rattle.core_proofs.proofs.Made.{makes_derives}
use Rattle.core_proofs.proofs.Moving.{one_scope}
use Rattle.core_proofs.proofs.PlainForms.{plain_rule_at}
use Rattle.core_proofs.proofs.Keeping.{plain_scope}
use Rattle.theorem_runner.specs.Instances.{Gives}
use Rattle.theorem_runner.specs.Laws.{ArePlainProofs, ValueExists, ValueIsOne, ValueDerives}
use Rattle.theorem_runner.proofs.Bodies.{HasBody, proof_of, one_body}
use Rattle.theorem_runner.proofs.Concluding.{concludes}
use Rattle.theorem_runner.proofs.OneInstance.{one_instance}
use Rattle.theorem_runner.proofs.Restricting.{restricted, restricted_gives, same_given, of_inputs_below}
use Rattle.theorem_runner.proofs.Values.{makes_some, makes_one}
use Rattle.binding_terms.proofs.Lists.{all_from_places}

-- as many derivations are given as there are forms of derivations
pub given_count : (th : Theory) (inst : Instance) (inputs : List StatementInput) (xs : List InputTree) → AllZip (IsGiven th inst) inputs xs →
    length (given_judgments inputs) ≡ length (given_trees xs)
given_count th inst [] [] h = refl
given_count th inst [] (x ∷ xs) h = absurd h
given_count th inst (i ∷ inputs) [] h = absurd h
given_count th inst (given j ∷ inputs) (derived d ∷ xs) h = ap suc (given_count th inst inputs xs h.1)
given_count th inst (given j ∷ inputs) (term t ∷ xs) h = absurd h.0
given_count th inst (syntax_input m ∷ inputs) (derived d ∷ xs) h = absurd h.0
given_count th inst (syntax_input m ∷ inputs) (term t ∷ xs) h = given_count th inst inputs xs h.1

-- and they are derivations of the instances
given_derived : (th : Theory) (inst : Instance) (inputs : List StatementInput) (xs : List InputTree) → AllZip (IsGiven th inst) inputs xs →
    AreDerived th inst (given_judgments inputs) (given_trees xs)
given_derived th inst [] [] h = tt
given_derived th inst [] (x ∷ xs) h = absurd h
given_derived th inst (i ∷ inputs) [] h = absurd h
given_derived th inst (given j ∷ inputs) (derived d ∷ xs) h = (h.0, given_derived th inst inputs xs h.1)
given_derived th inst (given j ∷ inputs) (term t ∷ xs) h = absurd h.0
given_derived th inst (syntax_input m ∷ inputs) (derived d ∷ xs) h = absurd h.0
given_derived th inst (syntax_input m ∷ inputs) (term t ∷ xs) h = given_derived th inst inputs xs h.1

-- the forms of a proof's beginning are those of the statement with its number
pub body_leads : (th : Theory) (sts : List Theorem) (steps : List Step) (k : ℕ) (st : Theorem) (b : HasBody th sts steps k (outside (length sts))) → b.st ≡ st →
    IsProofScope st b.scope × Leads th sts (within k b.scope (given_judgments st.inputs) None) b.body (outside (length sts))
body_leads th sts steps k st b same = (
  subst (λ (s : Theorem). IsProofScope s b.scope) same b.is_scope,
  subst (λ (s : Theorem). Leads th sts (within k b.scope (given_judgments s.inputs) None) b.body (outside (length sts))) same b.leads,
)

pub value_exists : ValueExists
value_exists th sts steps k st v xs plain here inputs =
    let b = proof_of th sts steps k st plain.proves here in
    let same : b.st ≡ st = same_Some b.st st (sym b.here ∙ here) in
    let provable = all_at (IsProvable th) sts k st plain.provable here in
    let body = body_leads th sts steps k st b same in
    let gives = restricted_gives th plain.system st provable b.scope body.0 v xs inputs.0 inputs.1 in
    let made = makes_some th sts (restricted inputs.0 b.scope) b.body k (length sts) b.scope (given_judgments st.inputs) None (given_trees xs) None body.1
    (given_count th (restricted inputs.0 b.scope) st.inputs xs gives.1.inputs) tt in (
      made.0,
      record {
        statement = st;
        here = here;
        before = b.before;
        body = b.body;
        split = b.split;
        scope = b.scope;
        is_scope = body.0;
        inst = restricted inputs.0 b.scope;
        sets = gives.0;
        fits = gives.1;
        makes = made.1;
      },
    )

-- a value is that of the statement with the number, in any scope of it
gives_in : (th : Theory) (st other : Theorem) (scope old : Names) (v : ContextValue) (xs : List InputTree) (inst : Instance) → other ≡ st → old ≡ scope →
    Gives th other old v xs inst → Gives th st scope v xs inst
gives_in th st other scope old v xs inst same alike gives =
    subst (λ (n : Names). Gives th st n v xs inst) alike (subst (λ (s : Theorem). Gives th s old v xs inst) same gives)

pub value_is_one : ValueIsOne
value_is_one th sts steps k v xs d e plain h g =
    let same : g.statement ≡ h.statement = same_Some g.statement h.statement (sym g.here ∙ h.here) in
    let provable = all_at (IsProvable th) sts k h.statement plain.provable h.here in
    let alike : g.scope ≡ h.scope = one_scope h.statement g.scope h.scope (subst (λ (s : Theorem). IsProofScope s g.scope) same g.is_scope) h.is_scope in
    let gives = gives_in th h.statement g.statement h.scope g.scope v xs g.inst same alike (g.sets, g.fits) in
    let inst : g.inst ≡ h.inst = one_instance th plain.system h.statement provable h.scope h.is_scope v xs g.inst h.inst gives (h.sets, h.fits) in
    let body : g.body ≡ h.body = one_body th sts steps g.before h.before g.body h.body k (outside 0) (outside (length sts)) plain.proves g.split h.split in
    let makes = subst (λ ss. Makes th h.inst (given_trees xs) None ss e) body (subst (λ (i : Instance). Makes th i (given_trees xs) None g.body e) inst g.makes) in
    makes_one th h.inst h.body (given_trees xs) None d e h.makes makes

premise_facts : (th : Theory) (names : Names) (ps : List JudgmentScheme) → AllByRecursion (IsPlainForm th names) ps →
    AllByRecursion (λ p. p.context.root ≡ Closed) ps × AllByRecursion (IsJudgmentScheme th names) ps
premise_facts th names [] h = (tt, tt)
premise_facts th names (p ∷ ps) h = let rest = premise_facts th names ps h.1 in ((h.0.root, rest.0), (h.0.in_scope, rest.1))

no_context : (th : Theory) → IsPlainSystem th → SpeaksOfNoContext th
no_context th system =
    all_from_places (λ (rule : Rule). (rule.conclusion.context.root ≡ Closed) × AllByRecursion (λ p. p.context.root ≡ Closed) rule.premises
    × IsJudgmentScheme th (rule_names rule) rule.conclusion × AllByRecursion (IsJudgmentScheme th (rule_names rule)) rule.premises) th.rules
    (λ r rule here. let plain = plain_rule_at th system r rule here in
    let premises = premise_facts th (rule_names rule) rule.premises plain.premises in
    (plain.conclusion.root, premises.0, plain.conclusion.in_scope, premises.1))

-- the value derives the goal
derives_goal : (th : Theory) (sts : List Theorem) (steps : List Step) (k : ℕ) (v : ContextValue) (xs : List InputTree) (d : Derivation) → ArePlainProofs th sts steps →
    (h : HasValue th sts steps k v xs d) → DerivesGoal th h.statement h.scope h.inst d
derives_goal th sts steps k v xs d plain h =
    let provable = all_at (IsProvable th) sts k h.statement plain.provable h.here in
    let b = proof_of th sts steps k h.statement plain.proves h.here in
    let same : b.st ≡ h.statement = same_Some b.st h.statement (sym b.here ∙ h.here) in
    let body = body_leads th sts steps k h.statement b same in
    let alike : b.scope ≡ h.scope = one_scope h.statement b.scope h.scope body.0 h.is_scope in
    let steps_same : b.body ≡ h.body = one_body th sts steps b.before h.before b.body h.body k (outside 0) (outside (length sts)) plain.proves b.split h.split in
    let leads = subst (λ ss. Leads th sts (within k h.scope (given_judgments h.statement.inputs) None) ss (outside (length sts))) steps_same
    (subst (λ (n : Names). Leads th sts (within k n (given_judgments h.statement.inputs) None) b.body (outside (length sts))) alike body.1) in
    let scope = plain_scope th plain.system h.statement provable h.scope h.is_scope in
    makes_derives th sts k h.statement h.scope h.inst (given_judgments h.statement.inputs) None (given_trees xs) None h.body (outside (length sts)) d
    (no_context th plain.system) h.here scope.root scope.knowns h.sets tt (given_derived th h.inst h.statement.inputs xs h.fits.inputs) leads h.makes

pub value_derives : ValueDerives
value_derives th sts steps k st v xs inst d plain here gives h =
    let same : h.statement ≡ st = same_Some h.statement st (sym h.here ∙ here) in
    let provable = all_at (IsProvable th) sts k h.statement plain.provable h.here in
    let again : IsInstantiation th h.statement v inst xs = subst (λ (s : Theorem). IsInstantiation th s v inst xs) (sym same) gives in
    let one : h.inst ≡ restricted inst h.scope =
    one_instance th plain.system h.statement provable h.scope h.is_scope v xs h.inst (restricted inst h.scope) (h.sets, h.fits)
    (restricted_gives th plain.system h.statement provable h.scope h.is_scope v xs inst again) in
    let all = concludes th plain.system h.statement provable h.scope h.is_scope v xs h.inst (h.sets, h.fits) d (derives_goal th sts steps k v xs d plain h) in
    let mine : DeriveConclusions th h.statement inst (d ∷ []) = record {
      more = all.more;
      root = all.root ∙ h.fits.value ∙ sym again.value;
      same = λ m of. all.same m of ∙ ap (λ (i : Instance). given_value i m) one
          ∙ same_given inst h.scope m (of_inputs_below th plain.system h.statement provable h.scope h.is_scope m of);
      fits = all.fits;
      outputs = all.outputs;
    } in
    subst (λ (s : Theorem). DeriveConclusions th s inst (d ∷ [])) same mine
