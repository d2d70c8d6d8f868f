-- Over a theory without contexts, a node of a rule is what the matching of its forms finds.
use Rattle.std.proofs.Common.{◌≡◌, ◌↔◌, ◌<◌, ℕ, get_or, IsTrue, List, [], ◌∷◌, ◌++◌, length, map, refl, ap, ◌∙◌, sym, subst, Some, None, slice_get, option_map, inl, inr, arith, true≢false}
use Rattle.std.specs.Prelude.{Option, MatchOption, is_some}
use Rattle.std.specs.List.{AllByRecursion, AllZip}
use Rattle.std.proofs.lemmas.Option.{slice_get-map, slice_get-get_or}
use Rattle.rule_schemes.specs.View.{rule}
use Rattle.rule_schemes.specs.declared.rule.RuleScheme.{RuleScheme}
use Rattle.binding_terms.specs.Signature.{Signature, slots}
use Rattle.binding_terms.specs.Numbered.{AnyByRecursion}
use Rattle.scheme_terms.specs.Forms.{Names, ContextValue, Instance}
use Rattle.scheme_terms.specs.Context.{IsValue}
use Rattle.scheme_terms.specs.Instance.{IsKnownPlace}
use Rattle.scheme_terms.specs.SchemeScope.{AreSchemes, entry_variables, IsSchemeContext, IsRoot, AreExplicitEntries}
use Rattle.scheme_terms.specs.View.{instance}
use Rattle.scheme_terms.specs.declared.scheme.Inst.{Inst}
use Rattle.scheme_terms.specs.declared.scheme.MetaDecl.{MetaDecl}
use Rattle.scheme_terms.specs.declared.scheme.Root.{Root}
use Rattle.scheme_terms.specs.declared.scheme.Root.TheVariants.{Closed}
use Rattle.binding_terms.specs.declared.grammar.CatId.{CatId}
use Rattle.rule_schemes.specs.declared.rule.Judgment.{Judgment}
use Rattle.rule_schemes.specs.Rules.{JudgmentScheme, JudgmentValue, Rule, Theory, IsJudgment, IsJudgmentScheme, IsRootOf, IsAssumption, IsOneEntry, IsItsEntry, IsSystemSoFar, RuleFits, StrictInJudgment, StrictInRule, argument_slots, root_of, rule_names}
use Rattle.rule_schemes.specs.Derivation.{Derivation, node, leaf, judgment, Subtrees, Derives, IsNodeOf, IsLeaf, AreInstances}
use Rattle.rule_schemes.proofs.DerivationLemmas.{derives_a_judgment}
use Rattle.derivation_check.specs.Parts.{subtrees_of}
use Rattle.scheme_match.proofs.Fitting.{forms_fit}
use Rattle.scheme_match.specs.Matching.{judgments, Matching, JudgmentsFit, MakesEqual, IsMatch, IsOnlyMatch, StrictInPair, AreStrict}
use Rattle.derivation_text.specs.Bare.{HasNoContexts}
use Rattle.derivation_text.specs.Making.{premise_pairs, with_premises, PremiseFits, HasNoTree}
use Rattle.derivation_text.specs.Valid.{IsMade, nothing_around}
use Rattle.binding_terms.proofs.Lists.{all_found, numbered_weaker, zip_empty}
use Rattle.rule_schemes.proofs.PlainLemmas.{is_closed}

abbrev no_value : ContextValue
no_value = nothing_around.value

any_pair : (m : ℕ) (ps : List JudgmentScheme) (ds : List Derivation) → length ps ≡ length ds → AnyByRecursion (StrictInJudgment m) ps
    → AnyByRecursion (StrictInPair m) (premise_pairs ps ds)
any_pair m [] ds e any = absurd any
any_pair m (p ∷ ps) [] e any = absurd (omega arith)
any_pair m (p ∷ ps) (d ∷ ds) e (inl here) = inl here
any_pair m (p ∷ ps) (d ∷ ds) e (inr rest) = inr (any_pair m ps ds (omega arith) rest)

instances_long : (inst : Instance) (ps : List JudgmentScheme) (ds : List Derivation) → AreInstances inst ps (subtrees_of ds) → length ps ≡ length ds
instances_long inst [] [] h = refl
instances_long inst [] (d ∷ ds) h = absurd h
instances_long inst (p ∷ ps) [] h = absurd h
instances_long inst (p ∷ ps) (d ∷ ds) h = (let e = instances_long inst ps ds h.1 in omega arith)

instances_from : (inst : Instance) (ps : List JudgmentScheme) (ds : List Derivation) → length ps ≡ length ds → AllByRecursion (MakesEqual inst) (premise_pairs ps ds)
    → AreInstances inst ps (subtrees_of ds)
instances_from inst [] [] e h = tt
instances_from inst [] (d ∷ ds) e h = absurd (omega arith)
instances_from inst (p ∷ ps) [] e h = absurd (omega arith)
instances_from inst (p ∷ ps) (d ∷ ds) e h = (h.0, instances_from inst ps ds (omega arith) h.1)

instances_to : (inst : Instance) (ps : List JudgmentScheme) (ds : List Derivation) → AreInstances inst ps (subtrees_of ds) → AllByRecursion (MakesEqual inst) (premise_pairs ps ds)
instances_to inst [] ds h = tt
instances_to inst (p ∷ ps) [] h = absurd h
instances_to inst (p ∷ ps) (d ∷ ds) h = (h.0, instances_to inst ps ds h.1)

module _ (th : Theory) (bare : HasNoContexts th) where
  abbrev FormFits : Names → JudgmentScheme → Judgment → Type 0
  FormFits names j form =
      IsRootOf form.ctx j.context.root × IsSchemeContext th.sig names j.context
      × AreSchemes th.sig names (entry_variables th.sig [] j.context.entries) (argument_slots form.ctx (slots form.items)) j.args

  pub form_closed : (names : Names) (j : JudgmentScheme) → IsJudgmentScheme th names j → (j.context.root ≡ Closed) × (j.context.entries ≡ [])
  form_closed names j h =
      let at = all_found th.judgments j.judgment bare.judgments h in
      let root : j.context.root ≡ Closed = is_closed j.context.root (subst (λ (ctx : Option CatId). IsRootOf ctx j.context.root) at.1 at.2.0) in
      (root, subst (λ (r : Root). AreExplicitEntries th.sig names r j.context.entries) root at.2.1)

  pub value_closed : (v : JudgmentValue) → IsJudgment th v → v.context ≡ no_value
  value_closed v h =
      let at = all_found th.judgments v.judgment bare.judgments h in
      let value = subst (λ (ctx : Option CatId). IsValue th.sig (root_of ctx) v.context) at.1 at.2.0 in
      λ i. record { cat = value.0 i; entries = value.1 i }

  pub judgments_fit : (names : Names) (j : JudgmentScheme) (v : JudgmentValue) → IsJudgmentScheme th names j → IsJudgment th v
      → j.judgment ≡ v.judgment → JudgmentsFit th.sig names.metas j v
  judgments_fit names j v h = forms_fit th names j v (subst (IsRoot th.sig) (sym (form_closed names j h).0) tt) h

  pub premises_fit : (so_far : IsSystemSoFar th) (names : Names) (ps : List JudgmentScheme) (ds : List Derivation) → length ps ≡ length ds
      → AllByRecursion (IsJudgmentScheme th names) ps → AllByRecursion (Derives th) ds → AllZip (PremiseFits th.sig names.metas) ps ds
  premises_fit so_far names [] [] e forms all = tt
  premises_fit so_far names [] (d ∷ ds) e forms all = absurd (omega arith)
  premises_fit so_far names (p ∷ ps) [] e forms all = absurd (omega arith)
  premises_fit so_far names (p ∷ ps) (d ∷ ds) e forms all =
      (judgments_fit names p (judgment d) forms.0 (derives_a_judgment th d so_far all.0), premises_fit so_far names ps ds (omega arith) forms.1 all.1)

  not_assumption : (r : Rule) → RuleFits th r → IsAssumption r → ⊥
  not_assumption r fits h =
      subst (λ (root : Root). IsOneEntry root r.conclusion.context.entries) (form_closed (rule_names r) r.conclusion fits.forms.conclusion).0 h

  abbrev pub rule_matching : Rule → JudgmentValue → List Derivation → Matching
  rule_matching r v ds =
      record { sig = th.sig; metas = r.metas; knowns = []; root = no_value; pairs = judgments r.conclusion v ∷ premise_pairs r.premises ds }

  strict_pairs : (r : Rule) (v : JudgmentValue) (ds : List Derivation) (m : ℕ) → RuleFits th r → length r.premises ≡ length ds → StrictInRule r m
      → AnyByRecursion (StrictInPair m) (judgments r.conclusion v ∷ premise_pairs r.premises ds)
  strict_pairs r v ds m fits e (inl h) = absurd (not_assumption r fits h.0)
  strict_pairs r v ds m fits e (inr h) = elim h.1 [ inl any ↦ inr (any_pair m r.premises ds e any) | inr here ↦ inl here ]

  pub are_strict : (r : Rule) (v : JudgmentValue) (ds : List Derivation) → RuleFits th r → length r.premises ≡ length ds → AreStrict (rule_matching r v ds)
  are_strict r v ds fits e = numbered_weaker (λ m decl h. strict_pairs r v ds m fits e h) 0 r.metas fits.strict

  from_match : (r : Rule) (v : JudgmentValue) (ds : List Derivation) (inst : Instance) → RuleFits th r → length r.premises ≡ length ds → v.context ≡ no_value
      → IsMatch (rule_matching r v ds) inst → IsNodeOf th v (subtrees_of ds) r
  from_match r v ds inst fits e ctx is_match =
      record {
        ordinary = not_assumption r fits;
        inst = inst;
        root = is_match.root ∙ sym ctx;
        scope =
            record {
              root = subst (λ (root : Root). IsValue th.sig root inst.root) (sym (form_closed (rule_names r) r.conclusion fits.forms.conclusion).0)
                  (ap (λ (w : ContextValue). w.cat) is_match.root, ap (λ (w : ContextValue). w.entries) is_match.root);
              metas = is_match.metas;
              knowns = subst (λ (ks : List (Option ℕ)). AllZip (IsKnownPlace inst) [] ks) (sym is_match.knowns) tt;
            };
        conclusion = is_match.pairs.0;
        premises = instances_from inst r.premises ds e is_match.pairs.1;
      }

  to_match : (r : Rule) (v : JudgmentValue) (ds : List Derivation) → v.context ≡ no_value → (n : IsNodeOf th v (subtrees_of ds) r) → IsMatch (rule_matching r v ds) n.inst
  to_match r v ds ctx n =
      record {
        root = n.root ∙ ctx;
        metas = n.scope.metas;
        knowns = zip_empty (IsKnownPlace n.inst) n.inst.knowns n.scope.knowns;
        pairs = (n.conclusion, instances_to n.inst r.premises ds n.premises);
      }

  pub decided : (r : Rule) (v : JudgmentValue) (ds : List Derivation) (answer : Option Inst) → RuleFits th r → length r.premises ≡ length ds → v.context ≡ no_value
      → IsOnlyMatch (rule_matching r v ds) (option_map instance answer) → IsTrue (is_some answer) ↔ IsNodeOf th v (subtrees_of ds) r
  decided r v ds None fits e ctx only = (λ h. absurd (true≢false (sym h)), λ n. absurd (only n.inst (to_match r v ds ctx n)))
  decided r v ds (Some inst) fits e ctx only = (λ h. from_match r v ds (instance inst) fits e ctx only.0, λ n. refl)

  pub other_length : (r : Rule) (v : JudgmentValue) (ds : List Derivation) → (length r.premises ≡ length ds → ⊥) → IsNodeOf th v (subtrees_of ds) r → ⊥
  other_length r v ds differ n = differ (instances_long n.inst r.premises ds n.premises)

  pub final_is : (r : Rule) (v : JudgmentValue) (ds : List Derivation) (sig : Signature) (metas : List MetaDecl) (root : ContextValue) (ps : List JudgmentScheme) (first second last : Matching)
      → first ≡ record { sig = sig; metas = metas; knowns = []; root = root; pairs = [] } → second ≡ record first { pairs = first.pairs ++ judgments r.conclusion v ∷ [] }
      → last ≡ with_premises second ps ds → sig ≡ th.sig → metas ≡ r.metas → root ≡ no_value → ps ≡ r.premises → last ≡ rule_matching r v ds
  final_is r v ds sig metas root ps first second last e f g s m o p =
      g ∙ ap (λ (x : Matching). with_premises x ps ds) (f ∙ ap (λ (x : Matching). record x { pairs = x.pairs ++ judgments r.conclusion v ∷ [] }) e)
      ∙ (λ i. record { sig = s i; metas = m i; knowns = []; root = o i; pairs = judgments r.conclusion v ∷ premise_pairs (p i) ds })

  pub no_leaf : (so_far : IsSystemSoFar th) (r : ℕ) (v : JudgmentValue) (place : ℕ) → IsLeaf th r v place → ⊥
  no_leaf so_far r v place h =
      let at = all_found th.rules r so_far.rules h in
      let its = at.0 in
      subst (λ (root : Root). IsItsEntry at.2.inst place root its.conclusion.context.entries) (form_closed (rule_names its) its.conclusion at.1.forms.conclusion).0 at.2.entry

  pub no_tree : (so_far : IsSystemSoFar th) (r : ℕ) (v : JudgmentValue) (ds : List Derivation) (rule : Rule) → slice_get th.rules r ≡ Some rule
      → (IsNodeOf th v (subtrees_of ds) rule → ⊥) → HasNoTree th r v ds
  no_tree so_far r v ds rule e none (node q k es) h =
      none (subst (λ (ts : Subtrees). IsNodeOf th v ts rule) h.2 (subst (λ (o : Option Rule). MatchOption o ⊥ (IsNodeOf th v es)) e h.3))
  no_tree so_far r v ds rule e none (leaf q k place) h = no_leaf so_far r v place h.3

  pub made_is : (r q : ℕ) (v : JudgmentValue) (ds : List Derivation) (rule : Rule) → slice_get th.rules r ≡ Some rule → q ≡ r → IsNodeOf th v (subtrees_of ds) rule
      → IsMade th r v ds (node q v (subtrees_of ds))
  made_is r q v ds rule e f n = (f, refl, refl, subst (λ (o : Option Rule). MatchOption o ⊥ (IsNodeOf th v (subtrees_of ds))) (sym e) n)

  pub fit_over : (so_far : IsSystemSoFar th) (r : Rule) (ds : List Derivation) (sig : Signature) (metas : List MetaDecl) (ps : List JudgmentScheme) → RuleFits th r
      → length r.premises ≡ length ds → AllByRecursion (Derives th) ds → sig ≡ th.sig → metas ≡ r.metas → ps ≡ r.premises → AllZip (PremiseFits sig metas) ps ds
  fit_over so_far r ds sig metas ps fits e all s m p =
      subst (λ (x : Signature). AllZip (PremiseFits x metas) ps ds) (sym s)
      (subst (λ (x : List MetaDecl). AllZip (PremiseFits th.sig x) ps ds) (sym m)
      (subst (λ (x : List JudgmentScheme). AllZip (PremiseFits th.sig r.metas) x ds) (sym p)
      (premises_fit so_far (rule_names r) r.premises ds e fits.forms.premises all)))

-- the rule that is looked up
pub rule_at : (rules items : List RuleScheme) (n : ℕ) (r : RuleScheme) → items ≡ rules → r ≡ get_or items n r → n < length rules → slice_get (map rule rules) n ≡ Some (rule r)
rule_at rules items n r e h within =
    slice_get-map rule rules n ∙ ap (option_map rule) (slice_get-get_or rules n r within ∙ ap Some (sym (h ∙ ap (λ (xs : List RuleScheme). get_or xs n r) e)))

pub over_matching : (th : Theory) (j : JudgmentScheme) (v : JudgmentValue) (m : Matching) (metas : List MetaDecl) → m.sig ≡ th.sig → m.metas ≡ metas
    → (j.judgment ≡ v.judgment → JudgmentsFit th.sig metas j v) → j.judgment ≡ v.judgment → JudgmentsFit m.sig m.metas j v
over_matching th j v m metas s e fit same =
    subst (λ (x : Signature). JudgmentsFit x m.metas j v) (sym s) (subst (λ (x : List MetaDecl). JudgmentsFit th.sig x j v) (sym e) (fit same))
