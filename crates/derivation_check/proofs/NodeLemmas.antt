-- A node of an ordinary rule is what the matching of its forms finds.
use Rattle.std.proofs.Common.{◌≡◌, ◌↔◌, ℕ, IsTrue, List, [], ◌∷◌, ◌++◌, length, refl, ap, ◌∙◌, sym, subst, Some, None, slice_get, option_map, inl, inr, arith, true≢false}
use Rattle.std.specs.Prelude.{Option, is_some}
use Rattle.std.specs.List.{AllByRecursion, AllZip}
use Rattle.std.proofs.lemmas.Option.{slice_get-map, slice_get-get_or}
use Rattle.binding_terms.specs.Signature.{Signature}
use Rattle.binding_terms.specs.Numbered.{AnyByRecursion}
use Rattle.binding_terms.specs.declared.grammar.CatId.{CatId}
use Rattle.binding_terms.proofs.Lists.{all_found, all_also, all_zipped, match_some, match_map, match_at, found_with, numbered_weaker, zip_empty}
use Rattle.scheme_terms.specs.Forms.{Names, ContextValue, Instance, SchemeEntry}
use Rattle.scheme_terms.specs.Context.{IsValue, AreEntries}
use Rattle.scheme_terms.specs.Instance.{IsKnownPlace}
use Rattle.scheme_terms.specs.SchemeScope.{IsRoot, StandsWith}
use Rattle.scheme_terms.specs.View.{instance}
use Rattle.scheme_terms.specs.declared.scheme.Inst.{Inst}
use Rattle.scheme_terms.specs.declared.scheme.MetaDecl.{MetaDecl}
use Rattle.scheme_terms.specs.declared.scheme.Root.{Root}
use Rattle.scheme_terms.specs.declared.scheme.Root.TheVariants.{Closed, Empty, Whole}
use Rattle.rule_schemes.specs.declared.rule.Judgment.{Judgment}
use Rattle.rule_schemes.specs.Rules.{JudgmentScheme, JudgmentValue, Rule, Theory, IsJudgment, IsJudgmentScheme, IsRootOf, IsAssumption, IsOneEntry, IsBareName, IsSystemSoFar, JudgmentFits, RuleFits, StrictInJudgment, StrictInRule, root_of, rule_names}
use Rattle.rule_schemes.specs.Derivation.{Derivation, node, leaf, judgment, Subtrees, IsNodeOf, AreInstances}
use Rattle.rule_schemes.proofs.DerivationLemmas.{derives_a_judgment}
use Rattle.scheme_match.proofs.Fitting.{forms_fit}
use Rattle.scheme_match.specs.Matching.{judgments, Matching, JudgmentsFit, MakesEqual, IsMatch, IsOnlyMatch, StrictInPair, AreStrict}
use Rattle.derivation_check.specs.Nodes.{IsRightNode}
use Rattle.derivation_check.specs.Parts.{subtrees_of}
use Rattle.derivation_check.specs.Pairs.{premise_pairs, with_premises, PremiseFits}
use Rattle.derivation_check.proofs.Instances.{premise_judgment, premise_judgments, rule_root_is, of_empty, of_whole}
use Rattle.derivation_check.proofs.Sums.{listed_again}

any_pair : (m : ℕ) (ps : List JudgmentScheme) (ds : List Derivation) → length ps ≡ length ds → AnyByRecursion (StrictInJudgment m) ps
    → AnyByRecursion (StrictInPair m) (premise_pairs ps ds)
any_pair m [] ds e any = absurd any
any_pair m (p ∷ ps) [] e any = absurd (omega arith)
any_pair m (p ∷ ps) (d ∷ ds) e (inl here) = inl here
any_pair m (p ∷ ps) (d ∷ ds) e (inr rest) = inr (any_pair m ps ds (omega arith) rest)

instances_long : (inst : Instance) (ps : List JudgmentScheme) (ds : List Derivation) → AreInstances inst ps (subtrees_of ds) → length ps ≡ length ds
instances_long inst [] [] h = refl
instances_long inst [] (d ∷ ds) h = absurd h
instances_long inst (p ∷ ps) [] h = absurd h
instances_long inst (p ∷ ps) (d ∷ ds) h = (let e = instances_long inst ps ds h.1 in omega arith)

instances_from : (inst : Instance) (ps : List JudgmentScheme) (ds : List Derivation) → length ps ≡ length ds → AllByRecursion (MakesEqual inst) (premise_pairs ps ds)
    → AreInstances inst ps (subtrees_of ds)
instances_from inst [] [] e h = tt
instances_from inst [] (d ∷ ds) e h = absurd (omega arith)
instances_from inst (p ∷ ps) [] e h = absurd (omega arith)
instances_from inst (p ∷ ps) (d ∷ ds) e h = (h.0, instances_from inst ps ds (omega arith) h.1)

instances_to : (inst : Instance) (ps : List JudgmentScheme) (ds : List Derivation) → AreInstances inst ps (subtrees_of ds) → AllByRecursion (MakesEqual inst) (premise_pairs ps ds)
instances_to inst [] ds h = tt
instances_to inst (p ∷ ps) [] h = absurd h
instances_to inst (p ∷ ps) (d ∷ ds) h = (h.0, instances_to inst ps ds h.1)

-- the conclusion of an ordinary rule is bare
pub bare_conclusion : (th : Theory) (r : Rule) → RuleFits th r → (IsAssumption r → ⊥) → IsBareName r.conclusion.context.root r.conclusion.context.entries
bare_conclusion th r fits ordinary = elim fits.good_conclusion [ inl bare ↦ bare | inr h ↦ absurd (ordinary h.0) ]

-- a value of the root that the judgment assumes is one of the form's root, where that is no empty form
abbrev pub IsNoEmptyForm : Root → Type 0
IsNoEmptyForm Closed = Unit {0}
IsNoEmptyForm (Empty c) = ⊥
IsNoEmptyForm (Whole c) = Unit {0}

value_of_root : (th : Theory) (ctx : Option CatId) (root : Root) (v : ContextValue) → IsNoEmptyForm root → IsRootOf ctx root → IsValue th.sig (root_of ctx) v → IsValue th.sig root v
value_of_root th None Closed v some is value = value
value_of_root th (Some c) Closed v some is value = absurd is
value_of_root th ctx (Empty d) v some is value = absurd some
value_of_root th None (Whole d) v some is value = absurd is
value_of_root th (Some c) (Whole d) v some is value =
    (value.0 ∙ ap (λ n. Some n) (sym is), subst (λ n. AreEntries th.sig n [] v.entries) (sym is) value.1)

pub judged_root : (th : Theory) (names : Names) (j : JudgmentScheme) (v : JudgmentValue) → IsNoEmptyForm j.context.root → IsJudgmentScheme th names j → IsJudgment th v
    → j.judgment ≡ v.judgment → IsValue th.sig j.context.root v.context
judged_root th names j v some form judged same =
    let at = match_some (slice_get th.judgments j.judgment) _ form in
    let judged_there = match_some (slice_get th.judgments v.judgment) _ judged in
    let one : Some at.0 ≡ Some judged_there.0 = sym at.1 ∙ ap (slice_get th.judgments) same ∙ judged_there.1 in
    let forms : at.0 ≡ judged_there.0 = Rattle.std.proofs.lemmas.Option.same_Some at.0 judged_there.0 one in
    value_of_root th at.0.ctx j.context.root v.context some at.2.0
    (subst (λ (f : Judgment). IsValue th.sig (root_of f.ctx) v.context) (sym forms) judged_there.2.0)

pub bare_no_empty : (root : Root) (es : List SchemeEntry) → IsBareName root es → IsNoEmptyForm root
bare_no_empty Closed es h = tt
bare_no_empty (Whole c) es h = tt
bare_no_empty (Empty c) es h = absurd h

pub one_no_empty : (root : Root) (es : List SchemeEntry) → IsOneEntry root es → IsNoEmptyForm root
one_no_empty Closed es h = tt
one_no_empty (Whole c) es h = tt
one_no_empty (Empty c) es h = absurd h

module _ (th : Theory) (so_far : IsSystemSoFar th) where
  pub form_of : (names : Names) (j : JudgmentScheme) → IsJudgmentScheme th names j → (form : Judgment) × (slice_get th.judgments j.judgment ≡ Some form) × IsRootOf form.ctx j.context.root × JudgmentFits th.sig form
  form_of names j h =
      let at = match_some (slice_get th.judgments j.judgment) _ h in
      (at.0, at.1, at.2.0, Rattle.binding_terms.proofs.Lists.all_at (JudgmentFits th.sig) th.judgments j.judgment at.0 so_far.judgments at.1)

  pub form_root : (form : Judgment) (root : Root) → JudgmentFits th.sig form → IsRootOf form.ctx root → IsRoot th.sig root
  form_root form Closed fits is = tt
  form_root form (Empty c) fits is = of_empty th.sig form.ctx c form refl is fits
  form_root form (Whole c) fits is = of_whole th.sig form.ctx c form refl is fits

  pub judgments_fit : (names : Names) (j : JudgmentScheme) (v : JudgmentValue) → IsJudgmentScheme th names j → IsJudgment th v → j.judgment ≡ v.judgment → JudgmentsFit th.sig names.metas j v
  judgments_fit names j v h judged =
      let form = form_of names j h in
      forms_fit th names j v (form_root form.0 j.context.root form.3 form.2) h judged

  pub premises_fit : (names : Names) (ps : List JudgmentScheme) (ds : List Derivation) → length ps ≡ length ds
      → AllByRecursion (IsJudgmentScheme th names) ps → AllByRecursion (λ d. IsJudgment th (judgment d)) ds → AllZip (PremiseFits th.sig names.metas) ps ds
  premises_fit names [] [] e forms all = tt
  premises_fit names [] (d ∷ ds) e forms all = absurd (omega arith)
  premises_fit names (p ∷ ps) [] e forms all = absurd (omega arith)
  premises_fit names (p ∷ ps) (d ∷ ds) e forms all = (judgments_fit names p (judgment d) forms.0 all.0, premises_fit names ps ds (omega arith) forms.1 all.1)

  abbrev pub rule_matching : Rule → JudgmentValue → List Derivation → Matching
  rule_matching r v ds =
      record { sig = th.sig; metas = r.metas; knowns = []; root = v.context; pairs = judgments r.conclusion v ∷ premise_pairs r.premises ds }

  module _ (r : Rule) (fits : RuleFits th r) (ordinary : IsAssumption r → ⊥) (v : JudgmentValue) where
    strict_pairs : (ds : List Derivation) (m : ℕ) → length r.premises ≡ length ds → StrictInRule r m
        → AnyByRecursion (StrictInPair m) (judgments r.conclusion v ∷ premise_pairs r.premises ds)
    strict_pairs ds m e (inl h) = absurd (ordinary h.0)
    strict_pairs ds m e (inr h) = elim h.1 [ inl any ↦ inr (any_pair m r.premises ds e any) | inr here ↦ inl here ]

    pub are_strict : (ds : List Derivation) → length r.premises ≡ length ds → AreStrict (rule_matching r v ds)
    are_strict ds e = numbered_weaker (λ m decl h. strict_pairs ds m e h) 0 r.metas fits.strict

    from_match : (ds : List Derivation) (inst : Instance) → length r.premises ≡ length ds → IsJudgment th v → IsMatch (rule_matching r v ds) inst → IsNodeOf th v (subtrees_of ds) r
    from_match ds inst e judged is_match =
        let bare = bare_conclusion th r fits ordinary in
        record {
          ordinary = ordinary;
          inst = inst;
          root = is_match.root;
          scope =
              record {
                root = subst (IsValue th.sig r.conclusion.context.root) (sym is_match.root)
                    (judged_root th (rule_names r) r.conclusion v (bare_no_empty r.conclusion.context.root r.conclusion.context.entries bare) fits.forms.conclusion judged
                    (ap (λ (x : JudgmentValue). x.judgment) is_match.pairs.0.same));
                metas = is_match.metas;
                knowns = subst (λ (ks : List (Option ℕ)). AllZip (IsKnownPlace inst) [] ks) (sym is_match.knowns) tt;
              };
          conclusion = is_match.pairs.0;
          premises = instances_from inst r.premises ds e is_match.pairs.1;
        }

    to_match : (ds : List Derivation) → (n : IsNodeOf th v (subtrees_of ds) r) → IsMatch (rule_matching r v ds) n.inst
    to_match ds n =
        record {
          root = n.root;
          metas = n.scope.metas;
          knowns = zip_empty (IsKnownPlace n.inst) n.inst.knowns n.scope.knowns;
          pairs = (n.conclusion, instances_to n.inst r.premises ds n.premises);
        }

    pub decided : (ds : List Derivation) (answer : Option Inst) → length r.premises ≡ length ds → IsJudgment th v
        → IsOnlyMatch (rule_matching r v ds) (option_map instance answer) → IsTrue (is_some answer) ↔ IsNodeOf th v (subtrees_of ds) r
    decided ds None e judged only = (λ h. absurd (true≢false (sym h)), λ n. absurd (only n.inst (to_match ds n)))
    decided ds (Some inst) e judged only = (λ h. from_match ds (instance inst) e judged only.0, λ n. refl)

  pub other_length : (r : Rule) (v : JudgmentValue) (ds : List Derivation) → (length r.premises ≡ length ds → ⊥) → IsNodeOf th v (subtrees_of ds) r → ⊥
  other_length r v ds differ n = differ (instances_long n.inst r.premises ds n.premises)

  -- a node's judgment is one of the system, and its subtrees carry judgments of the system
  pub carried_judgments : (r : Rule) (v : JudgmentValue) (ds : List Derivation) → RuleFits th r → IsNodeOf th v (subtrees_of ds) r → AllByRecursion (λ d. IsJudgment th (judgment d)) ds
  carried_judgments r v ds fits n =
      let own = form_of (rule_names r) r.conclusion fits.forms.conclusion in
      let root = rule_root_is th r.conclusion.judgment own.0 own.1 in
      subst (AllByRecursion (λ d. IsJudgment th (judgment d))) (listed_again ds)
      (premise_judgments th so_far r n.inst n.scope (bare_conclusion th r fits n.ordinary) own.0 own.1 own.2 r.premises (subtrees_of ds) fits.forms.premises
      (subst (λ (x : Root). AllByRecursion (λ (p : JudgmentScheme). StandsWith x p.context.root) r.premises) root fits.forms.roots) n.premises)

  pub final_is : (r : Rule) (v : JudgmentValue) (ds : List Derivation) (sig : Signature) (metas : List MetaDecl) (root : ContextValue) (ps : List JudgmentScheme) (first second last : Matching)
      → first ≡ record { sig = sig; metas = metas; knowns = []; root = root; pairs = [] } → second ≡ record first { pairs = first.pairs ++ judgments r.conclusion v ∷ [] }
      → last ≡ with_premises second ps ds → sig ≡ th.sig → metas ≡ r.metas → root ≡ v.context → ps ≡ r.premises → last ≡ rule_matching r v ds
  final_is r v ds sig metas root ps first second last e f g s m o p =
      g ∙ ap (λ (x : Matching). with_premises x ps ds) (f ∙ ap (λ (x : Matching). record x { pairs = x.pairs ++ judgments r.conclusion v ∷ [] }) e)
      ∙ (λ i. record { sig = s i; metas = m i; knowns = []; root = o i; pairs = judgments r.conclusion v ∷ premise_pairs (p i) ds })

  pub fit_over : (r : Rule) (ds : List Derivation) (sig : Signature) (metas : List MetaDecl) (ps : List JudgmentScheme) → RuleFits th r
      → length r.premises ≡ length ds → AllByRecursion (λ d. IsJudgment th (judgment d)) ds → sig ≡ th.sig → metas ≡ r.metas → ps ≡ r.premises → AllZip (PremiseFits sig metas) ps ds
  fit_over r ds sig metas ps fits e all s m p =
      subst (λ (x : Signature). AllZip (PremiseFits x metas) ps ds) (sym s)
      (subst (λ (x : List MetaDecl). AllZip (PremiseFits th.sig x) ps ds) (sym m)
      (subst (λ (x : List JudgmentScheme). AllZip (PremiseFits th.sig r.metas) x ds) (sym p)
      (premises_fit (rule_names r) r.premises ds e fits.forms.premises all)))

pub over_matching : (th : Theory) (j : JudgmentScheme) (v : JudgmentValue) (m : Matching) (metas : List MetaDecl) → m.sig ≡ th.sig → m.metas ≡ metas
    → (j.judgment ≡ v.judgment → JudgmentsFit th.sig metas j v) → j.judgment ≡ v.judgment → JudgmentsFit m.sig m.metas j v
over_matching th j v m metas s e fit same =
    subst (λ (x : Signature). JudgmentsFit x m.metas j v) (sym s) (subst (λ (x : List MetaDecl). JudgmentsFit th.sig x j v) (sym e) (fit same))

-- the root of an ordinary rule's conclusion stands with itself
stands_itself : (ctx : Option CatId) (root : Root) (es : List SchemeEntry) → IsBareName root es → IsRootOf ctx root → StandsWith (root_of ctx) root
stands_itself None Closed es bare is = tt
stands_itself (Some c) Closed es bare is = tt
stands_itself (Some c) (Whole d) es bare is = sym is
stands_itself None (Whole d) es bare is = absurd is
stands_itself ctx (Empty d) es bare is = absurd bare

node_judged : (th : Theory) → IsSystemSoFar th → (r : Rule) (v : JudgmentValue) (ds : Subtrees) → RuleFits th r → IsNodeOf th v ds r → IsJudgment th v
node_judged th so_far r v ds fits n =
    let bare = bare_conclusion th r fits n.ordinary in
    let own = form_of th so_far (rule_names r) r.conclusion fits.forms.conclusion in
    premise_judgment th so_far r n.inst n.scope bare own.0 own.1 own.2 r.conclusion v fits.forms.conclusion
    (stands_itself own.0.ctx r.conclusion.context.root r.conclusion.context.entries bare own.2) n.conclusion

-- a right node carries a judgment of the system
pub right_judged : (th : Theory) → IsSystemSoFar th → (d : Derivation) → IsRightNode th d → IsJudgment th (judgment d)
right_judged th so_far (leaf r j place) h = derives_a_judgment th (leaf r j place) so_far h
right_judged th so_far (node r j ds) h = let rule = all_found th.rules r so_far.rules h in node_judged th so_far rule.0 j ds rule.1 rule.2
