-- Over a system without contexts each form of a judgment has none, and its rules are plain.
use Rattle.std.proofs.Common.{arith, ◌≤◌, ◌≡◌, ℕ, ◌<◌, List, [], ◌∷◌, ◌++◌, length, map, Option, Some, None, slice_get, inl, inr, refl, ap, ◌∙◌, sym, subst}
use Rattle.std.specs.Prelude.{count_by, ◌==◌}
use Rattle.std.proofs.lemmas.Option.{slice_get_within}
use Rattle.std.specs.List.{AllByRecursion}
use Rattle.binding_terms.specs.Numbered.{AnyByRecursion}
use Rattle.binding_terms.specs.Signature.{Signature, Place, slots, binders}
use Rattle.binding_terms.specs.Scope.{bound}
use Rattle.binding_terms.specs.declared.grammar.CatId.{CatId}
use Rattle.scheme_terms.specs.SchemeTree.{SchemeTree, meta, known, local, con, Values, no_values, value, Parts, no_parts, part, OccursIn, OccursInValues, OccursInParts}
use Rattle.scheme_terms.specs.Forms.{Names, SchemeEntry}
use Rattle.scheme_terms.specs.SchemeScope.{IsScheme, AreValues, AreSchemeParts, AreSchemes, IsSchemeContext, AreExplicitEntries, entry_variables, StandsWith}
use Rattle.scheme_terms.specs.declared.scheme.MetaDecl.{MetaDecl}
use Rattle.scheme_terms.specs.declared.scheme.Root.{Root}
use Rattle.scheme_terms.specs.declared.scheme.Root.TheVariants.{Closed, Empty, Whole}
use Rattle.rule_schemes.specs.declared.rule.Judgment.{Judgment}
use Rattle.rule_schemes.specs.Rules.{JudgmentScheme, Rule, Theory, JudgmentFits, RuleFits, IsRootOf, IsJudgmentScheme, MayStand, ENTRIES, argument_slots, rule_names}
use Rattle.rule_schemes.specs.Plain.{IsPlainSystem, HasPlainNames}
use Rattle.rule_schemes.specs.Statement.{OccursInJudgment}
use Rattle.core_proofs.specs.Plain.{IsPlainForm, IsPlainRule}
use Rattle.core_proofs.specs.Proof.{IsStepForm}
use Rattle.binding_terms.proofs.Lists.{all_at, append_within, match_from, match_some}
use Rattle.rule_schemes.proofs.PlainLemmas.{no_context_assumed, is_closed}

module _ (th : Theory) (system : IsPlainSystem th) where
  -- no judgment assumes a context
  pub judgment_assumes_none : (k : ℕ) (form : Judgment) → slice_get th.judgments k ≡ Some form → form.ctx ≡ None
  judgment_assumes_none k form here =
      let fits : JudgmentFits th.sig form = all_at (JudgmentFits th.sig) th.judgments k form system.so_far.judgments here in
      no_context_assumed th.sig (λ c. count_by (λ s. s.cat == c.0) (slots form.items) ≡ 1) form.ctx system.plain.sig fits.assumed

  pub form_is_closed : (names : Names) (j : JudgmentScheme) → IsJudgmentScheme th names j → j.context.root ≡ Closed
  form_is_closed names j is =
      let got = match_some (slice_get th.judgments j.judgment)
      (λ form. IsRootOf form.ctx j.context.root × IsSchemeContext th.sig names j.context
      × AreSchemes th.sig names (entry_variables th.sig [] j.context.entries) (argument_slots form.ctx (slots form.items)) j.args) is in
      is_closed j.context.root (subst (λ (o : Option CatId). IsRootOf o j.context.root) (judgment_assumes_none j.judgment got.0 got.1) got.2.0)

  pub plain_form : (names : Names) (j : JudgmentScheme) → IsJudgmentScheme th names j → IsPlainForm th names j
  plain_form names j is = record { root = form_is_closed names j is; in_scope = is }

  pub plain_forms : (names : Names) (js : List JudgmentScheme) → AllByRecursion (IsJudgmentScheme th names) js → AllByRecursion (IsPlainForm th names) js
  plain_forms names [] is = tt
  plain_forms names (j ∷ js) is = (plain_form names j is.0, plain_forms names js is.1)

  plain_rule : (rule : Rule) → RuleFits th rule → HasPlainNames rule → IsPlainRule th rule
  plain_rule rule fits names = record {
    metas = names;
    conclusion = plain_form (rule_names rule) rule.conclusion fits.forms.conclusion;
    premises = plain_forms (rule_names rule) rule.premises fits.forms.premises;
    strict = fits.strict;
  }

  pub plain_rule_at : (r : ℕ) (rule : Rule) → slice_get th.rules r ≡ Some rule → IsPlainRule th rule
  plain_rule_at r rule here =
      plain_rule rule (all_at (RuleFits th) th.rules r rule system.so_far.rules here) (all_at HasPlainNames th.rules r rule system.plain.rules here)

  -- over a closed scope each form is one of a step
  pub step_form : (scope : Names) (j : JudgmentScheme) → scope.root ≡ Closed → IsJudgmentScheme th scope j → IsStepForm th scope j
  step_form scope j root is =
      let closed = form_is_closed scope j is in
      let got = match_some (slice_get th.judgments j.judgment)
      (λ form. IsRootOf form.ctx j.context.root × IsSchemeContext th.sig scope j.context
      × AreSchemes th.sig scope (entry_variables th.sig [] j.context.entries) (argument_slots form.ctx (slots form.items)) j.args) is in
      let none : j.context.entries ≡ [] = subst (λ r. AreExplicitEntries th.sig scope r j.context.entries) closed got.2.1 in
      record {
        in_scope = is;
        root = subst (λ r. StandsWith scope.root r) (sym closed) (stands scope.root);
        entries = subst (λ (es : List SchemeEntry). length es ≤ ENTRIES) (sym none) (omega arith);
        may_stand = subst (λ r. MayStand th r j.context.root j.judgment) (sym root) (may j.context.root);
      }
    where
      stands : (r : Root) → StandsWith r Closed
      stands Closed = tt
      stands (Empty c) = tt
      stands (Whole c) = tt

      may : (r : Root) → MayStand th Closed r j.judgment
      may Closed = tt
      may (Empty c) = tt
      may (Whole c) = tt

-- a scheme of a scope is one of a front of it, where each of its metavariables is of the front
module _ (sig : Signature) (from into : Names) (rest : List MetaDecl) (front : from.metas ≡ into.metas ++ rest) (knowns : from.knowns ≡ []) where
  same_decl : (m : ℕ) → m < length into.metas → slice_get from.metas m ≡ slice_get into.metas m
  same_decl m h = ap (λ (ms : List MetaDecl). slice_get ms m) front ∙ append_within into.metas rest m h

  mutual
    pub in_front : (ls : List ℕ) (c : ℕ) (s : SchemeTree) → IsScheme sig from ls c s → ((m : ℕ) → OccursIn m s → m < length from.metas → m < length into.metas) → IsScheme sig into ls c s
    in_front ls c (meta m vs) is below =
        let got = match_some (slice_get from.metas m) (λ decl. (decl.cat.0 ≡ c) × AreValues sig from ls (map (λ p. p.0) decl.params) vs) is in
        match_from (slice_get into.metas m) (λ decl. (decl.cat.0 ≡ c) × AreValues sig into ls (map (λ p. p.0) decl.params) vs) got.0
        (sym (same_decl m (below m (inl refl) (slice_get_within from.metas m got.0 got.1))) ∙ got.1)
        (got.2.0, values_in_front ls (map (λ p. p.0) got.0.params) vs got.2.1 (λ n h. below n (inr h)))
    in_front ls c (known k) is below = absurd (let no : ⊥ = rw knowns at is in no)
    in_front ls c (local i) is below = is
    in_front ls c (con p xs) is below =
        let got = match_some (slice_get sig.prods p) (λ prod. (prod.cat.0 ≡ c) × AreSchemeParts sig from ls (binders prod.items) (slots prod.items) xs) is in
        match_from (slice_get sig.prods p) (λ prod. (prod.cat.0 ≡ c) × AreSchemeParts sig into ls (binders prod.items) (slots prod.items) xs) got.0 got.1
        (got.2.0, parts_in_front ls (binders got.0.items) (slots got.0.items) xs got.2.1 below)

    values_in_front : (ls cs : List ℕ) (vs : Values) → AreValues sig from ls cs vs → ((m : ℕ) → OccursInValues m vs → m < length from.metas → m < length into.metas) → AreValues sig into ls cs vs
    values_in_front ls [] no_values is below = tt
    values_in_front ls (c ∷ cs) no_values is below = absurd is
    values_in_front ls [] (value s vs) is below = absurd is
    values_in_front ls (c ∷ cs) (value s vs) is below = (in_front ls c s is.0 (λ m h. below m (inl h)), values_in_front ls cs vs is.1 (λ m h. below m (inr h)))

    parts_in_front : (ls bs : List ℕ) (ps : List Place) (xs : Parts) → AreSchemeParts sig from ls bs ps xs → ((m : ℕ) → OccursInParts m xs → m < length from.metas → m < length into.metas) →
        AreSchemeParts sig into ls bs ps xs
    parts_in_front ls bs [] no_parts is below = tt
    parts_in_front ls bs (p ∷ ps) no_parts is below = absurd is
    parts_in_front ls bs [] (part n s xs) is below = absurd is
    parts_in_front ls bs (p ∷ ps) (part n s xs) is below =
        (is.0, in_front (bound bs p.binds ++ ls) p.cat s is.1 (λ m h. below m (inl h)), parts_in_front ls bs ps xs is.2 (λ m h. below m (inr h)))

  schemes_in_front : (ls : List ℕ) (ps : List Place) (ss : List SchemeTree) → AreSchemes sig from ls ps ss →
      ((m : ℕ) → AnyByRecursion (OccursIn m) ss → m < length from.metas → m < length into.metas) → AreSchemes sig into ls ps ss
  schemes_in_front ls [] [] is below = tt
  schemes_in_front ls [] (s ∷ ss) is below = absurd is
  schemes_in_front ls (p ∷ ps) [] is below = absurd is
  schemes_in_front ls (p ∷ ps) (s ∷ ss) is below = (in_front ls p.cat s is.0 (λ m h. below m (inl h)), schemes_in_front ls ps ss is.1 (λ m h. below m (inr h)))

-- the same of a form
pub form_in_front : (th : Theory) (system : IsPlainSystem th) (from into : Names) (rest : List MetaDecl) → from.metas ≡ into.metas ++ rest → from.knowns ≡ [] →
    (j : JudgmentScheme) → IsJudgmentScheme th from j → ((m : ℕ) → OccursInJudgment m j → m < length from.metas → m < length into.metas) → IsJudgmentScheme th into j
form_in_front th system from into rest front knowns j is below =
    let closed = form_is_closed th system from j is in
    let got = match_some (slice_get th.judgments j.judgment)
    (λ form. IsRootOf form.ctx j.context.root × IsSchemeContext th.sig from j.context
    × AreSchemes th.sig from (entry_variables th.sig [] j.context.entries) (argument_slots form.ctx (slots form.items)) j.args) is in
    let none : AreExplicitEntries th.sig into Closed j.context.entries = subst (λ r. AreExplicitEntries th.sig from r j.context.entries) closed got.2.1 in
    match_from (slice_get th.judgments j.judgment)
    (λ form. IsRootOf form.ctx j.context.root × IsSchemeContext th.sig into j.context
    × AreSchemes th.sig into (entry_variables th.sig [] j.context.entries) (argument_slots form.ctx (slots form.items)) j.args) got.0 got.1 (
      got.2.0,
      subst (λ r. AreExplicitEntries th.sig into r j.context.entries) (sym closed) none,
      schemes_in_front th.sig from into rest front knowns (entry_variables th.sig [] j.context.entries) (argument_slots got.0.ctx (slots got.0.items)) j.args got.2.2
          (λ m h. below m (inr h)),
    )
