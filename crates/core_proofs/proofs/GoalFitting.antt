-- A form has the goal exactly where a substitution fits the equations of the goal.
use Rattle.std.proofs.Common.{drop, append_assoc, add-one, ◌≡◌, ◌↔◌, ◌⊎◌, ℕ, zero, suc, ◌+◌, ◌<◌, IsTrue, List, [], ◌∷◌, ◌++◌, length, map, Option, Some, None, is_some, slice_get, MatchOption, unwrap_or, inl, inr, refl, ap, ◌∙◌, sym, subst, arith}
use Rattle.std.proofs.lemmas.Bool.{cases_lt}
use Rattle.std.proofs.lemmas.Bool.Decides.{nat_tests}
use Rattle.std.proofs.lemmas.Option.{slice_get_within, get_or_from_slice_get}
use Rattle.std.proofs.lemmas.List.{drop_more, map-append}
use Rattle.std.specs.List.{AllByRecursion, AllZip}
use Rattle.binding_terms.specs.Numbered.{AnyByRecursion, AllNumbered}
use Rattle.scheme_terms.specs.SchemeTree.{SchemeTree, meta, local, no_values, values, filled, StrictIn}
use Rattle.scheme_terms.specs.Forms.{Names, Substitution}
use Rattle.scheme_terms.specs.SchemeScope.{IsScheme, AreValues}
use Rattle.scheme_terms.specs.Substituting.{applied, argument_or_local, knowns_from, parameters, scheme_for, IsKnownValue}
use Rattle.scheme_terms.specs.declared.scheme.MetaDecl.{MetaDecl}
use Rattle.pattern_unify.specs.Equations.{SchemeEquation, equation}
use Rattle.pattern_unify.specs.Plain.{HaveNoParameters}
use Rattle.pattern_unify.specs.FitInto.{AreSidesInto, AreToFitInto, Becomes, IsFitInto, IsOnlyFitInto}
use Rattle.pattern_unify.specs.declared.equation.Equation.{Equation}
use Rattle.scheme_terms.proofs.SchemeSubstitutions.{filled_local}
use Rattle.rule_schemes.specs.Rules.{JudgmentScheme, Theory, IsJudgmentScheme}
use Rattle.rule_schemes.specs.Plain.{IsPlainSystem}
use Rattle.rule_schemes.specs.Statement.{Theorem, IsOfInputs, IsOfOutputs, IsStatementForm, StrictInStatement}
use Rattle.core_proofs.specs.FormEquations.{all_equations, stays, stays_from, goal_equations}
use Rattle.rule_schemes.specs.Placed.{form_in}
use Rattle.core_proofs.specs.Plain.{IsPlainScope, IsPlainForm}
use Rattle.proof_trees.specs.Right.{IsProofScope}
use Rattle.rule_schemes.specs.Placed.{applied_judgment}
use Rattle.core_proofs.specs.Proof.{HasGoal, itself}
use Rattle.core_proofs.specs.Provable.{IsProvable}
use Rattle.core_proofs.proofs.ClosedForms.{no_context, closed_form}
use Rattle.core_proofs.proofs.RuleSteps.{form_is}
use Rattle.core_proofs.proofs.RuleFitting.{bare_forms, all_forms, match_both, each_both, EachOf, all_sides, SomeOf, some_both, all_strict}
use Rattle.core_proofs.proofs.Moving.{is_front}
use Rattle.core_proofs.proofs.PlainForms.{plain_forms}
use Rattle.core_proofs.proofs.Keeping.{plain_scope}
use Rattle.binding_terms.proofs.Lists.{all_at, all_numbered, append_within, match_from, match_some, numbered_at, some_within, zip_empty}

-- what holds of the equation of each name holds of all of them
from_stays : (P : SchemeEquation → Type 0) (n : ℕ) (decls : List MetaDecl) → AllNumbered (λ m decl. P (stays m)) n decls → AllByRecursion P (stays_from n decls)
from_stays P n [] h = tt
from_stays P n (decl ∷ decls) h = (h.0, from_stays P (suc n) decls h.1)

some_stays : (P : SchemeEquation → Type 0) (n : ℕ) (decls : List MetaDecl) (k : ℕ) → k < length decls → P (stays (n + k)) → AnyByRecursion P (stays_from n decls)
some_stays P n [] k h p = absurd (let no : ⊥ = omega (arith, h) in no)
some_stays P n (decl ∷ decls) zero h p = inl (subst (λ m. P (stays m)) (let e : n + 0 ≡ n = omega arith in e) p)
some_stays P n (decl ∷ decls) (suc k) h p =
    inr (some_stays P (suc n) decls k (omega (arith, h)) (subst (λ m. P (stays m)) (let e : n + suc k ≡ suc n + k = omega arith in e) p))

-- one equation more in the list
pub stays_more : (decls : List MetaDecl) (i : ℕ) (all new : List Equation) (one : Equation) (whole : List SchemeEquation) →
    i < length decls → equation one ≡ stays i → new ≡ all ++ one ∷ [] → map equation all ++ stays_from i (drop i decls) ≡ whole →
    map equation new ++ stays_from (i + 1) (drop (i + 1) decls) ≡ whole
stays_more decls i all new one whole h is more e =
    let here = some_within decls i h in
    let left : drop i decls ≡ here.0 ∷ drop (i + 1) decls = drop_more decls i here.0 h ∙ ap (λ d. d ∷ drop (i + 1) decls) (get_or_from_slice_get decls i here.0 here.0 here.1) in
    ap (λ xs. map equation xs ++ stays_from (i + 1) (drop (i + 1) decls)) more
    ∙ ap (λ xs. xs ++ stays_from (i + 1) (drop (i + 1) decls)) (map-append equation all (one ∷ []))
    ∙ append_assoc (map equation all) (equation one ∷ []) (stays_from (i + 1) (drop (i + 1) decls))
    ∙ ap (λ t. map equation all ++ t ∷ stays_from (i + 1) (drop (i + 1) decls)) is
    ∙ ap (λ n. map equation all ++ stays i ∷ stays_from n (drop (i + 1) decls)) (add-one i)
    ∙ ap (λ xs. map equation all ++ stays_from i xs) (sym left) ∙ e

no_argument : (i : ℕ) → argument_or_local 0 [] i ≡ local i
no_argument i = grind (arith, nat_tests)

-- a name without arguments becomes its scheme
applied_meta : (ss : List SchemeTree) (ks : List ℕ) (m : ℕ) → applied ss ks 0 (meta m no_values) ≡ scheme_for ss m
applied_meta ss ks m = ap (λ f. filled f (scheme_for ss m)) (λ k i. no_argument i k) ∙ filled_local (scheme_for ss m)

module _ (ss : List SchemeTree) (ks : List ℕ) where
  is_itself : (m : ℕ) (decl : MetaDecl) → decl.params ≡ [] → itself m decl ≡ meta m no_values
  is_itself m decl e = ap (λ ps. meta m (values (parameters (length ps)))) e

  found : (o : Option SchemeTree) (m : ℕ) → unwrap_or o (local 0) ≡ meta m no_values → o ≡ Some (meta m no_values)
  found None m e = absurd (let no : ⊥ = cc in no)
  found (Some s) m e = ap Some e

  one_stays : (m : ℕ) (decl : MetaDecl) → decl.params ≡ [] → (slice_get ss m ≡ Some (itself m decl)) ↔ (applied ss ks 0 (meta m no_values) ≡ meta m no_values)
  one_stays m decl e = (
    λ h. applied_meta ss ks m ∙ ap (λ o. unwrap_or o (local 0)) h ∙ is_itself m decl e,
    λ h. found (slice_get ss m) m (sym (applied_meta ss ks m) ∙ h) ∙ ap Some (sym (is_itself m decl e)),
  )

  all_stay : (n : ℕ) (decls : List MetaDecl) → HaveNoParameters decls →
      AllNumbered (λ m decl. slice_get ss m ≡ Some (itself m decl)) n decls ↔ AllByRecursion (Becomes ss ks) (stays_from n decls)
  all_stay n [] none = (λ h. tt, λ h. tt)
  all_stay n (decl ∷ decls) none =
      let one = one_stays n decl none.0 in
      let rest = all_stay (suc n) decls none.1 in
      (λ h. (one.0 h.0, rest.0 h.1), λ h. (one.1 h.0, rest.1 h.1))

applied_closed : (by : Substitution) (j : JudgmentScheme) → j ≡ closed_form j.judgment j.args → applied_judgment by j ≡ form_in no_context by j
applied_closed by j e =
    let same : applied_judgment by j ≡ closed_form j.judgment (map (applied by.metas by.knowns 0) j.args) =
    subst (λ (x : JudgmentScheme). applied_judgment by x ≡ closed_form x.judgment (map (applied by.metas by.knowns 0) x.args)) (sym e) refl in
    same ∙ sym (form_is no_context by j e)

all_applied : (by : Substitution) (js : List JudgmentScheme) → AllByRecursion (λ j. j ≡ closed_form j.judgment j.args) js →
    map (applied_judgment by) js ≡ map (form_in no_context by) js
all_applied by [] h = refl
all_applied by (j ∷ js) h =
    let first = applied_closed by j h.0 in
    let rest = all_applied by js h.1 in
    λ i. first i ∷ rest i

statement_forms : (th : Theory) (st : Theorem) (js : List JudgmentScheme) → AllByRecursion (IsStatementForm th st) js → AllByRecursion (IsJudgmentScheme th st.scope) js
statement_forms th st [] h = tt
statement_forms th st (j ∷ js) h = (h.0.0, statement_forms th st js h.1)

module _ (th : Theory) (system : IsPlainSystem th) (st : Theorem) (scope : Names) (form : JudgmentScheme)
    (provable : IsProvable th st) (is : IsProofScope st scope) (form_plain : IsPlainForm th scope form) where
  abbrev total : Option (List SchemeEquation)
  total = goal_equations st scope form

  plain : IsPlainScope scope
  plain = plain_scope th system st provable scope is

  outputs_plain : AllByRecursion (IsPlainForm th st.scope) st.outputs
  outputs_plain = plain_forms th system st.scope st.outputs (statement_forms th st st.outputs provable.forms.outputs)

  becomes_form : (by : Substitution) → (map (applied_judgment by) st.outputs ≡ form ∷ []) ↔ MatchOption (all_equations st.outputs (form ∷ [])) ⊥ (AllByRecursion (Becomes by.metas by.knowns))
  becomes_form by =
      let closed = bare_forms th st.scope st.outputs outputs_plain in
      let same = all_applied by st.outputs closed in
      let is = all_forms no_context by st.outputs (form ∷ []) closed (bare_forms th scope (form ∷ []) (form_plain, tt)) in
      (λ e. is.0 (sym same ∙ e), λ h. same ∙ is.1 h)

  names_stay : (by : Substitution) → AllNumbered (λ m decl. slice_get by.metas m ≡ Some (itself m decl)) 0 scope.metas
      ↔ AllByRecursion (Becomes by.metas by.knowns) (stays_from 0 scope.metas)
  names_stay by = all_stay by.metas by.knowns 0 scope.metas plain.metas

  -- a statement has no known variable, so that none changes
  no_knowns : (by : Substitution) → AllZip (IsKnownValue by) st.scope.knowns by.knowns → by.knowns ≡ knowns_from 0 st.scope.knowns
  no_knowns by h =
      let none = provable.scope.1 in
      zip_empty (IsKnownValue by) by.knowns (subst (λ ds. AllZip (IsKnownValue by) ds by.knowns) none h) ∙ sym (ap (knowns_from 0) none)

  pub from_goal : HasGoal th st scope form → MatchOption total ⊥ (λ eqs. (by : Substitution) × IsFitInto th.sig st.scope scope eqs by)
  from_goal has =
      let all = (match_both (Becomes has.by.metas has.by.knowns) (all_equations st.outputs (form ∷ [])) (Some (stays_from 0 scope.metas))).1
      ((becomes_form has.by).0 has.same, (names_stay has.by).0 has.others_stay) in
      let got = match_some total (AllByRecursion (Becomes has.by.metas has.by.knowns)) all in
      subst (λ o. MatchOption o ⊥ (λ eqs. (by : Substitution) × IsFitInto th.sig st.scope scope eqs by)) (sym got.1)
      (has.by, record { into_is = has.into; kept = has.schemes; knowns = no_knowns has.by has.schemes.knowns; equal = got.2 })

  pub to_goal : (eqs : List SchemeEquation) → total ≡ Some eqs → (by : Substitution) → IsFitInto th.sig st.scope scope eqs by → HasGoal th st scope form
  to_goal eqs e by fit =
      let all = (match_both (Becomes by.metas by.knowns) (all_equations st.outputs (form ∷ [])) (Some (stays_from 0 scope.metas))).0
      (subst (λ o. MatchOption o ⊥ (AllByRecursion (Becomes by.metas by.knowns))) (sym e) fit.equal) in
      record {
        by = by;
        into = fit.into_is;
        schemes = fit.kept;
        others_stay = (names_stay by).1 all.1;
        same = (becomes_form by).1 all.0;
      }

  in_names : (names : Names) (k : ℕ) (decl : MetaDecl) → slice_get names.metas k ≡ Some decl → decl.params ≡ [] → IsScheme th.sig names [] decl.cat.0 (meta k no_values)
  in_names names k decl here none =
      match_from (slice_get names.metas k) (λ d. (d.cat.0 ≡ decl.cat.0) × AreValues th.sig names [] (map (λ p. p.0) d.params) no_values) decl here
      (refl, subst (λ ps. AreValues th.sig names [] (map (λ p. p.0) ps) no_values) (sym none) tt)

  one_side : (k : ℕ) (decl : MetaDecl) → slice_get scope.metas k ≡ Some decl → k < length scope.metas → AreSidesInto th.sig st.scope scope (stays k)
  one_side k decl here below =
      let none = all_at (λ (m : MetaDecl). m.params ≡ []) scope.metas k decl plain.metas here in
      let there : slice_get st.scope.metas k ≡ Some decl = ap (λ (ms : List MetaDecl). slice_get ms k) is.split ∙ append_within scope.metas is.goal_names k below ∙ here in
      (decl.cat.0, in_names st.scope k decl there none, in_names scope k decl here none)

  sides_together : (eqs : List SchemeEquation) → total ≡ Some eqs → AllByRecursion (AreSidesInto th.sig st.scope scope) eqs
  sides_together eqs e =
      let stay = from_stays (AreSidesInto th.sig st.scope scope) 0 scope.metas
      (all_numbered (λ m decl. AreSidesInto th.sig st.scope scope (stays m)) 0 scope.metas
      (λ k decl here. subst (λ m. AreSidesInto th.sig st.scope scope (stays m)) (let z : k ≡ 0 + k = omega arith in z) (one_side k decl here (slice_get_within scope.metas k decl here)))) in
      let all = each_both (AreSidesInto th.sig st.scope scope) (all_equations st.outputs (form ∷ [])) (Some (stays_from 0 scope.metas))
      (all_sides th st.scope scope st.outputs (form ∷ []) outputs_plain (form_plain, tt)) stay in
      subst (EachOf (AreSidesInto th.sig st.scope scope)) e all

  strict_one : (k : ℕ) (decl : MetaDecl) → slice_get st.scope.metas k ≡ Some decl → SomeOf (λ e. StrictIn k e.left) total
  strict_one k decl here = elim (cases_lt k (length scope.metas)) [
    | inl below ↦ some_both (λ e. StrictIn k e.left) (all_equations st.outputs (form ∷ [])) (Some (stays_from 0 scope.metas))
        (inr (some_stays (λ e. StrictIn k e.left) 0 scope.metas k below ((let z : 0 + k ≡ k = omega arith in z), tt)))
    | inr past ↦
        let others : IsOfInputs st k → ⊥ = λ of. let yes = is_front st scope is k (slice_get_within st.scope.metas k decl here) of in let no : ⊥ = omega (arith, yes, past) in no in
        let zero_k : 0 + k ≡ k = omega arith in
        let stands = subst (λ m. IsOfInputs st m ⊎ IsOfOutputs st m) zero_k (numbered_at (λ m decl. IsOfInputs st m ⊎ IsOfOutputs st m) 0 st.scope.metas k decl provable.each_stands here) in
        let strict = subst (StrictInStatement st) zero_k (numbered_at (λ m decl. StrictInStatement st m) 0 st.scope.metas k decl provable.no_fault.strict here) in
        some_both (λ e. StrictIn k e.left) (all_equations st.outputs (form ∷ [])) (Some (stays_from 0 scope.metas))
        (inl (all_strict th st.scope k st.outputs (form ∷ []) outputs_plain (strict.outputs (elim stands [ inl of ↦ absurd (others of) | inr of ↦ of ]) others)))
  ]

  pub are_to_fit : (eqs : List SchemeEquation) → total ≡ Some eqs → AreToFitInto th.sig st.scope scope eqs
  are_to_fit eqs e = record {
    sides = sides_together eqs e;
    strict = all_numbered (λ m decl. AnyByRecursion (λ e. StrictIn m e.left) eqs) 0 st.scope.metas
        (λ k decl here. subst (λ m. AnyByRecursion (λ e. StrictIn m e.left) eqs) (let z : k ≡ 0 + k = omega arith in z)
        (subst (SomeOf (λ e. StrictIn k e.left)) e (strict_one k decl here)));
  }

  pub none_has : total ≡ None → HasGoal th st scope form → ⊥
  none_has e has = subst (λ o. MatchOption o ⊥ (λ eqs. (by : Substitution) × IsFitInto th.sig st.scope scope eqs by)) e (from_goal has)

  pub decided : (eqs : List SchemeEquation) → total ≡ Some eqs → (o : Option Substitution) → IsOnlyFitInto th.sig st.scope scope eqs o →
      IsTrue (is_some o) ↔ HasGoal th st scope form
  decided eqs e None none = (
    λ h. let no : ⊥ = cc in absurd no,
    λ has. let got = subst (λ o. MatchOption o ⊥ (λ eqs. (by : Substitution) × IsFitInto th.sig st.scope scope eqs by)) e (from_goal has) in
        absurd (none got.0 got.1),
  )
  decided eqs e (Some by) one = (λ h. to_goal eqs e by one.0, λ has. refl)
