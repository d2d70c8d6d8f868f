-- A step is an instance of its rule exactly where a substitution fits the equations of its forms.
use Rattle.std.proofs.Common.{◌≡◌, ◌↔◌, ◌⊎◌, ◌==◌, ◌&&◌, ℕ, suc, Bool, true, false, IsTrue, if◌then◌else◌, List, [], ◌∷◌, length, map, Option, Some, None, is_some, slice_get, MatchOption, option_map, unwrap_or, inl, inr, refl, ap, ◌∙◌, sym, subst, arith}
use Rattle.std.proofs.lemmas.Bool.Decides.{nat_tests}
use Rattle.std.proofs.lemmas.List.{length-map}
use Rattle.std.specs.List.{AllByRecursion}
use Rattle.binding_terms.specs.Numbered.{AnyByRecursion}
use Rattle.binding_terms.specs.Signature.{Signature, Place, slots}
use Rattle.scheme_terms.specs.SchemeTree.{SchemeTree, StrictIn}
use Rattle.scheme_terms.specs.Forms.{SchemeContext, Names, Substitution}
use Rattle.scheme_terms.specs.SchemeScope.{AreSchemes, IsSchemeContext, AreExplicitEntries, entry_variables}
use Rattle.scheme_terms.specs.Substituting.{applied, IsKnownValue, IsSubstitution}
use Rattle.scheme_terms.specs.declared.scheme.MetaDecl.{MetaDecl}
use Rattle.pattern_unify.specs.Equations.{SchemeEquation}
use Rattle.pattern_unify.specs.FitInto.{AreSidesInto, AreToFitInto, Becomes, IsFitInto, IsOnlyFitInto}
use Rattle.rule_schemes.specs.Rules.{JudgmentScheme, Rule, Theory, IsRootOf, IsOneEntry, StrictInEntries, StrictInJudgment, StrictInRule, argument_slots, rule_names}
use Rattle.core_proofs.specs.FormEquations.{paired, form_equations, both, all_equations}
use Rattle.rule_schemes.specs.Placed.{form_in}
use Rattle.proof_trees.specs.RuleStep.{IsRaisedTo, IsRuleInstance}
use Rattle.core_proofs.specs.Plain.{IsPlainForm, IsPlainRule}
use Rattle.core_proofs.proofs.ClosedForms.{closed_form, is_closed_form}
use Rattle.core_proofs.proofs.RuleSteps.{form_is}
use Rattle.binding_terms.proofs.Lists.{all_append, all_front, all_right, any_front, any_back, match_some, numbered_map, zip_empty}

-- the places of a judgment's arguments
abbrev pub places : Theory → ℕ → List Place
places th k = unwrap_or (option_map (λ form. argument_slots form.ctx (slots form.items)) (slice_get th.judgments k)) []

-- a form without a context has no entries, and its arguments are schemes without locals
pub record IsBareForm (th : Theory) (names : Names) (j : JudgmentScheme) : Type 0 where
  pub entries : j.context.entries ≡ []
  pub form : j ≡ closed_form j.judgment j.args
  pub args : AreSchemes th.sig names [] (places th j.judgment) j.args

pub bare : (th : Theory) (names : Names) (j : JudgmentScheme) → IsPlainForm th names j → IsBareForm th names j
bare th names j is =
    let got = match_some (slice_get th.judgments j.judgment)
    (λ form. IsRootOf form.ctx j.context.root × IsSchemeContext th.sig names j.context
    × AreSchemes th.sig names (entry_variables th.sig [] j.context.entries) (argument_slots form.ctx (slots form.items)) j.args) is.in_scope in
    let none : j.context.entries ≡ [] = subst (λ r. AreExplicitEntries th.sig names r j.context.entries) is.root got.2.1 in
    let here : places th j.judgment ≡ argument_slots got.0.ctx (slots got.0.items) =
    ap (λ o. unwrap_or (option_map (λ form. argument_slots form.ctx (slots form.items)) o) []) got.1 in
    record {
      entries = none;
      form = is_closed_form j is.root none;
      args = subst (λ ps. AreSchemes th.sig names [] ps j.args) (sym here)
          (subst (λ es. AreSchemes th.sig names (entry_variables th.sig [] es) (argument_slots got.0.ctx (slots got.0.items)) j.args) none got.2.2);
    }

same_number : (m n : ℕ) → IsTrue (m == n) ↔ (m ≡ n)
same_number m n = (λ h. grind (arith, nat_tests), λ h. grind (arith, nat_tests))

form_same : (j t : JudgmentScheme) → j.judgment ≡ t.judgment → length j.args ≡ length t.args → form_equations j t ≡ Some (paired j.args t.args)
form_same j t k l =
    let one : (j.judgment == t.judgment) ≡ true = (same_number j.judgment t.judgment).1 k in
    let two : (length j.args == length t.args) ≡ true = (same_number (length j.args) (length t.args)).1 l in
    rw (one, two) refl

some_at : (a b : Bool) (xs eqs : List SchemeEquation) → (if a && b then Some xs else None) ≡ Some eqs → (a ≡ true) × (b ≡ true) × (xs ≡ eqs)
some_at true true xs eqs e = (refl, refl, let same : xs ≡ eqs = cc in same)
some_at true false xs eqs e = absurd (let no : ⊥ = cc in no)
some_at false b xs eqs e = absurd (let no : ⊥ = cc in no)

form_some : (j t : JudgmentScheme) (eqs : List SchemeEquation) → form_equations j t ≡ Some eqs →
    (j.judgment ≡ t.judgment) × (length j.args ≡ length t.args) × (paired j.args t.args ≡ eqs)
form_some j t eqs e =
    let got = some_at (j.judgment == t.judgment) (length j.args == length t.args) (paired j.args t.args) eqs e in
    ((same_number j.judgment t.judgment).0 got.0, (same_number (length j.args) (length t.args)).0 got.1, got.2)

module _ (ss : List SchemeTree) (ks : List ℕ) where
  becomes_all : (ps ts : List SchemeTree) → map (applied ss ks 0) ps ≡ ts → AllByRecursion (Becomes ss ks) (paired ps ts)
  becomes_all [] ts e = tt
  becomes_all (p ∷ ps) [] e = tt
  becomes_all (p ∷ ps) (t ∷ ts) e =
      let first : applied ss ks 0 p ≡ t = cc in
      let rest : map (applied ss ks 0) ps ≡ ts = cc in
      (first, becomes_all ps ts rest)

  all_become : (ps ts : List SchemeTree) → length ps ≡ length ts → AllByRecursion (Becomes ss ks) (paired ps ts) → map (applied ss ks 0) ps ≡ ts
  all_become [] [] l h = refl
  all_become [] (t ∷ ts) l h = absurd (let no : ⊥ = omega (arith, l) in no)
  all_become (p ∷ ps) [] l h = absurd (let no : ⊥ = omega (arith, l) in no)
  all_become (p ∷ ps) (t ∷ ts) l h =
      let first : applied ss ks 0 p ≡ t = h.0 in
      let rest = all_become ps ts (omega (arith, l)) h.1 in
      λ i. first i ∷ rest i

-- the equations of two lists, where there are both
pub match_both : (P : SchemeEquation → Type 0) (xs ys : Option (List SchemeEquation)) →
    MatchOption (both xs ys) ⊥ (AllByRecursion P) ↔ (MatchOption xs ⊥ (AllByRecursion P) × MatchOption ys ⊥ (AllByRecursion P))
match_both P None ys = (λ h. absurd h, λ h. h.0)
match_both P (Some xs) None = (λ h. absurd h, λ h. h.1)
match_both P (Some xs) (Some ys) = (λ h. (all_front P xs ys h, all_right P xs ys h), λ h. all_append P xs ys h.0 h.1)

module _ (ctx : SchemeContext) (by : Substitution) where
  one_form : (j t : JudgmentScheme) → j ≡ closed_form j.judgment j.args → t ≡ closed_form t.judgment t.args →
      (form_in ctx by j ≡ t) ↔ MatchOption (form_equations j t) ⊥ (AllByRecursion (Becomes by.metas by.knowns))
  one_form j t jf tf = (
    λ e. let is : closed_form j.judgment (map (applied by.metas by.knowns 0) j.args) ≡ t = sym (form_is ctx by j jf) ∙ e in
        let number : j.judgment ≡ t.judgment = ap (λ (f : JudgmentScheme). f.judgment) is in
        let args : map (applied by.metas by.knowns 0) j.args ≡ t.args = ap (λ (f : JudgmentScheme). f.args) is in
        let long : length j.args ≡ length t.args = sym (length-map j.args (applied by.metas by.knowns 0)) ∙ ap length args in
        subst (λ o. MatchOption o ⊥ (AllByRecursion (Becomes by.metas by.knowns))) (sym (form_same j t number long))
        (becomes_all by.metas by.knowns j.args t.args args),
    λ h. let got = match_some (form_equations j t) (AllByRecursion (Becomes by.metas by.knowns)) h in
        let parts = form_some j t got.0 got.1 in
        let args = all_become by.metas by.knowns j.args t.args parts.1
        (subst (AllByRecursion (Becomes by.metas by.knowns)) (sym parts.2) got.2) in
        form_is ctx by j jf ∙ (λ i. closed_form (parts.0 i) (args i)) ∙ sym tf,
  )

  pub all_forms : (js ts : List JudgmentScheme) → AllByRecursion (λ j. j ≡ closed_form j.judgment j.args) js → AllByRecursion (λ t. t ≡ closed_form t.judgment t.args) ts →
      (map (form_in ctx by) js ≡ ts) ↔ MatchOption (all_equations js ts) ⊥ (AllByRecursion (Becomes by.metas by.knowns))
  all_forms [] [] jf tf = (λ e. tt, λ h. refl)
  all_forms [] (t ∷ ts) jf tf = (λ e. let no : ⊥ = cc in absurd no, λ h. absurd h)
  all_forms (j ∷ js) [] jf tf = (λ e. let no : ⊥ = cc in absurd no, λ h. absurd h)
  all_forms (j ∷ js) (t ∷ ts) jf tf =
      let first = one_form j t jf.0 tf.0 in
      let rest = all_forms js ts jf.1 tf.1 in
      let two = match_both (Becomes by.metas by.knowns) (form_equations j t) (all_equations js ts) in (
        λ e. let here : form_in ctx by j ≡ t = cc in
            let there : map (form_in ctx by) js ≡ ts = cc in
            two.1 (first.0 here, rest.0 there),
        λ h. let split = two.0 h in
            let here = first.1 split.0 in
            let there = rest.1 split.1 in
            λ i. here i ∷ there i,
      )

pub bare_forms : (th : Theory) (names : Names) (js : List JudgmentScheme) → AllByRecursion (IsPlainForm th names) js →
    AllByRecursion (λ j. j ≡ closed_form j.judgment j.args) js
bare_forms th names [] h = tt
bare_forms th names (j ∷ js) h = ((bare th names j h.0).form, bare_forms th names js h.1)

-- each equation is so, where there are equations
abbrev pub EachOf : (SchemeEquation → Type 0) → Option (List SchemeEquation) → Type 0
EachOf P o = MatchOption o (Unit {0}) (AllByRecursion P)

pub each_both : (P : SchemeEquation → Type 0) (xs ys : Option (List SchemeEquation)) → EachOf P xs → EachOf P ys → EachOf P (both xs ys)
each_both P None ys h g = tt
each_both P (Some xs) None h g = tt
each_both P (Some xs) (Some ys) h g = all_append P xs ys h g

paired_sides : (sig : Signature) (from into : Names) (ps : List Place) (ss ts : List SchemeTree) → AreSchemes sig from [] ps ss → AreSchemes sig into [] ps ts →
    AllByRecursion (AreSidesInto sig from into) (paired ss ts)
paired_sides sig from into [] [] ts h g = tt
paired_sides sig from into [] (s ∷ ss) ts h g = absurd h
paired_sides sig from into (p ∷ ps) [] ts h g = absurd h
paired_sides sig from into (p ∷ ps) (s ∷ ss) [] h g = absurd g
paired_sides sig from into (p ∷ ps) (s ∷ ss) (t ∷ ts) h g = ((p.cat, h.0, g.0), paired_sides sig from into ps ss ts h.1 g.1)

module _ (th : Theory) (from into : Names) where
  form_sides : (j t : JudgmentScheme) → IsBareForm th from j → IsBareForm th into t → EachOf (AreSidesInto th.sig from into) (form_equations j t)
  form_sides j t jb tb = at (form_equations j t) refl
    where
      at : (o : Option (List SchemeEquation)) → form_equations j t ≡ o → EachOf (AreSidesInto th.sig from into) o
      at None e = tt
      at (Some eqs) e =
          let parts = form_some j t eqs e in
          subst (AllByRecursion (AreSidesInto th.sig from into)) parts.2
          (paired_sides th.sig from into (places th j.judgment) j.args t.args jb.args
          (subst (λ k. AreSchemes th.sig into [] (places th k) t.args) (sym parts.0) tb.args))

  pub all_sides : (js ts : List JudgmentScheme) → AllByRecursion (IsPlainForm th from) js → AllByRecursion (IsPlainForm th into) ts →
      EachOf (AreSidesInto th.sig from into) (all_equations js ts)
  all_sides [] [] h g = tt
  all_sides [] (t ∷ ts) h g = tt
  all_sides (j ∷ js) [] h g = tt
  all_sides (j ∷ js) (t ∷ ts) h g =
      each_both (AreSidesInto th.sig from into) (form_equations j t) (all_equations js ts)
      (form_sides j t (bare th from j h.0) (bare th into t g.0)) (all_sides js ts h.1 g.1)

-- a strict occurrence in a form is one in a left side, where there are equations
paired_strict : (m : ℕ) (ss ts : List SchemeTree) → length ss ≡ length ts → AnyByRecursion (StrictIn m) ss → AnyByRecursion (λ e. StrictIn m e.left) (paired ss ts)
paired_strict m [] ts l h = absurd h
paired_strict m (s ∷ ss) [] l h = absurd (let no : ⊥ = omega (arith, l) in no)
paired_strict m (s ∷ ss) (t ∷ ts) l (inl h) = inl h
paired_strict m (s ∷ ss) (t ∷ ts) l (inr h) = inr (paired_strict m ss ts (omega (arith, l)) h)

abbrev pub SomeOf : (SchemeEquation → Type 0) → Option (List SchemeEquation) → Type 0
SomeOf P o = MatchOption o (Unit {0}) (AnyByRecursion P)

pub some_both : (P : SchemeEquation → Type 0) (xs ys : Option (List SchemeEquation)) → SomeOf P xs ⊎ SomeOf P ys → SomeOf P (both xs ys)
some_both P None ys h = tt
some_both P (Some xs) None h = tt
some_both P (Some xs) (Some ys) (inl h) = any_front P xs ys h
some_both P (Some xs) (Some ys) (inr h) = any_back P xs ys h

form_strict : (m : ℕ) (j t : JudgmentScheme) → j.context.entries ≡ [] → StrictInJudgment m j → SomeOf (λ e. StrictIn m e.left) (form_equations j t)
form_strict m j t none (inl h) = absurd (subst (StrictInEntries m) none h)
form_strict m j t none (inr h) = at (form_equations j t) refl
  where
    at : (o : Option (List SchemeEquation)) → form_equations j t ≡ o → SomeOf (λ e. StrictIn m e.left) o
    at None e = tt
    at (Some eqs) e = let parts = form_some j t eqs e in subst (AnyByRecursion (λ e. StrictIn m e.left)) parts.2 (paired_strict m j.args t.args parts.1 h)

pub all_strict : (th : Theory) (names : Names) (m : ℕ) (js ts : List JudgmentScheme) → AllByRecursion (IsPlainForm th names) js → AnyByRecursion (StrictInJudgment m) js →
    SomeOf (λ e. StrictIn m e.left) (all_equations js ts)
all_strict th names m [] ts p h = absurd h
all_strict th names m (j ∷ js) [] p h = tt
all_strict th names m (j ∷ js) (t ∷ ts) p (inl h) =
    some_both (λ e. StrictIn m e.left) (form_equations j t) (all_equations js ts) (inl (form_strict m j t (bare th names j p.0).entries h))
all_strict th names m (j ∷ js) (t ∷ ts) p (inr h) =
    some_both (λ e. StrictIn m e.left) (form_equations j t) (all_equations js ts) (inr (all_strict th names m js ts p.1 h))

module _ (th : Theory) (scope : Names) (form : JudgmentScheme) (cited : List JudgmentScheme) (rule : Rule)
    (form_plain : IsPlainForm th scope form) (cited_plain : AllByRecursion (IsPlainForm th scope) cited) (rule_plain : IsPlainRule th rule) where
  abbrev total : Option (List SchemeEquation)
  total = both (all_equations rule.premises cited) (form_equations rule.conclusion form)

  premise_forms : (by : Substitution) → (map (form_in form.context by) rule.premises ≡ cited) ↔ MatchOption (all_equations rule.premises cited) ⊥ (AllByRecursion (Becomes by.metas by.knowns))
  premise_forms by = all_forms form.context by rule.premises cited (bare_forms th (rule_names rule) rule.premises rule_plain.premises) (bare_forms th scope cited cited_plain)

  conclusion_form : (by : Substitution) → (form_in form.context by rule.conclusion ≡ form) ↔ MatchOption (form_equations rule.conclusion form) ⊥ (AllByRecursion (Becomes by.metas by.knowns))
  conclusion_form by = one_form form.context by rule.conclusion form (bare th (rule_names rule) rule.conclusion rule_plain.conclusion).form (bare th scope form form_plain).form

  pub from_instance : IsRuleInstance th scope form cited rule → MatchOption total ⊥ (λ eqs. (by : Substitution) × IsFitInto th.sig (rule_names rule) scope eqs by)
  from_instance is =
      let raised : is.higher ≡ rule = subst (λ x. IsRaisedTo th.sig form.context x rule is.higher) rule_plain.conclusion.root is.raised in
      let schemes : IsSubstitution th.sig (rule_names rule) is.by = subst (λ (h : Rule). IsSubstitution th.sig (rule_names h) is.by) raised is.schemes in
      let conclusion : form_in form.context is.by rule.conclusion ≡ form = subst (λ (h : Rule). form_in form.context is.by h.conclusion ≡ form) raised is.conclusion in
      let premises : map (form_in form.context is.by) rule.premises ≡ cited = subst (λ (h : Rule). map (form_in form.context is.by) h.premises ≡ cited) raised is.premises in
      let all = (match_both (Becomes is.by.metas is.by.knowns) (all_equations rule.premises cited) (form_equations rule.conclusion form)).1
      ((premise_forms is.by).0 premises, (conclusion_form is.by).0 conclusion) in
      let got = match_some total (AllByRecursion (Becomes is.by.metas is.by.knowns)) all in
      subst (λ o. MatchOption o ⊥ (λ eqs. (by : Substitution) × IsFitInto th.sig (rule_names rule) scope eqs by)) (sym got.1)
      (is.by, record { into_is = is.into; kept = schemes; knowns = zip_empty (IsKnownValue is.by) is.by.knowns schemes.knowns; equal = got.2 })

  pub to_instance : (eqs : List SchemeEquation) → total ≡ Some eqs → (by : Substitution) → IsFitInto th.sig (rule_names rule) scope eqs by → IsRuleInstance th scope form cited rule
  to_instance eqs e by fit =
      let all = (match_both (Becomes by.metas by.knowns) (all_equations rule.premises cited) (form_equations rule.conclusion form)).0
      (subst (λ o. MatchOption o ⊥ (AllByRecursion (Becomes by.metas by.knowns))) (sym e) fit.equal) in
      record {
        ordinary = λ h. subst (λ r. IsOneEntry r rule.conclusion.context.entries) rule_plain.conclusion.root h;
        higher = rule;
        raised = subst (λ r. IsRaisedTo th.sig form.context r rule rule) (sym rule_plain.conclusion.root) refl;
        by = by;
        into = fit.into_is;
        schemes = fit.kept;
        conclusion = (conclusion_form by).1 all.1;
        premises = (premise_forms by).1 all.0;
      }

  pub sides_together : (eqs : List SchemeEquation) → total ≡ Some eqs → AllByRecursion (AreSidesInto th.sig (rule_names rule) scope) eqs
  sides_together eqs e =
      let all = each_both (AreSidesInto th.sig (rule_names rule) scope) (all_equations rule.premises cited) (form_equations rule.conclusion form)
      (all_sides th (rule_names rule) scope rule.premises cited rule_plain.premises cited_plain)
      (form_sides th (rule_names rule) scope rule.conclusion form (bare th (rule_names rule) rule.conclusion rule_plain.conclusion) (bare th scope form form_plain)) in
      subst (EachOf (AreSidesInto th.sig (rule_names rule) scope)) e all

  strict_one : (eqs : List SchemeEquation) → total ≡ Some eqs → (m : ℕ) (decl : MetaDecl) → StrictInRule rule m → AnyByRecursion (λ e. StrictIn m e.left) eqs
  strict_one eqs e m decl (inl h) = absurd (subst (λ r. IsOneEntry r rule.conclusion.context.entries) rule_plain.conclusion.root h.0)
  strict_one eqs e m decl (inr h) = subst (SomeOf (λ e. StrictIn m e.left)) e (some_both (λ e. StrictIn m e.left) (all_equations rule.premises cited) (form_equations rule.conclusion form) (at h.1))
    where
      at : AnyByRecursion (StrictInJudgment m) rule.premises ⊎ StrictInJudgment m rule.conclusion →
          SomeOf (λ e. StrictIn m e.left) (all_equations rule.premises cited) ⊎ SomeOf (λ e. StrictIn m e.left) (form_equations rule.conclusion form)
      at (inl k) = inl (all_strict th (rule_names rule) m rule.premises cited rule_plain.premises k)
      at (inr k) = inr (form_strict m rule.conclusion form (bare th (rule_names rule) rule.conclusion rule_plain.conclusion).entries k)

  pub are_to_fit : (eqs : List SchemeEquation) → total ≡ Some eqs → AreToFitInto th.sig (rule_names rule) scope eqs
  are_to_fit eqs e = record {
    sides = sides_together eqs e;
    strict = numbered_map (λ m decl. StrictInRule rule m) (λ m decl. AnyByRecursion (λ e. StrictIn m e.left) eqs) (strict_one eqs e) 0 rule.metas rule_plain.strict;
  }

  pub none_is : total ≡ None → IsRuleInstance th scope form cited rule → ⊥
  none_is e is = subst (λ o. MatchOption o ⊥ (λ eqs. (by : Substitution) × IsFitInto th.sig (rule_names rule) scope eqs by)) e (from_instance is)

  pub decided : (eqs : List SchemeEquation) → total ≡ Some eqs → (o : Option Substitution) → IsOnlyFitInto th.sig (rule_names rule) scope eqs o →
      IsTrue (is_some o) ↔ IsRuleInstance th scope form cited rule
  decided eqs e None none = (
    λ h. let no : ⊥ = cc in absurd no,
    λ is. let got = subst (λ o. MatchOption o ⊥ (λ eqs. (by : Substitution) × IsFitInto th.sig (rule_names rule) scope eqs by)) e (from_instance is) in
        absurd (none got.0 got.1),
  )
  decided eqs e (Some by) one = (λ h. to_instance eqs e by one.0, λ is. refl)

-- lists of different lengths have no equations
pub lengths_differ : (js ts : List JudgmentScheme) → (length js ≡ length ts → ⊥) → all_equations js ts ≡ None
lengths_differ [] [] h = absurd (h refl)
lengths_differ [] (t ∷ ts) h = refl
lengths_differ (j ∷ js) [] h = refl
lengths_differ (j ∷ js) (t ∷ ts) h =
    let rest = lengths_differ js ts (λ e. h (ap suc e)) in
    ap (both (form_equations j t)) rest ∙ both_none (form_equations j t)
  where
    both_none : (o : Option (List SchemeEquation)) → both o None ≡ None
    both_none None = refl
    both_none (Some xs) = refl
