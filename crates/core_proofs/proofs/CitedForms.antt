-- The forms of cited steps by their numbers.
use Rattle.std.proofs.Common.{◌≡◌, ℕ, ◌+◌, ◌<◌, Bor, List, [], ◌∷◌, ◌++◌, length, map, drop, get_or, append_assoc, Option, Some, None, slice_get, refl, ap, ◌∙◌, sym, subst}
use Rattle.std.specs.Prelude.{option_map}
use Rattle.std.proofs.lemmas.List.{drop_more, map-append, length-map}
use Rattle.std.proofs.lemmas.Slice.Zip.{AllZip-long}
use Rattle.std.proofs.lemmas.Option.{slice_get-map, same_Some}
use Rattle.scheme_terms.specs.Forms.{Names}
use Rattle.rule_schemes.specs.View.{judgment_scheme}
use Rattle.rule_schemes.specs.declared.rule.JScheme.{JScheme}
use Rattle.core_proofs.specs.declared.step.StepId.{StepId}
use Rattle.std.specs.List.{AllByRecursion}
use Rattle.binding_terms.proofs.Lists.{all_at}
use Rattle.rule_schemes.specs.Rules.{JudgmentScheme, Rule, Theory}
use Rattle.core_proofs.specs.FormEquations.{put_first, cited_forms}
use Rattle.rule_schemes.specs.Placed.{form_in}
use Rattle.proof_trees.specs.RuleStep.{IsRaisedTo, IsRuleInstance}
use Rattle.core_proofs.specs.RuleStep.{AreCited}
use Rattle.core_proofs.specs.Plain.{IsPlainRule}
use Rattle.core_proofs.specs.Proof.{IsStepForm}
use Rattle.core_proofs.specs.Provable.{IsRightByRule}
use Rattle.binding_terms.proofs.Lists.{all_at}

both_some : (o : Option JudgmentScheme) (os : Option (List JudgmentScheme)) (cited : List JudgmentScheme) → put_first o os ≡ Some cited →
    (j : JudgmentScheme) × ((js : List JudgmentScheme) × (o ≡ Some j) × (os ≡ Some js) × (j ∷ js ≡ cited))
both_some None os cited e = absurd (let no : ⊥ = cc in no)
both_some (Some j) None cited e = absurd (let no : ⊥ = cc in no)
both_some (Some j) (Some js) cited e = (j, (js, refl, refl, let same : j ∷ js ≡ cited = cc in same))

pub cited_are : (scoped : List JudgmentScheme) (on : List ℕ) (cited : List JudgmentScheme) → cited_forms scoped on ≡ Some cited → AreCited scoped on cited
cited_are scoped [] [] e = tt
cited_are scoped [] (j ∷ cited) e = absurd (let no : ⊥ = cc in no)
cited_are scoped (n ∷ on) [] e =
    let got = both_some (slice_get scoped n) (cited_forms scoped on) [] e in
    let wrong : got.0 ∷ got.1.0 ≡ [] = got.1.3 in
    absurd (let no : ⊥ = cc in no)
cited_are scoped (n ∷ on) (j ∷ cited) e =
    let got = both_some (slice_get scoped n) (cited_forms scoped on) (j ∷ cited) e in
    let wholes : got.0 ∷ got.1.0 ≡ j ∷ cited = got.1.3 in
    let first : got.0 ≡ j = cc in
    let rest : got.1.0 ≡ cited = cc in
    (got.1.1 ∙ ap Some first, cited_are scoped on cited (got.1.2 ∙ ap Some rest))

pub are_cited : (scoped : List JudgmentScheme) (on : List ℕ) (cited : List JudgmentScheme) → AreCited scoped on cited → cited_forms scoped on ≡ Some cited
are_cited scoped [] [] h = refl
are_cited scoped [] (j ∷ cited) h = absurd h
are_cited scoped (n ∷ on) [] h = absurd h
are_cited scoped (n ∷ on) (j ∷ cited) h =
    ap (λ o. put_first o (cited_forms scoped on)) h.0 ∙ ap (put_first (Some j)) (are_cited scoped on cited h.1)

-- what holds of each form in scope holds of the cited ones
pub cited_all : (P : JudgmentScheme → Type 0) (scoped : List JudgmentScheme) (on : List ℕ) (cited : List JudgmentScheme) → AllByRecursion P scoped →
    AreCited scoped on cited → AllByRecursion P cited
cited_all P scoped [] [] all h = tt
cited_all P scoped [] (j ∷ cited) all h = absurd h
cited_all P scoped (n ∷ on) [] all h = absurd h
cited_all P scoped (n ∷ on) (j ∷ cited) all h = (all_at P scoped n j all h.0, cited_all P scoped on cited all h.1)

-- the form of a number, one step on
module _ (scoped : List JScheme) (on : List StepId) (i : ℕ) (d : StepId) (within : i < length on) where
  next_cited : cited_forms (map judgment_scheme scoped) (map (λ id. id.0) (drop i on))
      ≡ put_first (option_map judgment_scheme (slice_get scoped (get_or on i d).0)) (cited_forms (map judgment_scheme scoped) (map (λ id. id.0) (drop (i + 1) on)))
  next_cited =
      ap (λ ids. cited_forms (map judgment_scheme scoped) (map (λ id. id.0) ids)) (drop_more on i d within)
      ∙ ap (λ o. put_first o (cited_forms (map judgment_scheme scoped) (map (λ id. id.0) (drop (i + 1) on)))) (slice_get-map judgment_scheme scoped (get_or on i d).0)

  pub cited_none : (cited : List JudgmentScheme) (whole : Option (List JudgmentScheme)) → slice_get scoped (get_or on i d).0 ≡ None →
      option_map (λ js. cited ++ js) (cited_forms (map judgment_scheme scoped) (map (λ id. id.0) (drop i on))) ≡ whole → None ≡ whole
  cited_none cited whole none e =
      sym (ap (option_map (λ js. cited ++ js))
      (next_cited ∙ ap (λ o. put_first (option_map judgment_scheme o) (cited_forms (map judgment_scheme scoped) (map (λ id. id.0) (drop (i + 1) on)))) none)) ∙ e

  pub cited_more : (all new : List (Bor JScheme)) (form : Bor JScheme) (whole : Option (List JudgmentScheme)) → slice_get scoped (get_or on i d).0 ≡ Some form.now →
      new ≡ all ++ form ∷ [] → option_map (λ js. map (λ j. judgment_scheme j.now) all ++ js) (cited_forms (map judgment_scheme scoped) (map (λ id. id.0) (drop i on))) ≡ whole →
      option_map (λ js. map (λ j. judgment_scheme j.now) new ++ js) (cited_forms (map judgment_scheme scoped) (map (λ id. id.0) (drop (i + 1) on))) ≡ whole
  cited_more all new form whole some more e =
      let longer : map (λ (j : Bor JScheme). judgment_scheme j.now) new ≡ map (λ (j : Bor JScheme). judgment_scheme j.now) all ++ judgment_scheme form.now ∷ [] =
      ap (map (λ (j : Bor JScheme). judgment_scheme j.now)) more ∙ map-append (λ (j : Bor JScheme). judgment_scheme j.now) all (form ∷ []) in
      ap (λ front. option_map (λ js. front ++ js) (cited_forms (map judgment_scheme scoped) (map (λ id. id.0) (drop (i + 1) on)))) longer
      ∙ shifted (map (λ (j : Bor JScheme). judgment_scheme j.now) all) (judgment_scheme form.now) (cited_forms (map judgment_scheme scoped) (map (λ id. id.0) (drop (i + 1) on)))
      ∙ ap (option_map (λ js. map (λ (j : Bor JScheme). judgment_scheme j.now) all ++ js))
      (sym (next_cited ∙ ap (λ o. put_first (option_map judgment_scheme o) (cited_forms (map judgment_scheme scoped) (map (λ id. id.0) (drop (i + 1) on)))) some)) ∙ e
    where
      shifted : (front : List JudgmentScheme) (j : JudgmentScheme) (o : Option (List JudgmentScheme)) →
          option_map (λ js. (front ++ j ∷ []) ++ js) o ≡ option_map (λ js. front ++ js) (put_first (Some j) o)
      shifted front j None = refl
      shifted front j (Some js) = ap Some (append_assoc front (j ∷ []) js)

module _ (th : Theory) (scope : Names) (scoped : List JudgmentScheme) (form : JudgmentScheme) (r : ℕ) (on : List ℕ) where
  pub uncited : cited_forms scoped on ≡ None → IsRightByRule th scope scoped form r on → ⊥
  uncited none right = let some = are_cited scoped on right.cited right.cited_are in let no : ⊥ = cc in no

  pub no_rule : slice_get th.rules r ≡ None → IsRightByRule th scope scoped form r on → ⊥
  no_rule none right = let some = right.here in let no : ⊥ = cc in no

  module _ (cited : List JudgmentScheme) (rule : Rule) (some : cited_forms scoped on ≡ Some cited) (here : slice_get th.rules r ≡ Some rule) where
    pub is_right : IsStepForm th scope form → IsRuleInstance th scope form cited rule → IsRightByRule th scope scoped form r on
    is_right form_is is = record { form_is = form_is; cited = cited; cited_are = cited_are scoped on cited some; rule = rule; here = here; is_instance = is }

    pub is_instance : IsRightByRule th scope scoped form r on → IsRuleInstance th scope form cited rule
    is_instance right =
        let same : right.rule ≡ rule = same_Some right.rule rule (sym right.here ∙ here) in
        let forms : right.cited ≡ cited = same_Some right.cited cited (sym (are_cited scoped on right.cited right.cited_are) ∙ some) in
        subst (IsRuleInstance th scope form cited) same (subst (λ (js : List JudgmentScheme). IsRuleInstance th scope form js right.rule) forms right.is_instance)

  -- as many steps are cited as the rule has premises
  pub cited_count : (rule : Rule) → slice_get th.rules r ≡ Some rule → IsPlainRule th rule → IsRightByRule th scope scoped form r on → length rule.premises ≡ length on
  cited_count rule here plain right =
      let same : right.rule ≡ rule = same_Some right.rule rule (sym right.here ∙ here) in
      let is = subst (IsRuleInstance th scope form right.cited) same right.is_instance in
      let raised : is.higher ≡ rule = subst (λ x. IsRaisedTo th.sig form.context x rule is.higher) plain.conclusion.root is.raised in
      let long : length is.higher.premises ≡ length right.cited = sym (length-map is.higher.premises (form_in form.context is.by)) ∙ ap length is.premises in
      let counted : length right.cited ≡ length on = AllZip-long (λ n j. slice_get scoped n ≡ Some j) on right.cited right.cited_are in
      ap (λ (x : Rule). length x.premises) (sym raised) ∙ long ∙ counted
