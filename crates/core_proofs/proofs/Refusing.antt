-- What the object that keeps proofs knows of where it stands: which steps it refuses, and what stays true with one step more.
use Rattle.std.proofs.Common.{◌≡◌, ℕ, ◌+◌, Bool, true, false, List, [], ◌∷◌, ◌++◌, length, map, Option, Some, None, slice_get, MatchOption, refl, ap, ◌∙◌, sym, subst, add-one}
use Rattle.std.proofs.lemmas.List.{map-append, length-map}
use Rattle.std.proofs.lemmas.Option.{slice_get-map, same_Some}
use Rattle.std.specs.Prelude.{option_map}
use Rattle.scheme_terms.specs.Forms.{Names}
use Rattle.scheme_terms.specs.View.{names}
use Rattle.rule_schemes.specs.Rules.{JudgmentScheme}
use Rattle.rule_schemes.specs.Plain.{IsPlainSystem}
use Rattle.rule_schemes.specs.Statement.{Theorem}
use Rattle.rule_schemes.specs.View.{statement, judgment_scheme}
use Rattle.rule_schemes.specs.declared.rule.JScheme.{JScheme}
use Rattle.rule_schemes.specs.declared.rule.Statement.{Statement}
use Rattle.core_proofs.specs.declared.step.CoreStep.{CoreStep}
use Rattle.core_proofs.specs.declared.step.CoreStep.TheVariants.{Rule}
use Rattle.core_proofs.specs.declared.step.StepId.{StepId}
use Rattle.rule_schemes.specs.declared.rule.RuleId.{RuleId}
use Rattle.core_proofs.specs.Plain.{IsPlainForm}
use Rattle.core_proofs.specs.declared.proving.Proving.TheInside.{Inside}
use Rattle.core_proofs.specs.Step.{Step, begin_theorem, end_theorem, by_rule}
use Rattle.core_proofs.specs.View.{step}
use Rattle.proof_trees.specs.Right.{IsProofScope}
use Rattle.core_proofs.specs.Proof.{HasGoal, Standing, outside, within, Leads, Proves, given_judgments}
use Rattle.core_proofs.specs.Provable.{IsProvable, IsRightByRule}
use Rattle.core_proofs.specs.Kept.{Kept, kept_theory, kept_statements, kept_steps, form_at, standing, IsProving, IsAccepted}
use Rattle.core_proofs.proofs.Moving.{Follows, leads_more, no_more, one_end}
use Rattle.core_proofs.proofs.Keeping.{IsPlainProof, StandsPlainly, all_keep}
use Rattle.binding_terms.proofs.Lists.{all_at, match_some}

-- no step of this kind is right where the steps so far stand
abbrev pub IsRefused : Kept → Step → Type 0
IsRefused kept s = (to : Standing) → Leads (kept_theory kept) (kept_statements kept) (outside 0) (kept_steps kept ++ s ∷ []) to → ⊥

pub statement_at : (kept : Kept) (k : ℕ) (st : Statement) → slice_get kept.statements k ≡ Some st → slice_get (kept_statements kept) k ≡ Some (statement st)
statement_at kept k st e = slice_get-map statement kept.statements k ∙ ap (option_map statement) e

pub no_statement_at : (kept : Kept) (k : ℕ) → slice_get kept.statements k ≡ None → slice_get (kept_statements kept) k ≡ None
no_statement_at kept k e = slice_get-map statement kept.statements k ∙ ap (option_map statement) e

pub provable_at : (kept : Kept) (at : Standing) (k : ℕ) (st : Statement) → IsProving kept at → slice_get kept.statements k ≡ Some st →
    IsProvable (kept_theory kept) (statement st)
provable_at kept at k st is e = all_at (IsProvable (kept_theory kept)) (kept_statements kept) k (statement st) is.provable (statement_at kept k st e)

-- one step more
pub proceeds : (kept : Kept) (at to : Standing) (new : List CoreStep) (s : CoreStep) → IsProving kept at → new ≡ kept.steps ++ s ∷ [] →
    Follows (kept_theory kept) (kept_statements kept) at (step s) to → IsProving (record { system = kept.system; statements = kept.statements; steps = new }) to
proceeds kept at to new s is e follows =
    let steps : kept_steps kept ++ step s ∷ [] ≡ map step new = sym (ap (map step) e ∙ map-append step kept.steps (s ∷ [])) in
    record {
      plain = is.plain;
      provable = is.provable;
      count = is.count;
      leads = subst (λ ss. Leads (kept_theory kept) (kept_statements kept) (outside 0) ss to) steps
          (leads_more (kept_theory kept) (kept_statements kept) (kept_steps kept) (step s) (outside 0) at to is.leads follows);
    }

-- the form that was put at the end is the last one
pub last_of : (forms new : List JScheme) (form again : JScheme) (number : ℕ) → new ≡ forms ++ again ∷ [] → judgment_scheme again ≡ judgment_scheme form →
    number ≡ length forms → (form_at (map judgment_scheme new) (Some number) ≡ Some (judgment_scheme form))
    × (map judgment_scheme new ≡ map judgment_scheme forms ++ judgment_scheme form ∷ [])
last_of forms new form again number e same count =
    let whole : map judgment_scheme new ≡ map judgment_scheme forms ++ judgment_scheme form ∷ [] =
    ap (map judgment_scheme) e ∙ map-append judgment_scheme forms (again ∷ []) ∙ ap (λ j. map judgment_scheme forms ++ j ∷ []) same in (
      ap (λ js. slice_get js number) whole
          ∙ ap (slice_get (map judgment_scheme forms ++ judgment_scheme form ∷ [])) (count ∙ sym (length-map forms judgment_scheme))
          ∙ at_end (map judgment_scheme forms) (judgment_scheme form),
      whole,
    )
  where
    at_end : (js : List JudgmentScheme) (j : JudgmentScheme) → slice_get (js ++ j ∷ []) (length js) ≡ Some j
    at_end [] j = refl
    at_end (i ∷ js) j = at_end js j

-- what the fields hold
abbrev pub kept_of : Inside → Kept
kept_of i = record { system = i.system; statements = i.statements.items; steps = i.steps.items }

module _ (i : Inside) (is : IsProving (kept_of i) (standing i.inside i.ended (names i.scope) (map judgment_scheme i.forms.items) i.last)) where
  abbrev kept : Kept
  kept = kept_of i

  abbrev inside : Bool
  inside = i.inside

  abbrev ended : ℕ
  ended = i.ended

  abbrev scope : Names
  scope = names i.scope

  abbrev forms : List JudgmentScheme
  forms = map judgment_scheme i.forms.items

  abbrev last : Option ℕ
  last = i.last

  abbrev At : Bool → Standing
  At b = standing b ended scope forms last

  abbrev Follow : Bool → Step → Standing → Type 0
  Follow b s to = Follows (kept_theory kept) (kept_statements kept) (At b) s to

  refuse : (s : Step) (b : Bool) → inside ≡ b → ((to : Standing) → Follow b s to → ⊥) → IsRefused kept s
  refuse s b e none =
      no_more (kept_theory kept) (kept_statements kept) (kept_steps kept) s (outside 0) (At inside) is.leads
      (λ to f. none to (subst (λ i. Follow i s to) e f))

  pub refuse_begin_inside : (n : ℕ) → inside ≡ true → IsRefused kept (begin_theorem n)
  refuse_begin_inside n e = refuse (begin_theorem n) true e (λ to f. f)

  pub refuse_begin_other : (n : ℕ) → inside ≡ false → (n ≡ ended → ⊥) → IsRefused kept (begin_theorem n)
  refuse_begin_other n e other = refuse (begin_theorem n) false e (λ to f. other f.number)

  pub refuse_begin_past : (n : ℕ) → inside ≡ false → slice_get kept.statements ended ≡ None → IsRefused kept (begin_theorem n)
  refuse_begin_past n e past =
      refuse (begin_theorem n) false e (λ to f. let none = no_statement_at kept ended past in let some = f.here in let no : ⊥ = cc in no)

  pub begins_at : (n : ℕ) (st : Statement) (first : Names) → inside ≡ false → n ≡ ended → slice_get kept.statements ended ≡ Some st → IsProofScope (statement st) first →
      Follow inside (begin_theorem n) (standing true ended first (given_judgments (statement st).inputs) None)
  begins_at n st first e number here is_scope =
      subst (λ b. Follow b (begin_theorem n) (within ended first (given_judgments (statement st).inputs) None)) (sym e)
      (record { number = number; st = statement st; here = statement_at kept ended st here; scope = first; is_scope = is_scope; leads = refl })

  pub refuse_end_outside : (line : ℕ) → inside ≡ false → IsRefused kept (end_theorem line)
  refuse_end_outside line e = refuse (end_theorem line) false e (λ to f. f)

  pub refuse_end_silent : (line : ℕ) → inside ≡ true → form_at forms last ≡ None → IsRefused kept (end_theorem line)
  refuse_end_silent line e silent = refuse (end_theorem line) true e (λ to f. let some = f.last_is in let no : ⊥ = cc in no)

  pub refuse_end_goal : (line : ℕ) (form : JudgmentScheme) (st : Statement) → inside ≡ true → form_at forms last ≡ Some form → slice_get kept.statements ended ≡ Some st →
      (HasGoal (kept_theory kept) (statement st) scope form → ⊥) → IsRefused kept (end_theorem line)
  refuse_end_goal line form st e said here other =
      refuse (end_theorem line) true e
      (λ to f. let same : f.form ≡ form = same_Some f.form form (sym f.last_is ∙ said) in
      let one : f.st ≡ statement st = same_Some f.st (statement st) (sym f.here ∙ statement_at kept ended st here) in
      other (subst (λ (t : Theorem). HasGoal (kept_theory kept) t scope form) one (subst (HasGoal (kept_theory kept) f.st scope) same f.goal)))

  pub ends_at : (line : ℕ) (form : JudgmentScheme) (st : Statement) → inside ≡ true → form_at forms last ≡ Some form → slice_get kept.statements ended ≡ Some st →
      HasGoal (kept_theory kept) (statement st) scope form → Follow inside (end_theorem line) (outside (ended + 1))
  ends_at line form st e said here goal =
      subst (λ b. Follow b (end_theorem line) (outside (ended + 1))) (sym e)
      (record { form = form; last_is = said; st = statement st; here = statement_at kept ended st here; goal = goal; leads = ap outside (add-one ended) })

  pub refuse_rule_outside : (line r : ℕ) (form : JudgmentScheme) (on : List ℕ) → inside ≡ false → IsRefused kept (by_rule line form r on)
  refuse_rule_outside line r form on e = refuse (by_rule line form r on) false e (λ to f. f)

  pub refuse_rule : (line r : ℕ) (form : JudgmentScheme) (on : List ℕ) → inside ≡ true → (IsRightByRule (kept_theory kept) scope forms form r on → ⊥) →
      IsRefused kept (by_rule line form r on)
  refuse_rule line r form on e other = refuse (by_rule line form r on) true e (λ to f. other f.right)

  pub applies_at : (line r : ℕ) (form : JudgmentScheme) (on : List ℕ) → inside ≡ true → IsRightByRule (kept_theory kept) scope forms form r on →
      Follow inside (by_rule line form r on) (within ended scope (forms ++ form ∷ []) (Some form))
  applies_at line r form on e right =
      subst (λ b. Follow b (by_rule line form r on) (within ended scope (forms ++ form ∷ []) (Some form))) (sym e) (record { right = right; leads = refl })

  -- within a proof the scope and the forms are plain
  pub plain_within : IsPlainSystem (kept_theory kept) → inside ≡ true →
      MatchOption (slice_get (kept_statements kept) ended) ⊥ (λ st. IsPlainProof (kept_theory kept) st scope forms (form_at forms last))
  plain_within system e =
      subst (λ b. StandsPlainly (kept_theory kept) (kept_statements kept) (At b)) e
      (all_keep (kept_theory kept) system (kept_statements kept) is.provable (kept_steps kept) (outside 0) (At inside) tt is.leads)

  pub plain_at : IsPlainSystem (kept_theory kept) → inside ≡ true → (st : Statement) → slice_get kept.statements ended ≡ Some st →
      IsPlainProof (kept_theory kept) (statement st) scope forms (form_at forms last)
  plain_at system e st here =
      let got = match_some (slice_get (kept_statements kept) ended) (λ st. IsPlainProof (kept_theory kept) st scope forms (form_at forms last)) (plain_within system e) in
      let same : got.0 ≡ statement st = same_Some got.0 (statement st) (sym got.1 ∙ statement_at kept ended st here) in
      subst (λ (t : Theorem). IsPlainProof (kept_theory kept) t scope forms (form_at forms last)) same got.2

  pub plain_here : IsPlainSystem (kept_theory kept) → inside ≡ true →
      (st : Theorem) × IsPlainProof (kept_theory kept) st scope forms (form_at forms last)
  plain_here system e =
      let got = match_some (slice_get (kept_statements kept) ended) (λ st. IsPlainProof (kept_theory kept) st scope forms (form_at forms last)) (plain_within system e) in
      (got.0, got.2)

  pub stated_within : IsPlainSystem (kept_theory kept) → inside ≡ true → slice_get kept.statements ended ≡ None → ⊥
  stated_within system e past =
      let got = match_some (slice_get (kept_statements kept) ended) (λ st. IsPlainProof (kept_theory kept) st scope forms (form_at forms last)) (plain_within system e) in
      let none = no_statement_at kept ended past in
      let some = got.1 in
      let no : ⊥ = cc in no

  pub plain_last : IsPlainSystem (kept_theory kept) → inside ≡ true → (form : JudgmentScheme) → form_at forms last ≡ Some form → IsPlainForm (kept_theory kept) scope form
  plain_last system e form said =
      subst (λ (o : Option JudgmentScheme). MatchOption o (Unit {0}) (IsPlainForm (kept_theory kept) scope)) said (plain_here system e).1.last_form

  -- it is not ended
  pub unended_inside : inside ≡ true → Proves (kept_theory kept) (kept_statements kept) (kept_steps kept) → ⊥
  unended_inside e proves =
      let same : At inside ≡ outside (length (kept_statements kept)) =
      one_end (kept_theory kept) (kept_statements kept) (kept_steps kept) (outside 0) (At inside) (outside (length (kept_statements kept))) is.leads proves in
      let wrong : At true ≡ outside (length (kept_statements kept)) = ap At (sym e) ∙ same in
      let no : ⊥ = cc in no

  pub unended_more : inside ≡ false → (ended ≡ length kept.statements → ⊥) → Proves (kept_theory kept) (kept_statements kept) (kept_steps kept) → ⊥
  unended_more e more proves =
      let same : At inside ≡ outside (length (kept_statements kept)) =
      one_end (kept_theory kept) (kept_statements kept) (kept_steps kept) (outside 0) (At inside) (outside (length (kept_statements kept))) is.leads proves in
      let alike : At false ≡ outside (length (kept_statements kept)) = ap At (sym e) ∙ same in
      let number : ended ≡ length (kept_statements kept) = cc in
      more (number ∙ length-map kept.statements statement)

  pub accepted : inside ≡ false → ended ≡ length kept.statements → IsAccepted kept
  accepted e number =
      record {
        plain = is.plain;
        provable = is.provable;
        count = is.count;
        proves = subst (λ (t : Standing). Leads (kept_theory kept) (kept_statements kept) (outside 0) (kept_steps kept) t)
            (ap At e ∙ ap outside (number ∙ sym (length-map kept.statements statement))) is.leads;
      }

  -- one step by a rule more
  pub applied : (line : ℕ) (rule : RuleId) (form : JScheme) (on : List StepId) → inside ≡ true →
      IsRightByRule (kept_theory kept) scope forms (judgment_scheme form) rule.0 (map (λ id. id.0) on) →
      (new : List JScheme) (again : JScheme) (number : ℕ) → new ≡ i.forms.items ++ again ∷ [] → judgment_scheme again ≡ judgment_scheme form → number ≡ length i.forms.items →
      (steps : List CoreStep) → steps ≡ i.steps.items ++ Rule line form rule on ∷ [] →
      IsProving (record { system = i.system; statements = i.statements.items; steps = steps }) (standing inside ended scope (map judgment_scheme new) (Some number))
  applied line rule form on e right new again number longer same count steps more =
      let ended_with = last_of i.forms.items new form again number longer same count in
      let at_end : within ended scope (forms ++ judgment_scheme form ∷ []) (Some (judgment_scheme form)) ≡ standing inside ended scope (map judgment_scheme new) (Some number) =
      ap (λ js. within ended scope js (Some (judgment_scheme form))) (sym ended_with.1)
      ∙ ap (λ o. within ended scope (map judgment_scheme new) o) (sym ended_with.0) ∙ ap (λ b. standing b ended scope (map judgment_scheme new) (Some number)) (sym e) in
      subst (λ (t : Standing). IsProving (record { system = i.system; statements = i.statements.items; steps = steps }) t) at_end
      (proceeds kept (At inside) (within ended scope (forms ++ judgment_scheme form ∷ []) (Some (judgment_scheme form))) steps (Rule line form rule on) is more
      (applies_at line rule.0 (judgment_scheme form) (map (λ id. id.0) on) e right))
