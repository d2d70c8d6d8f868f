-- The fault of a step that is refused where an object stands.
use Rattle.std.proofs.Common.{◌≡◌, ℕ, Bool, true, false, List, [], length, map, Option, Some, None, slice_get, MatchOption, unwrap_or, refl, sym, subst, true≢false}
use Rattle.std.specs.Prelude.{option_map, IsSome}
use Rattle.scheme_terms.specs.Forms.{Names}
use Rattle.scheme_terms.specs.View.{names}
use Rattle.rule_schemes.specs.Rules.{JudgmentScheme, Rule, Theory, IsJudgmentScheme}
use Rattle.rule_schemes.specs.View.{statement, judgment_scheme}
use Rattle.rule_schemes.specs.Statement.{Theorem}
use Rattle.rule_schemes.specs.declared.rule.Statement.{Statement}
use Rattle.sy_base.specs.declared.fault.Code.{Code}
use Rattle.sy_base.specs.declared.fault.Code.TheVariants.{BadStep, WrongCount, NotInstance, NotTheGoal}
use Rattle.sy_base.specs.declared.fault.Fault.{Fault}
use Rattle.sy_base.specs.declared.fault.Refusal.{Refusal}
use Rattle.sy_base.specs.declared.fault.Refusal.TheVariants.{Refused}
use Rattle.core_proofs.specs.declared.proving.Proving.TheInside.{Inside}
use Rattle.core_proofs.specs.Faults.{CanStandByRule, IsRuleCode, cannot_stand, another_count, no_instance, LacksGoal, IsCodeOf, step_line, detail_of, rule_detail, step_detail, IsFaultOf, IsTold}
use Rattle.core_proofs.specs.FormEquations.{cited_forms}
use Rattle.core_proofs.specs.Kept.{Kept, kept_theory, kept_statements, form_at, standing, IsProving}
use Rattle.core_proofs.specs.Proof.{HasGoal, IsStepForm, Standing}
use Rattle.proof_trees.specs.RuleStep.{IsRuleInstance}
use Rattle.core_proofs.specs.Step.{Step, begin_theorem, end_theorem, by_rule}
use Rattle.core_proofs.proofs.CitedForms.{cited_are, are_cited}
use Rattle.core_proofs.proofs.Refusing.{kept_of, statement_at, no_statement_at}

module _ (th : Theory) (scope : Names) (scoped : List JudgmentScheme) (form : JudgmentScheme) (r : ℕ) (on : List ℕ) where
  pub form_is_none : (IsJudgmentScheme th scope form → ⊥) → IsRuleCode th scope scoped form r on BadStep
  form_is_none other = cannot_stand (λ stands. other stands.form_is.in_scope)

  pub number_of_none : cited_forms scoped on ≡ None → IsRuleCode th scope scoped form r on BadStep
  number_of_none none =
      cannot_stand (λ stands. let some = are_cited scoped on stands.numbers.0 stands.numbers.1 in let no : ⊥ = cc in no)

  pub rule_is_none : slice_get th.rules r ≡ None → IsRuleCode th scope scoped form r on BadStep
  rule_is_none none = cannot_stand (λ stands. true≢false (sym (subst IsSome none stands.some_rule)))

  module _ (cited : List JudgmentScheme) (rule : Rule) (form_is : IsStepForm th scope form) (some : cited_forms scoped on ≡ Some cited) (here : slice_get th.rules r ≡ Some rule) where
    can_stand : CanStandByRule th scope scoped form r on
    can_stand = record { form_is = form_is; numbers = (cited, cited_are scoped on cited some); some_rule = subst IsSome (sym here) refl }

    pub counts_differ : (length on ≡ length rule.premises → ⊥) → IsRuleCode th scope scoped form r on WrongCount
    counts_differ other = another_count rule can_stand here other

    pub is_no_instance : length on ≡ length rule.premises → (IsRuleInstance th scope form cited rule → ⊥) → IsRuleCode th scope scoped form r on NotInstance
    is_no_instance count other = no_instance rule cited can_stand here (cited_are scoped on cited some) count other

no_detail : (o : Option Rule) → unwrap_or (option_map (detail_of BadStep) o) [] ≡ []
no_detail None = refl
no_detail (Some rule) = refl

-- a refusal with such a fault tells it
pub told : (kept now : Kept) (s : Step) (refusal : Refusal) (fault : Fault) → kept ≡ now → refusal ≡ Refused fault → IsFaultOf kept s fault → IsTold now s refusal
told kept now s refusal fault same is fault_is =
    subst (λ (k : Kept). IsTold k s refusal) same (subst (IsTold kept s) (sym is) fault_is)

module _ (i : Inside) (is : IsProving (kept_of i) (standing i.inside i.ended (names i.scope) (map judgment_scheme i.forms.items) i.last)) where
  abbrev kept : Kept
  kept = kept_of i

  abbrev At : Bool → Standing
  At b = standing b i.ended (names i.scope) (map judgment_scheme i.forms.items) i.last

  fault_at : (s : Step) (b : Bool) (code : Code) (detail : List ℕ) → i.inside ≡ b → IsCodeOf (kept_theory kept) (kept_statements kept) (At b) s code →
      detail ≡ step_detail (kept_theory kept) s code → IsFaultOf kept s (record { line = step_line s; code = code; detail = detail })
  fault_at s b code detail e code_is detail_is =
      record {
        at = At i.inside;
        leads = is.leads;
        line = refl;
        code = subst (λ b. IsCodeOf (kept_theory kept) (kept_statements kept) (At b) s code) (sym e) code_is;
        detail = detail_is;
      }

  pub begin_inside : (n : ℕ) → i.inside ≡ true → IsFaultOf kept (begin_theorem n) (record { line = 0; code = BadStep; detail = [] })
  begin_inside n e = fault_at (begin_theorem n) true BadStep [] e refl refl

  pub begin_other : (n : ℕ) → i.inside ≡ false → (n ≡ i.ended → ⊥) → IsFaultOf kept (begin_theorem n) (record { line = 0; code = BadStep; detail = [] })
  begin_other n e other = fault_at (begin_theorem n) false BadStep [] e (refl, λ same some. other same) refl

  pub begin_past : (n : ℕ) → i.inside ≡ false → slice_get i.statements.items i.ended ≡ None →
      IsFaultOf kept (begin_theorem n) (record { line = 0; code = BadStep; detail = [] })
  begin_past n e past =
      fault_at (begin_theorem n) false BadStep [] e (refl, λ same some. true≢false (sym (subst IsSome (no_statement_at kept i.ended past) some))) refl

  pub end_outside : (line : ℕ) → i.inside ≡ false → IsFaultOf kept (end_theorem line) (record { line = line; code = BadStep; detail = [] })
  end_outside line e = fault_at (end_theorem line) false BadStep [] e refl refl

  pub end_silent : (line : ℕ) → i.inside ≡ true → form_at (map judgment_scheme i.forms.items) i.last ≡ None →
      IsFaultOf kept (end_theorem line) (record { line = line; code = NotTheGoal; detail = [] })
  end_silent line e silent =
      fault_at (end_theorem line) true NotTheGoal [] e
      (refl, subst (LacksGoal (kept_theory kept) (kept_statements kept) i.ended (names i.scope)) (sym silent) tt) refl

  pub end_goal : (line : ℕ) (form : JudgmentScheme) (st : Statement) → i.inside ≡ true → form_at (map judgment_scheme i.forms.items) i.last ≡ Some form →
      slice_get i.statements.items i.ended ≡ Some st → (HasGoal (kept_theory kept) (statement st) (names i.scope) form → ⊥) →
      IsFaultOf kept (end_theorem line) (record { line = line; code = NotTheGoal; detail = [] })
  end_goal line form st e said here other =
      let lacks : LacksGoal (kept_theory kept) (kept_statements kept) i.ended (names i.scope) (Some form) =
      subst (λ (o : Option Theorem). MatchOption o ⊥ (λ st. HasGoal (kept_theory kept) st (names i.scope) form → ⊥)) (sym (statement_at kept i.ended st here)) other in
      fault_at (end_theorem line) true NotTheGoal [] e
      (refl, subst (LacksGoal (kept_theory kept) (kept_statements kept) i.ended (names i.scope)) (sym said) lacks) refl

  pub rule_outside : (line r : ℕ) (form : JudgmentScheme) (on : List ℕ) → i.inside ≡ false →
      IsFaultOf kept (by_rule line form r on) (record { line = line; code = BadStep; detail = [] })
  rule_outside line r form on e =
      fault_at (by_rule line form r on) false BadStep [] e refl (sym (no_detail (slice_get (kept_theory kept).rules r)))

  pub rule_within : (line r : ℕ) (form : JudgmentScheme) (on : List ℕ) (code : Code) (detail : List ℕ) → i.inside ≡ true →
      IsRuleCode (kept_theory kept) (names i.scope) (map judgment_scheme i.forms.items) form r on code → detail ≡ rule_detail (kept_theory kept) r code →
      IsFaultOf kept (by_rule line form r on) (record { line = line; code = code; detail = detail })
  rule_within line r form on code detail e code_is detail_is = fault_at (by_rule line form r on) true code detail e code_is detail_is
