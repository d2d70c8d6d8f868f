-- With which line, code and detail a step is refused. To be held against docs/notation.md, 'Steps', and the codes of `sy_base`.
use Rattle.std.specs.Prelude.{◌≡◌, ◌≢◌, ℕ, List, [], length, Option, Some, IsSome, option_map, unwrap_or, slice_get, decimal, MatchOption}
use Rattle.scheme_terms.specs.Forms.{Names}
use Rattle.rule_schemes.specs.Rules.{JudgmentScheme, Rule, Theory}
use Rattle.rule_schemes.specs.Statement.{Theorem}
use Rattle.sy_base.specs.declared.fault.Code.{Code}
use Rattle.sy_base.specs.declared.fault.Code.TheVariants.{BadStep, WrongCount, NotInstance, NotTheGoal}
use Rattle.sy_base.specs.declared.fault.Fault.{Fault}
use Rattle.sy_base.specs.declared.fault.Refusal.{Refusal}
use Rattle.sy_base.specs.declared.fault.Refusal.TheVariants.{Refused, NoMemory}
use Rattle.core_proofs.specs.Kept.{Kept, kept_theory, kept_statements, kept_steps}
use Rattle.core_proofs.specs.Proof.{HasGoal, IsStepForm, Standing, outside, within, Leads}
use Rattle.proof_trees.specs.RuleStep.{IsRuleInstance}
use Rattle.core_proofs.specs.RuleStep.{AreCited}
use Rattle.core_proofs.specs.Step.{Step, begin_theorem, end_theorem, by_rule}

-- A step by a rule can stand within a proof: its form is one of the proof, each cited number is that of a form in scope, and there is
-- the rule.
pub record CanStandByRule (th : Theory) (scope : Names) (scoped : List JudgmentScheme) (form : JudgmentScheme) (r : ℕ) (on : List ℕ) : Type 0 where
  pub form_is : IsStepForm th scope form
  pub numbers : (cited : List JudgmentScheme) × AreCited scoped on cited
  pub some_rule : IsSome (slice_get th.rules r)

-- The code of a step by a rule within a proof. BadStep comes before any other, then that of a wrong number of cited steps.
pub data IsRuleCode (th : Theory) (scope : Names) (scoped : List JudgmentScheme) (form : JudgmentScheme) (r : ℕ) (on : List ℕ) : Code → Type 0 where
  cannot_stand : (CanStandByRule th scope scoped form r on → ⊥) → IsRuleCode th scope scoped form r on BadStep
  another_count : (rule : Rule) → CanStandByRule th scope scoped form r on → slice_get th.rules r ≡ Some rule
      → length on ≢ length rule.premises → IsRuleCode th scope scoped form r on WrongCount
  no_instance : (rule : Rule) (cited : List JudgmentScheme) → CanStandByRule th scope scoped form r on → slice_get th.rules r ≡ Some rule
      → AreCited scoped on cited → length on ≡ length rule.premises → (IsRuleInstance th scope form cited rule → ⊥)
      → IsRuleCode th scope scoped form r on NotInstance

-- the last step, where there is one, does not have the goal
abbrev pub LacksGoal : Theory → List Theorem → (theorem : ℕ) → Names → (last : Option JudgmentScheme) → Type 0
LacksGoal th sts k scope last = MatchOption last (Unit {0}) (λ form. MatchOption (slice_get sts k) ⊥ (λ st. HasGoal th st scope form → ⊥))

-- The code of a step that is refused where the steps so far stand. BadStep is that of one which cannot stand there: the beginning of
-- another theorem than the next one, or of any within a proof, and every other step outside of a proof.
abbrev pub IsCodeOf : Theory → List Theorem → Standing → Step → Code → Type 0
IsCodeOf th sts (outside k) (begin_theorem n) code = (code ≡ BadStep) × (n ≡ k → IsSome (slice_get sts k) → ⊥)
IsCodeOf th sts (outside k) (end_theorem line) code = code ≡ BadStep
IsCodeOf th sts (outside k) (by_rule line form r on) code = code ≡ BadStep
IsCodeOf th sts (within k scope scoped last) (begin_theorem n) code = code ≡ BadStep
IsCodeOf th sts (within k scope scoped last) (end_theorem line) code = (code ≡ NotTheGoal) × LacksGoal th sts k scope last
IsCodeOf th sts (within k scope scoped last) (by_rule line form r on) code = IsRuleCode th scope scoped form r on code

-- the line of a step, 0 for a beginning
abbrev pub step_line : Step → ℕ
step_line (begin_theorem n) = 0
step_line (end_theorem line) = line
step_line (by_rule line form r on) = line

-- What is told beside a code: for WrongCount how many premises the rule has, for NotInstance its name, else nothing.
abbrev pub detail_of : Code → Rule → List ℕ
detail_of WrongCount rule = decimal (length rule.premises)
detail_of NotInstance rule = rule.name
detail_of _ rule = []

abbrev pub rule_detail : Theory → (rule : ℕ) → Code → List ℕ
rule_detail th r code = unwrap_or (option_map (detail_of code) (slice_get th.rules r)) []

abbrev pub step_detail : Theory → Step → Code → List ℕ
step_detail th (begin_theorem n) code = []
step_detail th (end_theorem line) code = []
step_detail th (by_rule line form r on) code = rule_detail th r code

-- the fault of a step that is refused after the kept steps: its line, the code that applies where these stand, and the detail
pub record IsFaultOf (kept : Kept) (step : Step) (fault : Fault) : Type 0 where
  pub at : Standing
  pub leads : Leads (kept_theory kept) (kept_statements kept) (outside 0) (kept_steps kept) at
  pub line : fault.line ≡ step_line step
  pub code : IsCodeOf (kept_theory kept) (kept_statements kept) at step fault.code
  pub detail : fault.detail ≡ step_detail (kept_theory kept) step fault.code

-- a refusal tells the step's fault; want of memory tells nothing
abbrev pub IsTold : Kept → Step → Refusal → Type 0
IsTold kept step (Refused fault) = IsFaultOf kept step fault
IsTold kept step NoMemory = Unit {0}
