-- What an object that keeps proofs holds. To be held against docs/notation.md, 'Steps'.
use Rattle.std.specs.Prelude.{ℕ, ◌<◌, ◌^◌, Bool, true, false, List, length, map, Option, Some, None, slice_get}
use Rattle.std.specs.List.{AllByRecursion}
use Rattle.scheme_terms.specs.Forms.{Names}
use Rattle.rule_schemes.specs.Parts.{Parts}
use Rattle.rule_schemes.specs.Plain.{IsPlainTheory}
use Rattle.rule_schemes.specs.Rules.{JudgmentScheme, Theory}
use Rattle.rule_schemes.specs.Statement.{Theorem}
use Rattle.rule_schemes.specs.View.{theory, statement}
use Rattle.rule_schemes.specs.declared.rule.Statement.{Statement}
use Rattle.core_proofs.specs.declared.step.CoreStep.{CoreStep}
use Rattle.core_proofs.specs.Step.{Step}
use Rattle.core_proofs.specs.View.{step}
use Rattle.core_proofs.specs.Proof.{Standing, outside, within, Leads, Proves}
use Rattle.core_proofs.specs.Provable.{IsProvable}

-- the system, the statements that are to be proved, and the steps that were kept
pub record Kept : Type 0 where
  pub system : Parts
  pub statements : List Statement
  pub steps : List CoreStep

abbrev pub kept_theory : Kept → Theory
kept_theory k = theory k.system

abbrev pub kept_statements : Kept → List Theorem
kept_statements k = map statement k.statements

abbrev pub kept_steps : Kept → List Step
kept_steps k = map step k.steps

-- the form with a number, where there is one
abbrev pub form_at : List JudgmentScheme → Option ℕ → Option JudgmentScheme
form_at forms None = None
form_at forms (Some n) = slice_get forms n

-- after so many theorems, or within the next one
abbrev pub standing : (inside : Bool) → (ended : ℕ) → Names → List JudgmentScheme → (last : Option ℕ) → Standing
standing false k scope forms last = outside k
standing true k scope forms last = within k scope forms (form_at forms last)

-- nothing binds and there is no context, the statements can be proved, and the kept steps are right and lead to where they stand
pub record IsProving (kept : Kept) (at : Standing) : Type 0 where
  pub plain : IsPlainTheory (kept_theory kept)
  pub provable : AllByRecursion (IsProvable (kept_theory kept)) (kept_statements kept)
  pub count : length kept.statements < 2 ^ 32
  pub leads : Leads (kept_theory kept) (kept_statements kept) (outside 0) (kept_steps kept) at

-- nothing binds and there is no context, the statements can be proved, and the kept steps are right proofs of all of them
pub record IsAccepted (kept : Kept) : Type 0 where
  pub plain : IsPlainTheory (kept_theory kept)
  pub provable : AllByRecursion (IsProvable (kept_theory kept)) (kept_statements kept)
  pub count : length kept.statements < 2 ^ 32
  pub proves : Proves (kept_theory kept) (kept_statements kept) (kept_steps kept)
