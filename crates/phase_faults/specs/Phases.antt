-- Judgments and rules are one phase, statements the next. To be held against 'Phases' of docs/notation.md.
use Rattle.std.specs.Prelude.{ℕ, List}
use Rattle.binding_terms.specs.Signature.{Signature}
use Rattle.sy_base.specs.FirstFault.{Faults, Then, IsFirstFault, at_token}
use Rattle.sy_base.specs.Tokens.{PlainToken}
use Rattle.sy_base.specs.declared.fault.Code.{Code}
use Rattle.outline_reader.specs.Plain.{PlainPortion}
use Rattle.phase_faults.specs.JudgmentFaults.{JudgmentFaults}
use Rattle.phase_faults.specs.StatementFaults.{StatementFaults}

-- the faults of judgments and rules, and where these have none, those of the statements
abbrev pub PhaseFaults : List PlainPortion → Signature → Faults PlainToken
PhaseFaults portions sig = Then (JudgmentFaults portions sig) (StatementFaults portions sig)

-- the first fault of judgments and rules, with its line
abbrev pub IsFirstJudgmentFault : List PlainPortion → Signature → (line : ℕ) → Code → (detail : List ℕ) → Type 0
IsFirstJudgmentFault portions sig line found detail = IsFirstFault at_token (JudgmentFaults portions sig) line found detail

-- the first fault of the statements, with its line
abbrev pub IsFirstStatementFault : List PlainPortion → Signature → (line : ℕ) → Code → (detail : List ℕ) → Type 0
IsFirstStatementFault portions sig line found detail = IsFirstFault at_token (StatementFaults portions sig) line found detail

-- the first fault of both phases, with its line
abbrev pub IsFirstPhaseFault : List PlainPortion → Signature → (line : ℕ) → Code → (detail : List ℕ) → Type 0
IsFirstPhaseFault portions sig line found detail = IsFirstFault at_token (PhaseFaults portions sig) line found detail
