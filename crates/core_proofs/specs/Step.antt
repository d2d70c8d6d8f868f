-- The steps of proofs, as plain data. To be held against docs/notation.md, 'Steps'.
use Rattle.std.specs.Prelude.{ℕ, List}
use Rattle.rule_schemes.specs.Rules.{JudgmentScheme}

pub data Step : Type 0 where
  begin_theorem : (theorem : ℕ) → Step
  end_theorem : (line : ℕ) → Step
  by_rule : (line : ℕ) → JudgmentScheme → (rule : ℕ) → (on : List ℕ) → Step
