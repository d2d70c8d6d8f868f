-- The steps of proofs, as plain data. To be held against docs/notation.md, 'Steps'.
use Rattle.std.specs.Prelude.{ℕ, List, Option}
use Rattle.scheme_terms.specs.SchemeTree.{SchemeTree}
use Rattle.scheme_terms.specs.Forms.{Names}
use Rattle.scheme_terms.specs.declared.scheme.MetaDecl.{MetaDecl}
use Rattle.rule_schemes.specs.Rules.{JudgmentScheme}
use Rattle.case_split.specs.declared.choice.Place.{Place}

-- what a block analyses: the derivation of a step, or a scheme of a category
pub data Subject : Type 0 where
  step_subject : (step : ℕ) → Subject
  scheme_subject : SchemeTree → (cat : ℕ) → Subject

-- an argument of a call: the derivation of a step, or a scheme
pub data CallArgument : Type 0 where
  step_argument : (step : ℕ) → CallArgument
  scheme_argument : SchemeTree → CallArgument

-- a step that opens and closes no block, by its justification
pub data Simple : Type 0 where
  by_rule : (line : ℕ) → (form : JudgmentScheme) → (rule : ℕ) → (on : List ℕ) → Simple
  by_call : (line : ℕ) → (forms : List JudgmentScheme) → (callee : ℕ) → (args : List CallArgument) → (fresh : List MetaDecl) → Simple
  by_name : (line : ℕ) → (forms : List JudgmentScheme) → (of : List ℕ) → Simple
  by_weakening : (line : ℕ) → (form : JudgmentScheme) → (of : ℕ) → Simple
  by_exchange : (line : ℕ) → (form : JudgmentScheme) → (of : ℕ) → Simple
  by_substitution : (line : ℕ) → (form : JudgmentScheme) → (of by : ℕ) → Simple
  unproved : (line : ℕ) → (forms : List JudgmentScheme) → Simple

-- The beginning of a block on cases: its forms, or none where it takes over the goal, what it analyses, and the choices of its cases by
-- the number of a rule or production, 0 for an explicit entry in a block on a scheme.
pub record SplitHead : Type 0 where
  pub line : ℕ
  pub forms : List JudgmentScheme
  pub subject : Subject
  pub named : List (ℕ × Place)

-- the head of a case: the choice that it is of, its scope, and its premises with a conclusion, or its term
pub record CaseHead : Type 0 where
  pub line : ℕ
  pub number : ℕ
  pub place : Place
  pub scope : Names
  pub premises : List JudgmentScheme
  pub conclusion : Option JudgmentScheme
  pub term : Option SchemeTree

-- one step as it is handed in
pub data Step : Type 0 where
  begin_theorem : (theorem : ℕ) → Step
  end_theorem : (line : ℕ) → Step
  simple : Simple → Step
  begin_split : SplitHead → Step
  begin_case : CaseHead → Step
  end_case : (line : ℕ) → Step
  end_split : (line : ℕ) → Step
