-- Which codes judgments, rules and statements can have. To be held against the tables of 'Faults of judgments and rules' and 'Faults of
-- statements' of docs/notation.md.
use Rattle.std.specs.Prelude.{◌≡◌, ℕ, List, [], ◌∷◌}
use Rattle.binding_terms.specs.Numbered.{AnyByRecursion}
use Rattle.binding_terms.specs.Signature.{Signature}
use Rattle.sy_base.specs.Tokens.{PlainToken}
use Rattle.sy_base.specs.declared.fault.Code.{Code}
use Rattle.sy_base.specs.declared.fault.Code.TheVariants.{TooMany, Duplicate, UnknownWord, BadBinder, BadContext, NameTaken, TooLong, NoReading, Ambiguous, BadConclusion, NotStrict, NeedsContext, TwoAssumptions, TargetCount, NoName, RootMismatch}
use Rattle.outline_reader.specs.Plain.{PlainPortion}
use Rattle.phase_faults.specs.JudgmentFaults.{JudgmentFaults}
use Rattle.phase_faults.specs.StatementFaults.{StatementFaults}

-- the codes of judgments and rules, in their order
abbrev pub judgment_codes : List Code
judgment_codes =
    TooMany ∷ Duplicate ∷ UnknownWord ∷ BadBinder ∷ BadContext ∷ TooLong ∷ NoReading ∷ Ambiguous ∷ BadConclusion ∷ NotStrict ∷ NeedsContext ∷
    TwoAssumptions ∷ RootMismatch ∷ []

-- the codes of statements, in their order
abbrev pub statement_codes : List Code
statement_codes =
    TooMany ∷ Duplicate ∷ UnknownWord ∷ NameTaken ∷ TooLong ∷ NoReading ∷ Ambiguous ∷ NotStrict ∷ NeedsContext ∷ TargetCount ∷ NoName ∷
    RootMismatch ∷ []

-- the code is one of these
abbrev pub IsCodeOf : List Code → Code → Type 0
IsCodeOf codes found = AnyByRecursion (λ code. found ≡ code) codes

-- a fault of judgments and rules has one of their codes
abbrev pub JudgmentsHaveTheirCodes : Type 0
JudgmentsHaveTheirCodes =
    (portions : List PlainPortion) (sig : Signature) (found : Code) (token : PlainToken) (detail : List ℕ) →
    JudgmentFaults portions sig found token detail → IsCodeOf judgment_codes found

-- a fault of statements has one of theirs
abbrev pub StatementsHaveTheirCodes : Type 0
StatementsHaveTheirCodes =
    (portions : List PlainPortion) (sig : Signature) (found : Code) (token : PlainToken) (detail : List ℕ) →
    StatementFaults portions sig found token detail → IsCodeOf statement_codes found
