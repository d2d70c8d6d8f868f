-- What is said of a file. To be held against docs/notation.md, 'Files' and 'Faults'.
use Rattle.std.specs.Prelude.{List, ℕ, Some, None}
use Rattle.proof_check.specs.declared.judge.Judged.{Judged}
use Rattle.proof_check.specs.declared.judge.Judged.TheVariants.{Right, Grammar, Faulty, Wrong}
use Rattle.proof_check.specs.Faults.{HasNoFaultYet, IsFaultText}
use Rattle.proof_check.specs.File.{IsRightSoFar, IsOnlyFile, IsRightFile}
use Rattle.proof_check.specs.NotBuilt.{HasNotBuilt}

-- Right: what is accepted is the one thing for which the file stands, and no place is not built. Grammar: the file is right, and is a grammar
-- alone that is not accepted so far. Faulty: the text tells its first fault. Wrong: it has no such fault. A file of either is not right.
abbrev pub IsJudged : List ℕ → Judged → Type 0
IsJudged source (Right accepted) = (HasNotBuilt source → ⊥) × IsOnlyFile (IsRightSoFar source) (Some accepted)
IsJudged source Grammar = IsRightFile source × IsOnlyFile (IsRightSoFar source) None
IsJudged source (Faulty text) = IsFaultText source text.items × (IsRightFile source → ⊥)
IsJudged source Wrong = HasNoFaultYet source × (IsRightFile source → ⊥)
