-- Which forms a step cites. To be held against docs/notation.md, 'Steps'.
use Rattle.std.specs.Prelude.{◌≡◌, ℕ, List, Some, slice_get}
use Rattle.std.specs.List.{AllZip}
use Rattle.rule_schemes.specs.Rules.{JudgmentScheme}

-- the judgments of the cited steps, in order
abbrev pub AreCited : List JudgmentScheme → (on : List ℕ) → List JudgmentScheme → Type 0
AreCited scoped on cited = AllZip (λ n j. slice_get scoped n ≡ Some j) on cited
