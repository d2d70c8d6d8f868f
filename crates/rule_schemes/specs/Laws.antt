-- What derivations keep.
use Rattle.rule_schemes.specs.Rules.{Theory, IsSystemSoFar, IsJudgment}
use Rattle.rule_schemes.specs.Derivation.{Derivation, judgment, Derives}

-- what a derivation over a system derives is a judgment
abbrev pub DerivesAJudgment : Type 0
DerivesAJudgment = (th : Theory) (d : Derivation) → IsSystemSoFar th → Derives th d → IsJudgment th (judgment d)
