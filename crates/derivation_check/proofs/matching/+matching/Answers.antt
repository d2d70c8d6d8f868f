use Rattle.std.proofs.Common.{sym, true≢false}
use Rattle.derivation_check.proofs.PartLists.{parts_long}
use Rattle.derivation_check.proofs.matching.+matching.Goals as goal

pub parts_match-returns-then-patterns-targets : goal.parts_match-returns-then-patterns-targets
parts_match-returns-then-patterns-targets t c = (
  λ e. absurd (true≢false (sym e)),
  λ h. absurd (c.if-patterns-targets.true (parts_long _ _ c.args.locals c.args.patterns.now c.args.targets.now h)),
)
