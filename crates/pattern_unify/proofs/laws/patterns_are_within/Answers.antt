use Rattle.pattern_unify.proofs.PatternRuns.{patterns_are_within}
use Rattle.pattern_unify.proofs.laws.patterns_are_within.Goals as goal

pub returns : goal.returns
returns c = patterns_are_within
