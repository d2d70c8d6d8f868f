use Rattle.pattern_unify.proofs.Ending.{within_or_stuck}
use Rattle.pattern_unify.proofs.laws.within_or_stuck.Goals as goal

pub returns : goal.returns
returns c = within_or_stuck
