use Rattle.pattern_unify.proofs.Ending.{run_ends}
use Rattle.pattern_unify.proofs.laws.run_ends.Goals as goal

pub returns : goal.returns
returns c = run_ends
