use Rattle.pattern_unify.proofs.RunFunction.{run_is_function}
use Rattle.pattern_unify.proofs.laws.run_has_one_end.Goals as goal

pub returns : goal.returns
returns c = run_is_function
