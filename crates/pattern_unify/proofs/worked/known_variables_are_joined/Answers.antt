use Rattle.pattern_unify.proofs.WorkedRuns.{known_are_to_unify, known_are_joined}
use Rattle.pattern_unify.proofs.worked.known_variables_are_joined.Goals as goal

pub returns : goal.returns
returns c = record { to_unify = known_are_to_unify; joined = known_are_joined }
