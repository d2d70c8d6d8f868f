use Rattle.pattern_unify.proofs.RunInstances.{start_has_common_instances}
use Rattle.pattern_unify.proofs.laws.start_has_common_instances.Goals as goal

pub returns : goal.returns
returns c = start_has_common_instances
