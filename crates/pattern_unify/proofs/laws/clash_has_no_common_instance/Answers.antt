use Rattle.pattern_unify.proofs.GroundClashing.{clash_has_none}
use Rattle.pattern_unify.proofs.laws.clash_has_no_common_instance.Goals as goal

pub returns : goal.returns
returns c = clash_has_none
