use Rattle.proof_trees.proofs.Facts.{later_calls_earlier, earlier_does_not_call_later}
use Rattle.proof_trees.proofs.worked.calls_in_a_group.Goals as goal

pub returns : goal.returns
returns c = record { later = later_calls_earlier; earlier = earlier_does_not_call_later }
