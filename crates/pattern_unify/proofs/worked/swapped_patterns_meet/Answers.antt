use Rattle.pattern_unify.proofs.RunFacts.{meet_answer, no_equation}
use Rattle.pattern_unify.proofs.worked.swapped_patterns_meet.Goals as goal

pub returns : goal.returns
returns c = record { swapped = meet_answer; none = no_equation }
