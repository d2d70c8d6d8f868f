use Rattle.pattern_unify.proofs.RunFacts.{clash_answer, occurs_answer}
use Rattle.pattern_unify.proofs.WorkedRuns.{clash_below_binders}
use Rattle.pattern_unify.proofs.worked.what_escapes_clashes.Goals as goal

pub returns : goal.returns
returns c = record { escaping = clash_answer; circular = occurs_answer; below = clash_below_binders }
