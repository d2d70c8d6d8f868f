use Rattle.rule_schemes.proofs.RowLemmas.{AreMarks-push}
use Rattle.rule_schemes.proofs.keeping.premises_row.Goals as goal

pub loop-below-preserved : goal.loop-below-preserved
loop-below-preserved c = rw c.in_ok-push.ensures.ok (AreMarks-push _ _ _ _ c.loop-below.invariant c.is_below_some.ensures)
