use Rattle.proof_check.proofs.step.justified.Goals as goal

pub returns-in-Rule : goal.returns-in-Rule
returns-in-Rule c = rw (c.in-Rule.is) (rw c.as_slice.ensures.value at c.by_rule.ensures)
