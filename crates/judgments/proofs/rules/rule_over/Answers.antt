use Rattle.judgments.proofs.rules.rule_over.Goals as goal

pub returns-in-None : goal.returns-in-None
returns-in-None c = rw (c.in-None.is, c.scope_of-scope.ensures.scope, c.in_ok-with_more.ensures, c.as_slice.ensures) at c.in_ok-forms.ensures
