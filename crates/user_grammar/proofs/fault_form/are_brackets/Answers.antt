use Rattle.user_grammar.proofs.FaultForm.{brackets_stop, brackets_on}
use Rattle.user_grammar.proofs.fault_form.are_brackets.Goals as goal

pub returns-in-None : goal.returns-in-None
returns-in-None c = brackets_stop c.args.rest.now c.loop-token.token-index _ c.loop-token.expected c.loop-token-test.true c.in-None.ensures c.loop-token.invariant

pub loop-token-preserved : goal.loop-token-preserved
loop-token-preserved c = brackets_on c.args.rest.now c.loop-token.token-index _ c.loop-token.expected c.in-Some.next c.loop-token-test.true c.in-Some.ensures c.loop-token.invariant
