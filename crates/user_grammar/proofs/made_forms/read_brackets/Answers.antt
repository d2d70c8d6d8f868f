use Rattle.proof_lexer.specs.View.{token_view}
use Rattle.user_grammar.proofs.MadeReadings.{brackets_end, brackets_over}
use Rattle.user_grammar.proofs.made_forms.read_brackets.Goals as goal

pub returns-in-None-clause-found : goal.returns-in-None-clause-found
returns-in-None-clause-found c = λ words rest are shut.
    brackets_end token_view c.args.tokens.now c.loop-token.token-index c.loop-token.count _ c.loop-token.spot _ words rest c.loop-token-test.true c.loop-token.invariant.count
    (c.loop-token.invariant.left words rest are shut) c.in-None.ensures shut

pub returns-clause-found : goal.returns-clause-found
returns-clause-found c = λ words rest are shut.
    brackets_over token_view c.args.tokens.now c.loop-token.token-index c.loop-token.count c.loop-token.spot _ words rest c.loop-token-test.false c.loop-token.invariant.count
    (c.loop-token.invariant.left words rest are shut)
