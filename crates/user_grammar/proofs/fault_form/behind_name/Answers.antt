use Rattle.proof_lexer.specs.View.{token_view}
use Rattle.user_grammar.proofs.FaultForm.{comma_goes_on, closing_goes_on, no_goes_on}
use Rattle.user_grammar.proofs.fault_form.behind_name.Goals as goal

pub returns-then-is_comma : goal.returns-then-is_comma
returns-then-is_comma c = comma_goes_on (token_view c.args.token.now) (c.is_comma.ensures.0 c.if-is_comma.true)

pub returns-then-is_closing : goal.returns-then-is_closing
returns-then-is_closing c = closing_goes_on (token_view c.args.token.now) (c.is_closing.ensures.0 c.if-is_closing.true)

pub returns : goal.returns
returns c =
    no_goes_on (token_view c.args.token.now) c.is_comma.result c.is_closing.result c.is_comma.ensures c.is_closing.ensures c.if-is_comma.false c.if-is_closing.false
