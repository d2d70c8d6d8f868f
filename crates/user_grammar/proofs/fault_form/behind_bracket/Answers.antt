use Rattle.proof_lexer.specs.View.{token_view}
use Rattle.user_grammar.proofs.Tests.{refused}
use Rattle.user_grammar.proofs.FaultForm.{bracket_goes_on}
use Rattle.user_grammar.proofs.fault_form.behind_bracket.Goals as goal

pub returns-then-is_opening : goal.returns-then-is_opening
returns-then-is_opening c = bracket_goes_on (token_view c.args.token.now) (c.is_opening.ensures.0 c.if-is_opening.true)

pub returns : goal.returns
returns c = λ rest b. refused c.is_opening.result c.is_opening.ensures c.if-is_opening.false b.0
