use Rattle.proof_lexer.specs.View.{token_view}
use Rattle.user_grammar.proofs.Tests.{refused}
use Rattle.user_grammar.proofs.FaultForm.{name_goes_on}
use Rattle.user_grammar.proofs.fault_form.behind_opening.Goals as goal

pub returns-then-is_word : goal.returns-then-is_word
returns-then-is_word c = name_goes_on (token_view c.args.token.now) (c.is_word.ensures.0 c.if-is_word.true)

pub returns : goal.returns
returns c = λ rest b. refused c.is_word.result c.is_word.ensures c.if-is_word.false b.0
