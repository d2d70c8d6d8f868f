use Rattle.proof_lexer.specs.View.{token_view}
use Rattle.outline_reader.specs.Plain.{plain_form}
use Rattle.user_grammar.specs.Finding.{portions_of}
use Rattle.user_grammar.specs.FindingPlaces.{walk_view}
use Rattle.user_grammar.proofs.Tests.{refused}
use Rattle.user_grammar.proofs.FaultTokens.{least_wrong, none_wrong}
use Rattle.user_grammar.proofs.fault_tokens.point_fault.Goals as goal

pub returns-then-is_outside : goal.returns-then-is_outside
returns-then-is_outside c = λ form front of_form of_front.
    c.outside_fault.ensures form front (plain_form c.args.rest.now) (walk_view c.args.walk.now) (c.is_outside.ensures.0 c.if-is_outside.true) of_front

pub returns-then-is_wrong : goal.returns-then-is_wrong
returns-then-is_wrong c = λ form front of_form of_front.
    least_wrong (portions_of c.args.names.now.lists) form front (plain_form c.args.rest.now) (walk_view c.args.walk.now) (token_view c.args.token.now) c.at_token.result c.at_token.ensures
    (refused c.is_outside.result c.is_outside.ensures c.if-is_outside.false) ((c.is_wrong.ensures form of_form).0 c.if-is_wrong.true)

pub returns : goal.returns
returns c = λ form front of_form of_front.
    none_wrong (portions_of c.args.names.now.lists) form front (plain_form c.args.rest.now) (walk_view c.args.walk.now) (token_view c.args.token.now)
    (refused c.is_outside.result c.is_outside.ensures c.if-is_outside.false) (refused c.is_wrong.result (c.is_wrong.ensures form of_form) c.if-is_wrong.false)
