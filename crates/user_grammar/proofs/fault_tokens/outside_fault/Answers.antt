use Rattle.proof_lexer.specs.View.{token_view}
use Rattle.user_grammar.specs.Finding.{portions_of}
use Rattle.user_grammar.proofs.Tests.{refused}
use Rattle.user_grammar.proofs.FaultTokens.{none_slot, none_terminal, least_unknown}
use Rattle.user_grammar.proofs.fault_tokens.outside_fault.Goals as goal

pub returns-then-is_slot_word : goal.returns-then-is_slot_word
returns-then-is_slot_word c = λ form front rest place out are.
    none_slot (portions_of c.args.names.now.lists) form front rest place (token_view c.args.token.now) out
    (refused c.is_binder_word.result c.is_binder_word.ensures c.if-is_binder_word.false) (c.is_slot_word.ensures.0 c.if-is_slot_word.true)

pub returns-then-may_stand : goal.returns-then-may_stand
returns-then-may_stand c = λ form front rest place out are.
    none_terminal (portions_of c.args.names.now.lists) form front rest place (token_view c.args.token.now) out
    (refused c.is_binder_word.result c.is_binder_word.ensures c.if-is_binder_word.false) (c.may_stand.ensures.0 c.if-may_stand.true)

pub returns : goal.returns
returns c = λ form front rest place out are.
    least_unknown (portions_of c.args.names.now.lists) form front rest place (token_view c.args.token.now) c.at_token.result c.at_token.ensures out
    (refused c.is_binder_word.result c.is_binder_word.ensures c.if-is_binder_word.false)
    (refused c.is_slot_word.result c.is_slot_word.ensures c.if-is_slot_word.false)
    (refused c.may_stand.result c.may_stand.ensures c.if-may_stand.false)
