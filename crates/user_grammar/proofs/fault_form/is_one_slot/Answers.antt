use Rattle.proof_lexer.specs.View.{token_view}
use Rattle.outline_reader.specs.Plain.{plain_form}
use Rattle.user_grammar.specs.Finding.{portions_of}
use Rattle.user_grammar.proofs.FaultForm.{one_slot}
use Rattle.user_grammar.proofs.fault_form.is_one_slot.Goals as goal

pub returns-then-is_slot_word : goal.returns-then-is_slot_word
returns-then-is_slot_word c =
    one_slot (portions_of c.args.lists.now) (token_view c.args.token.now) (plain_form c.args.rest.now) c.are_brackets.result (c.is_slot_word.ensures.0 c.if-is_slot_word.true) c.are_brackets.ensures
