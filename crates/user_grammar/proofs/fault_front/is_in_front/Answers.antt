use Rattle.proof_lexer.specs.View.{token_view}
use Rattle.user_grammar.specs.Finding.{written_view}
use Rattle.user_grammar.specs.FindingPlaces.{walk_view}
use Rattle.user_grammar.proofs.FaultFronts.{no_word_is_kept, slot_is_kept}
use Rattle.user_grammar.proofs.fault_front.is_in_front.Goals as goal

pub returns-then-not-is_word_of : goal.returns-then-not-is_word_of
returns-then-not-is_word_of c = λ portions front long.
    no_word_is_kept portions (written_view c.args.written.now) (written_view c.args.other.now) front (walk_view c.args.walk.now) (token_view c.args.token.now)
    c.is_word_of.result (c.is_word_of.ensures portions) c.if-not-is_word_of.true

pub returns : goal.returns
returns c = λ portions front long.
    slot_is_kept portions (written_view c.args.written.now) (written_view c.args.other.now) front (walk_view c.args.walk.now) (token_view c.args.token.now) c.args.number c.may_be_slot.result long
    (c.is_outside.ensures.0 c.if-not-is_outside.false) ((c.is_word_of.ensures portions).0 c.if-not-is_word_of.false) c.may_be_slot.ensures
