use Rattle.proof_lexer.specs.View.{token_view}
use Rattle.user_grammar.proofs.MadeReadings.{words_over}
use Rattle.user_grammar.proofs.made_forms.binder_words.Goals as goal

pub returns : goal.returns
returns c = λ listed own items words are.
    words_over token_view c.loop-left.left.now c.args.cats.now listed own _ words c.in_default.len_below (c.loop-left.invariant.stands listed own items words are)
