use Rattle.proof_lexer.specs.View.{token_view}
use Rattle.user_grammar.specs.Indexed.{names_in}
use Rattle.user_grammar.proofs.MadeReadings.{items_over}
use Rattle.user_grammar.proofs.made_forms.items.Goals as goal

pub returns : goal.returns
returns c = λ differ listed items words are.
    items_over token_view c.loop-left.left.now c.args.cats.now listed (names_in c.args.own.now) _ items c.in_default.len_below
    (c.loop-left.invariant.stands differ listed items words are)
