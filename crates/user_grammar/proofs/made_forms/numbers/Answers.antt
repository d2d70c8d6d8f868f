use Rattle.user_grammar.specs.Indexed.{names_in}
use Rattle.user_grammar.proofs.MadeReadings.{numbers_more}
use Rattle.user_grammar.proofs.made_forms.numbers.Goals as goal

pub loop-word-preserved : goal.loop-word-preserved
loop-word-preserved c = λ differ binds are.
    numbers_more (λ word. word.now) (names_in c.args.own.now) c.args.words.now c.loop-word.word-index _ c.loop-word.all _ binds c.loop-word-test.true
    (c.loop-word.invariant differ binds are) (c.in_ok-add_number.ensures differ)
