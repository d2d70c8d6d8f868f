use Rattle.notation_parser.proofs.Tellings.{different_step, different_end}
use Rattle.notation_parser.proofs.parameters.are_different.Goals as goal

pub returns-then-not-is_other : goal.returns-then-not-is_other
returns-then-not-is_other c =
    different_end c.args.words.now c.loop-i.i c.index-words-i.result c.is_other.result c.loop-i-test.true c.index-words-i.is c.is_other.ensures c.if-not-is_other.true c.loop-i.invariant

pub loop-i-preserved : goal.loop-i-preserved
loop-i-preserved c =
    different_step c.args.words.now c.loop-i.i c.index-words-i.result c.is_other.result c.loop-i-test.true c.index-words-i.is c.is_other.ensures c.if-not-is_other.false c.loop-i.invariant
