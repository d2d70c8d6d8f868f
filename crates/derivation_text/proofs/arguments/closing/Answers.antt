use Rattle.std.proofs.Common.{map, arith}
use Rattle.term_reader.specs.View.{token}
use Rattle.derivation_text.proofs.EndingLemmas.{passes_next, passes_found, none_left}
use Rattle.derivation_text.proofs.arguments.closing.Goals as goal

pub returns-in-None : goal.returns-in-None
returns-in-None c =
    (c.loop-i-test.true, passes_found c.args.tokens.now c.loop-i.i _ c.loop-i.depth c.loop-i-test.true c.loop-i.invariant.1 (c.in-None.ensures.turns).0 (c.in-None.ensures.turns).1)

pub loop-i-preserved : goal.loop-i-preserved
loop-i-preserved c = (
  omega (arith, c.in-Some.ensures.bound),
  passes_next c.args.tokens.now c.loop-i.i _ (map token c.args.tokens.now) c.loop-i.depth c.in-Some.next c.loop-i-test.true c.loop-i.invariant.1 c.in-Some.ensures.turns,
)

pub returns : goal.returns
returns c = none_left c.args.tokens.now c.loop-i.i c.loop-i.depth c.loop-i-test.false c.loop-i.invariant.1
