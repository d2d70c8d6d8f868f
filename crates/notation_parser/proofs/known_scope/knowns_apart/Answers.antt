use Rattle.notation_parser.proofs.KnownScopes.{apart_step, apart_end}
use Rattle.notation_parser.proofs.known_scope.knowns_apart.Goals as goal

pub loop-i-preserved : goal.loop-i-preserved
loop-i-preserved c = apart_step c.args.knowns.now c.loop-i.i c.index-knowns-i.result c.is_new.result c.loop-i-test.true c.index-knowns-i.is c.is_new.ensures c.if-not-is_new.false c.loop-i.invariant

pub returns-then-not-is_new : goal.returns-then-not-is_new
returns-then-not-is_new c = apart_end c.args.knowns.now c.loop-i.i c.index-knowns-i.result c.is_new.result c.loop-i-test.true c.index-knowns-i.is c.is_new.ensures c.if-not-is_new.true c.loop-i.invariant
