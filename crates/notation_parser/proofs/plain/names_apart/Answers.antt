use Rattle.notation_parser.proofs.Empty.{names_step, names_end}
use Rattle.notation_parser.proofs.plain.names_apart.Goals as goal

pub loop-i-preserved : goal.loop-i-preserved
loop-i-preserved c = names_step c.args.metas.now c.loop-i.i c.index-metas-i.result c.is_new.result c.loop-i-test.true c.index-metas-i.is c.is_new.ensures c.if-not-is_new.false c.loop-i.invariant

pub returns-then-not-is_new : goal.returns-then-not-is_new
returns-then-not-is_new c = names_end c.args.metas.now c.loop-i.i c.index-metas-i.result c.is_new.result c.loop-i-test.true c.index-metas-i.is c.is_new.ensures c.if-not-is_new.true c.loop-i.invariant
