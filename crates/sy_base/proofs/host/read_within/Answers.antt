use Rattle.sy_base.proofs.ReaderLemmas.{gave_more}
use Rattle.sy_base.proofs.host.read_within.Goals as goal

pub returns-in-Err-clause-at_most : goal.returns-in-Err-clause-at_most
returns-in-Err-clause-at_most g c =
    gave_more (g.S.Read.remaining c.args.source.now) (g.S.Read.remaining c.loop-taken.source) (g.S.Read.remaining c.take_turn.new.source) c.loop-taken.taken c.args.limit _ _
    c.loop-taken-test.true c.loop-taken.invariant.gave c.take_turn.ensures.at_most
