use Rattle.core_proofs.proofs.GoalFitting.{stays_more}
use Rattle.core_proofs.proofs.goal.add_names.Goals as goal

pub loop-i-preserved : goal.loop-i-preserved
loop-i-preserved c =
    stays_more c.args.names.now c.loop-i.i c.loop-i.equations.items c.push.new.self.items c.in_ok-made.made _ c.loop-i-test.true c.in_ok-made.ensures
    c.in_ok-push.ensures.items c.loop-i.invariant
