use Rattle.std.proofs.Common.{ap, ◌∙◌}
use Rattle.proof_trees.specs.Here.{nones}
use Rattle.proof_kernel.specs.View.{here}
use Rattle.proof_kernel.proofs.GrowingHeld.{on_err, one_nothing_more}
use Rattle.proof_kernel.proofs.here.Here.push_nothing.Goals as goal

pub returns-in_err-push-clause-err : goal.returns-in_err-push-clause-err
returns-in_err-push-clause-err c =
    on_err c.from_residual.result _ (nones c.loop-i._i, ap (λ hs. here (record c.loop-i.self { held = hs })) c.in_err-push.ensures.err ∙ c.loop-i.invariant)

pub loop-i-preserved : goal.loop-i-preserved
loop-i-preserved c = one_nothing_more c.loop-i.self (here c.args.self.now) c.push.new.self c.loop-i._i c.in_ok-push.ensures.ok c.loop-i.invariant
