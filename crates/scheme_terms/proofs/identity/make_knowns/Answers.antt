use Rattle.scheme_terms.proofs.Named.{known_pushed}
use Rattle.scheme_terms.proofs.identity.make_knowns.Goals as goal

pub loop-number-preserved : goal.loop-number-preserved
loop-number-preserved c =
    known_pushed _ _ c.args.decls.now _ c.loop-number-test.true (rw c.in_ok-number.ensures at c.in_ok-push.ensures.ok) c.loop-number.invariant
