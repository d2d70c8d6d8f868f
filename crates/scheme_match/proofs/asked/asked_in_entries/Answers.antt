use Rattle.std.proofs.Common.{arith}
use Rattle.scheme_match.proofs.Asking.{entries_over}
use Rattle.scheme_match.proofs.asked.asked_in_entries.Goals as goal

pub returns : goal.returns
returns c v asked =
    entries_over c.args.m.0 c.loop-i.i c.loop-i.i c.args.patterns.now c.args.targets.now v (omega (arith, c.min-count.ensures, c.loop-i-test.false))
    ((c.loop-i.invariant v).1 asked)
