use Rattle.std.proofs.Common.{arith, ◌≤◌, length}
use Rattle.std.specs.Prelude.{min}
use Rattle.scheme_terms.specs.View.{scheme_entry, ground_entry}
use Rattle.derivation_check.proofs.PieceLists.{no_entries_left, whole_made}
use Rattle.derivation_check.proofs.pieces.add_entries.Goals as goal

pub returns : goal.returns
returns c =
    let over : min (length c.args.patterns.now) (length c.args.targets.now) ≤ c.loop-i.i = omega (arith, c.min-count.ensures, c.loop-i-test.false) in
    whole_made _ _ _ (no_entries_left scheme_entry ground_entry c.loop-i.i c.loop-i.i c.args.patterns.now c.args.targets.now over) c.loop-i.invariant
