use Rattle.std.proofs.Common.{map}
use Rattle.rule_schemes.specs.View.{theory}
use Rattle.derivation_check.specs.Walk.{stop, Walks, weights}
use Rattle.derivation_check.proofs.check.first_wrong.Given as goal

abbrev pub invariant-loop-frame : goal.invariant-loop-frame
invariant-loop-frame l = Walks (theory l.sys) l.tree (map stop l.frames.items)

abbrev pub decreases-loop-frame : goal.decreases-loop-frame
decreases-loop-frame l = weights (map stop l.frames.items)
