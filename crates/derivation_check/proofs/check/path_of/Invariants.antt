use Rattle.std.proofs.Common.{◌≡◌, map, take}
use Rattle.derivation_check.specs.Walk.{stop, path_of}
use Rattle.derivation_check.proofs.check.path_of.Given as goal

abbrev pub invariant-loop-frame : goal.invariant-loop-frame
invariant-loop-frame l = l.path ≡ path_of (map stop (take l.frame-index l.frames))
