use Rattle.std.proofs.Common.{◌≡◌, ◌++◌, map, drop}
use Rattle.pattern_unify.specs.Equations.{equation}
use Rattle.core_proofs.specs.FormEquations.{stays_from}
use Rattle.core_proofs.proofs.goal.add_names.Given as goal

abbrev pub invariant-loop-i : goal.invariant-loop-i
invariant-loop-i l =
    map equation l.equations.items ++ stays_from l.i (drop l.i l.names) ≡ map equation l.initial.equations.items ++ stays_from 0 l.names
