use Rattle.std.proofs.Common.{◌≡◌, map, take}
use Rattle.pattern_unify.specs.Equations.{equation}
use Rattle.pattern_unify.proofs.state.copy_equations.Given as goal

abbrev pub invariant-loop-one : goal.invariant-loop-one
invariant-loop-one l = map equation l.all ≡ map equation (take l.one-index l.eqs)
