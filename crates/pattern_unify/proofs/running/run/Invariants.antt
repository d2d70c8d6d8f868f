use Rattle.std.proofs.Common.{map}
use Rattle.scheme_terms.specs.View.{names}
use Rattle.pattern_unify.specs.Equations.{equation}
use Rattle.pattern_unify.specs.State.{start}
use Rattle.pattern_unify.specs.Measure.{measure}
use Rattle.pattern_unify.specs.Stepped.{state}
use Rattle.pattern_unify.specs.Ended.{IsOnWay}
use Rattle.pattern_unify.proofs.running.run.Given as goal

abbrev pub invariant-turns : goal.invariant-turns
invariant-turns l = IsOnWay l.sig (start (names l.scope) (map equation l.eqs)) (state l.st)

abbrev pub decreases-turns : goal.decreases-turns
decreases-turns l = (measure (state l.st)).metas
