use Rattle.std.proofs.Common.{◌≤◌}
use Rattle.pattern_unify.specs.Measure.{measure}
use Rattle.pattern_unify.specs.Stepped.{state}
use Rattle.pattern_unify.specs.Ended.{IsOnWay}
use Rattle.pattern_unify.proofs.running.past_joins.Given as goal

-- the first number has not grown
abbrev pub invariant-joins : goal.invariant-joins
invariant-joins l = IsOnWay l.sig (state l.initial.st) (state l.st) × ((measure (state l.st)).metas ≤ (measure (state l.initial.st)).metas)

abbrev pub decreases-joins : goal.decreases-joins
decreases-joins l = (measure (state l.st)).knowns
