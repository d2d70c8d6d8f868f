use Rattle.std.proofs.Common.{◌≤◌}
use Rattle.pattern_unify.specs.Measure.{measure}
use Rattle.pattern_unify.specs.Stepped.{state}
use Rattle.pattern_unify.specs.Ended.{IsOnWay}
use Rattle.pattern_unify.proofs.running.past_sizes.Given as goal

-- neither of the numbers that count before the size has grown
abbrev pub invariant-sizes : goal.invariant-sizes
invariant-sizes l =
    IsOnWay l.sig (state l.initial.st) (state l.st)
    × ((measure (state l.st)).metas ≤ (measure (state l.initial.st)).metas) × ((measure (state l.st)).knowns ≤ (measure (state l.initial.st)).knowns)

abbrev pub decreases-sizes : goal.decreases-sizes
decreases-sizes l = (measure (state l.st)).size
