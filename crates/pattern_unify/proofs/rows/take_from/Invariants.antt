use Rattle.std.proofs.Common.{◌≡◌, ◌≤◌, ◌++◌, length, reverse}
use Rattle.pattern_unify.proofs.rows.take_from.Given as goal

abbrev pub invariant-loop-eqs : goal.invariant-loop-eqs
invariant-loop-eqs l = (l.place ≤ length l.eqs) × (l.eqs ++ reverse l.away ≡ l.initial.eqs)

abbrev pub decreases-loop-eqs : goal.decreases-loop-eqs
decreases-loop-eqs l = length l.eqs
