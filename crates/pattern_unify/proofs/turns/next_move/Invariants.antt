use Rattle.std.proofs.Common.{map, take}
use Rattle.std.specs.List.{AllByRecursion}
use Rattle.scheme_terms.specs.View.{names}
use Rattle.pattern_unify.specs.Equations.{equation}
use Rattle.pattern_unify.specs.Moves.{Rests}
use Rattle.pattern_unify.proofs.turns.next_move.Given as goal

abbrev pub invariant-loop-place : goal.invariant-loop-place
invariant-loop-place l = AllByRecursion (Rests (names l.scope)) (map equation (take l.place l.eqs))
