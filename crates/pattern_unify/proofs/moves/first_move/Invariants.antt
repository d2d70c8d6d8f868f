use Rattle.scheme_terms.specs.View.{names}
use Rattle.pattern_unify.specs.Equations.{equation}
use Rattle.pattern_unify.proofs.Progress.{NoneBefore}
use Rattle.pattern_unify.proofs.moves.first_move.Given as goal

abbrev pub invariant-loop-place : goal.invariant-loop-place
invariant-loop-place l = NoneBefore (names l.scope) (equation l.one) l.place
