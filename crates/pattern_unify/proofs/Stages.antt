-- How far a stretch of turns leads.
use Rattle.std.proofs.Common.{◌≡◌, ◌≤◌, subst, arith}
use Rattle.std.specs.List.{AllByRecursion}
use Rattle.binding_terms.specs.Signature.{Signature, Fits}
use Rattle.pattern_unify.specs.Equations.{AreSides}
use Rattle.pattern_unify.specs.State.{State, names_of}
use Rattle.pattern_unify.specs.Moves.{Row}
use Rattle.pattern_unify.specs.Move.{goes_on}
use Rattle.pattern_unify.specs.Run.{Turn, turns}
use Rattle.pattern_unify.specs.Measure.{measure, number_of_metas, number_of_knowns, lessened_by, FallsBy}
use Rattle.pattern_unify.specs.Found.{NextMove, IsNextMove}
use Rattle.pattern_unify.specs.Ended.{IsReached, IsOnWay, IsFurther}
use Rattle.pattern_unify.proofs.RunFunction.{row_of_turn}
use Rattle.pattern_unify.proofs.StatesKept.{turn_keeps_state}
use Rattle.pattern_unify.proofs.TurnFalling.{turn_falls_by}

-- the sides of a state's equations are schemes
pub reached_sides : (sig : Signature) (st : State) → IsReached sig st → AllByRecursion (AreSides sig (names_of st)) st.equations
reached_sides sig st reached = reached.1.sides

-- a turn leads further by the number of its row
pub further : (sig : Signature) (st next : State) (move : NextMove) (row : Row) → Fits sig → IsReached sig st →
    IsNextMove (names_of st) st.equations move → move.row ≡ row → Turn sig st (goes_on next) → IsFurther sig st (lessened_by row) next
further sig st next move row fits reached found same turn =
    record {
      way = record {
        reached = (reached.0, turn_keeps_state sig reached.0 st next fits reached.1 turn);
        back = λ end run. turns st next end turn run;
      };
      falls = subst (λ r. FallsBy (lessened_by r) (measure next) (measure st)) same
          (subst (λ r. FallsBy (lessened_by r) (measure next) (measure st))
          (row_of_turn sig st (goes_on next) turn found.before found.e found.rest found.at found.rests move.row move.way found.first)
          (turn_falls_by sig reached.0 st next fits reached.1 turn));
    }

-- the way so far, and the way from there

pub way_through : (sig : Signature) (st middle next : State) → IsOnWay sig st middle → IsOnWay sig middle next → IsOnWay sig st next
way_through sig st middle next first second = record { reached = second.reached; back = λ end run. first.back end (second.back end run) }

pub way_here : (sig : Signature) (st : State) → IsReached sig st → IsOnWay sig st st
way_here sig st reached = record { reached = reached; back = λ end run. run }

pub joined_through : (sig : Signature) (st middle next : State) → IsOnWay sig st middle → (measure middle).metas ≤ (measure st).metas →
    (measure middle).knowns ≤ (measure st).knowns → IsFurther sig middle number_of_knowns next → IsFurther sig st number_of_knowns next
joined_through sig st middle next way metas knowns further =
    record {
      way = way_through sig st middle next way further.way;
      falls = (let h = further.falls.0 in omega (arith, h, metas), let h = further.falls.1 in omega (arith, h, knowns));
    }

pub replaced_through : (sig : Signature) (st middle next : State) → IsOnWay sig st middle → (measure middle).metas ≤ (measure st).metas →
    IsFurther sig middle number_of_metas next → IsFurther sig st number_of_metas next
replaced_through sig st middle next way metas further =
    record { way = way_through sig st middle next way further.way; falls = let h = further.falls in omega (arith, h, metas) }
