-- The way of a run, as the functions inside the crate tell it.
use Rattle.std.specs.Prelude.{◌≤◌, ℕ}
use Rattle.binding_terms.specs.Signature.{Signature}
use Rattle.scheme_terms.specs.Forms.{Names}
use Rattle.pattern_unify.specs.State as states
use Rattle.pattern_unify.specs.Measure.{measure, Number, number_of_metas, number_of_knowns, size_of_equations, FallsBy}
use Rattle.pattern_unify.specs.Run.{End, solved, clashed, stuck, Runs}
use Rattle.pattern_unify.specs.Laws.{IsState}
use Rattle.pattern_unify.specs.Stepped.{state}
use Rattle.pattern_unify.specs.declared.running.Ended.{Ended}
use Rattle.pattern_unify.specs.declared.running.Ended.TheVariants.{Solved, Clashed, Stuck}
use Rattle.pattern_unify.specs.declared.running.After.{After}
use Rattle.pattern_unify.specs.declared.running.After.TheVariants.{Smaller, Joined, Replaced, Ends}

abbrev pub end_of : Ended → End
end_of (Solved st) = solved (state st)
end_of Clashed = clashed
end_of (Stuck st) = stuck (state st)

-- a state to which a run of some scope can come
abbrev pub IsReached : Signature → states.State → Type 0
IsReached sig st = (names : Names) × IsState sig names st

-- the run goes on from the one state as from the other
pub record IsOnWay (sig : Signature) (st next : states.State) : Type 0 where
  pub reached : IsReached sig next
  pub back : (end : End) → Runs sig next end → Runs sig st end

-- and the number has become smaller
pub record IsFurther (sig : Signature) (st : states.State) (number : Number) (next : states.State) : Type 0 where
  pub way : IsOnWay sig st next
  pub falls : FallsBy number (measure next) (measure st)

-- What comes after a state, past as many numbers as are told: a later state of its run, where none of these is what became smaller; or
-- the run's end. The size of the equations is the first number, the known variables are the second.
abbrev pub IsPast : Signature → (numbers : ℕ) → states.State → After → Type 0
IsPast sig numbers st (Smaller next) = (numbers ≤ 0) × IsFurther sig st size_of_equations (state next)
IsPast sig numbers st (Joined next) = (numbers ≤ 1) × IsFurther sig st number_of_knowns (state next)
IsPast sig numbers st (Replaced next) = (numbers ≤ 2) × IsFurther sig st number_of_metas (state next)
IsPast sig numbers st (Ends end) = Runs sig st (end_of end)
