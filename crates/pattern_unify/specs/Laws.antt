-- What holds of the moves and of the written run. To be held against docs/notation.md, 'Unification'.
use Rattle.std.specs.Prelude.{◌≡◌, ◌⊎◌, List}
use Rattle.std.specs.List.{AllByRecursion, AllZip}
use Rattle.binding_terms.specs.Signature.{Signature, Fits}
use Rattle.scheme_terms.specs.Forms.{Names}
use Rattle.scheme_terms.specs.SchemeScope.{IsScheme, params_scope, KnownsFit}
use Rattle.pattern_unify.specs.Equations.{SchemeEquation, AreSides, AreToUnify}
use Rattle.pattern_unify.specs.CommonInstance.{HaveCommonInstance}
use Rattle.pattern_unify.specs.State.{State, names_of, start}
use Rattle.pattern_unify.specs.Move.{Next, goes_on, has_none}
use Rattle.pattern_unify.specs.Run.{IsSolved, IsStuck, Turn, End, Runs, EndsStuck, IsWithinFragment}
use Rattle.pattern_unify.specs.Measure.{measure, IsBelow, lessened_by, FallsBy}

-- what holds of each state of a run: its equations have schemes of one category as sides, its known variables fit, and each metavariable of
-- the start has become a scheme of its category
pub record IsState (sig : Signature) (names : Names) (st : State) : Type 0 where
  pub root : (names_of st).root ≡ names.root
  pub knowns : KnownsFit sig (names_of st)
  pub sides : AllByRecursion (AreSides sig (names_of st)) st.equations
  pub values : AllZip (λ decl s. IsScheme sig (names_of st) (params_scope decl) decl.cat.0 s) names.metas st.so_far.metas

-- the start of a run is a state
abbrev pub StartIsState : Type 0
StartIsState = (sig : Signature) (names : Names) (eqs : List SchemeEquation) → Fits sig → AreToUnify sig names eqs → IsState sig names (start names eqs)

-- a turn keeps what a state is
abbrev pub TurnKeepsState : Type 0
TurnKeepsState =
    (sig : Signature) (names : Names) (st next : State) → Fits sig → IsState sig names st → Turn sig st (goes_on next) → IsState sig names next

-- where there is a clash there is no common instance
abbrev pub ClashHasNone : Type 0
ClashHasNone =
    (sig : Signature) (names : Names) (st : State) → Fits sig → IsState sig names st → Turn sig st has_none →
    HaveCommonInstance sig (names_of st) st.equations → ⊥

-- the measure falls at each turn
abbrev pub TurnFalls : Type 0
TurnFalls =
    (sig : Signature) (names : Names) (st next : State) → Fits sig → IsState sig names st → Turn sig st (goes_on next) →
    IsBelow (measure next) (measure st)

-- and it falls by the number that the turn's row makes smaller
abbrev pub TurnFallsBy : Type 0
TurnFallsBy =
    (sig : Signature) (names : Names) (st next : State) → Fits sig → IsState sig names st → (turn : Turn sig st (goes_on next)) →
    FallsBy (lessened_by turn.row) (measure next) (measure st)

-- a state is solved, is stuck, or has a turn
abbrev pub StateGoesOn : Type 0
StateGoesOn =
    (sig : Signature) (names : Names) (st : State) → IsState sig names st → IsSolved st ⊎ (IsStuck st ⊎ ((next : Next) × Turn sig st next))

-- the run ends
abbrev pub RunEnds : Type 0
RunEnds =
    (sig : Signature) (names : Names) (eqs : List SchemeEquation) → Fits sig → AreToUnify sig names eqs →
    (end : End) × Runs sig (start names eqs) end

-- the run has one end
abbrev pub RunIsFunction : Type 0
RunIsFunction = (sig : Signature) (st : State) (one other : End) → Runs sig st one → Runs sig st other → one ≡ other

-- a turn leads to one state
abbrev pub TurnIsFunction : Type 0
TurnIsFunction = (sig : Signature) (st : State) (one other : Next) → Turn sig st one → Turn sig st other → one ≡ other

-- equations are within the fragment, or their run ends stuck
abbrev pub WithinOrStuck : Type 0
WithinOrStuck =
    (sig : Signature) (names : Names) (eqs : List SchemeEquation) → Fits sig → AreToUnify sig names eqs →
    IsWithinFragment sig names eqs ⊎ ((left : List SchemeEquation) × EndsStuck sig names eqs left)

-- the stuck system is one
abbrev pub StuckSystemIsOne : Type 0
StuckSystemIsOne =
    (sig : Signature) (names : Names) (eqs one other : List SchemeEquation) → EndsStuck sig names eqs one → EndsStuck sig names eqs other → one ≡ other
