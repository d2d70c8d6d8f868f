-- The run ends.
use Rattle.std.proofs.Common.{◌<◌, ◌⊎◌, ℕ, List, zero, suc, inl, inr, refl, arith}
use Rattle.binding_terms.specs.Signature.{Signature, Fits}
use Rattle.scheme_terms.specs.Forms.{Names}
use Rattle.scheme_terms.proofs.Identities.{identity_is_substitution}
use Rattle.pattern_unify.specs.Equations.{SchemeEquation}
use Rattle.pattern_unify.specs.State.{State, start}
use Rattle.pattern_unify.specs.Move.{Next, goes_on, has_none}
use Rattle.pattern_unify.specs.Run.{Turn, End, solved, clashed, stuck, Runs, is_solved, is_stuck, has_clash, turns, EndsStuck, IsWithinFragment}
use Rattle.pattern_unify.specs.Measure.{measure, IsBelow}
use Rattle.pattern_unify.specs.Laws.{IsState, StartIsState, RunEnds, WithinOrStuck}
use Rattle.pattern_unify.proofs.Progress.{progress}
use Rattle.pattern_unify.proofs.RunFunction.{solved-within, clashed-within}
use Rattle.pattern_unify.proofs.StatesKept.{turn_keeps_state}
use Rattle.pattern_unify.proofs.TurnFalling.{turn_falls}

-- what holds of a state where it holds of all whose measure is below, holds of all

abbrev Follows : (State → Type 0) → Type 0
Follows P = (st : State) → ((next : State) → IsBelow (measure next) (measure st) → P next) → P st

by_size : (P : State → Type 0) → Follows P → (a b : ℕ) → ((st : State) → (measure st).metas < a → P st) →
    ((st : State) → (measure st).metas < suc a → (measure st).knowns < b → P st) →
    (c : ℕ) (st : State) → (measure st).metas < suc a → (measure st).knowns < suc b → (measure st).size < c → P st
by_size P step a b fewer_metas fewer_knowns zero st metas knowns size = absurd (omega (arith, size))
by_size P step a b fewer_metas fewer_knowns (suc c) st metas knowns size =
    step st (λ next below. elim below [
      | inl less ↦ fewer_metas next (omega (arith, less, metas))
      | inr same ↦ elim same.1 [
        | inl less ↦ fewer_knowns next (let e = same.0 in omega (arith, e, metas)) (omega (arith, less, knowns))
        | inr less ↦ by_size P step a b fewer_metas fewer_knowns c next (let e = same.0 in omega (arith, e, metas))
            (let e = less.0 in omega (arith, e, knowns)) (let l = less.1 in omega (arith, l, size))
      ]
    ])

by_knowns : (P : State → Type 0) → Follows P → (a : ℕ) → ((st : State) → (measure st).metas < a → P st) →
    (b : ℕ) (st : State) → (measure st).metas < suc a → (measure st).knowns < b → P st
by_knowns P step a fewer_metas zero st metas knowns = absurd (omega (arith, knowns))
by_knowns P step a fewer_metas (suc b) st metas knowns =
    by_size P step a b fewer_metas (by_knowns P step a fewer_metas b) (suc (measure st).size) st metas knowns (omega arith)

by_metas : (P : State → Type 0) → Follows P → (a : ℕ) (st : State) → (measure st).metas < a → P st
by_metas P step zero st metas = absurd (omega (arith, metas))
by_metas P step (suc a) st metas = by_knowns P step a (by_metas P step a) (suc (measure st).knowns) st metas (omega arith)

pub by_measure : (P : State → Type 0) → Follows P → (st : State) → P st
by_measure P step st = by_metas P step (suc (measure st).metas) st (omega arith)

abbrev Ends : Signature → Names → State → Type 0
Ends sig names st = IsState sig names st → (end : End) × Runs sig st end

-- from a state the run ends
pub state_ends : (sig : Signature) (names : Names) → Fits sig → (st : State) → Ends sig names st
state_ends sig names fits = by_measure (Ends sig names) step
  where
    go : (st next : State) → Turn sig st (goes_on next) → ((other : State) → IsBelow (measure other) (measure st) → Ends sig names other) →
        IsState sig names st → (end : End) × Runs sig st end
    go st next turn later state =
        let rest = later next (turn_falls sig names st next fits state turn) (turn_keeps_state sig names st next fits state turn) in
        (rest.0, turns st next rest.0 turn rest.1)

    by_turn : (st : State) (next : Next) → Turn sig st next → ((other : State) → IsBelow (measure other) (measure st) → Ends sig names other) →
        IsState sig names st → (end : End) × Runs sig st end
    by_turn st (goes_on next) turn later state = go st next turn later state
    by_turn st has_none turn later state = (clashed, has_clash st turn)

    step : (st : State) → ((next : State) → IsBelow (measure next) (measure st) → Ends sig names next) → Ends sig names st
    step st later state = elim (progress sig names st state) [
      | inl done ↦ (solved st, is_solved st done)
      | inr o ↦ elim o [
        | inl rests ↦ (stuck st, is_stuck st rests)
        | inr found ↦ by_turn st found.0 found.1 later state
      ]
    ]

-- the start of a run is a state, since the identity is a substitution
pub start_is_state : StartIsState
start_is_state sig names eqs fits owed =
    record { root = refl; knowns = owed.knowns; sides = owed.sides; values = (identity_is_substitution sig names owed.knowns).metas }

-- the written run of equations ends
pub run_ends : RunEnds
run_ends sig names eqs fits owed = state_ends sig names fits (start names eqs) (start_is_state sig names eqs fits owed)

pub within_or_stuck : WithinOrStuck
within_or_stuck sig names eqs fits owed = let run = run_ends sig names eqs fits owed in at run.0 run.1
  where
    at : (end : End) → Runs sig (start names eqs) end → IsWithinFragment sig names eqs ⊎ ((left : List SchemeEquation) × EndsStuck sig names eqs left)
    at (solved st) run = inl (solved-within sig names eqs st run)
    at clashed run = inl (clashed-within sig names eqs run)
    at (stuck st) run = inr (st.equations, record { st = st; runs = run; same = refl })
