-- What the end of a run says of the equations.
use Rattle.std.proofs.Common.{◌≡◌, ℕ, List, inl, inr, refl, ap, subst, sym, arith}
use Rattle.binding_terms.specs.Signature.{Signature, Fits}
use Rattle.scheme_terms.specs.Forms.{Names, Substitution, Instance}
use Rattle.scheme_terms.specs.Substituting.{composed}
use Rattle.pattern_unify.specs.Equations.{SchemeEquation, AreToUnify}
use Rattle.pattern_unify.specs.State.{State, start}
use Rattle.pattern_unify.specs.Run.{End, solved, clashed, stuck, Runs, is_solved, is_stuck, has_clash, turns, IsWithinFragment}
use Rattle.pattern_unify.specs.Laws.{IsState}
use Rattle.pattern_unify.specs.CommonLaws.{IsOfState, IsGroundOfState}
use Rattle.pattern_unify.specs.LeftNames.{left_names}
use Rattle.pattern_unify.specs.Answers.{unifier, no_unifier, outside, IsUnifyAnswer}
use Rattle.pattern_unify.proofs.RunFunction.{run_is_function}
use Rattle.pattern_unify.proofs.Ending.{start_is_state}
use Rattle.pattern_unify.proofs.StatesKept.{turn_keeps_state}
use Rattle.pattern_unify.proofs.TurnInstances.{turn_keeps_common_instances}
use Rattle.pattern_unify.proofs.GroundTurns.{ground_instances_stay}
use Rattle.pattern_unify.proofs.GroundClashing.{clash_has_none}
use Rattle.pattern_unify.proofs.RunInstances.{start_has_common_instances, start_has_ground_instances}
use Rattle.pattern_unify.proofs.SolvedRuns.{left_root, left_is_most_general}

abbrev kind : End → ℕ
kind (solved st) = 0
kind clashed = 1
kind (stuck st) = 2

within : (sig : Signature) (names : Names) (eqs : List SchemeEquation) (end : End) → Runs sig (start names eqs) end → (kind end ≡ 2 → ⊥) → IsWithinFragment sig names eqs
within sig names eqs end run other left ends = other (ap kind (run_is_function sig (start names eqs) end (stuck ends.st) run ends.runs))

-- a run that ends with a clash has no common instance at its first state
clashed_has_none : (sig : Signature) (names : Names) (st : State) (end : End) → Fits sig → IsState sig names st → Runs sig st end → kind end ≡ 1 →
    ((by : Substitution) → IsOfState sig st by → ⊥) × ((inst : Instance) → IsGroundOfState sig names st inst → ⊥)
clashed_has_none sig names st end fits state (is_solved s h) e = absurd (omega (arith, e))
clashed_has_none sig names st end fits state (is_stuck s h) e = absurd (omega (arith, e))
clashed_has_none sig names st end fits state (has_clash s turn) e =
    ((λ by o. clash_has_none sig names s fits state turn (inl (o.after, o.common))), (λ inst o. clash_has_none sig names s fits state turn (inr (o.after, o.common))))
clashed_has_none sig names st end fits state (turns s next last turn rest) e =
    let later = clashed_has_none sig names next last fits (turn_keeps_state sig names s next fits state turn) rest e in (
      (λ by o. later.0 by ((turn_keeps_common_instances sig names s next by fits state turn).0 o)),
      (λ inst o. later.1 inst (ground_instances_stay sig names s next inst state turn o)),
    )

pub solved_answer : (sig : Signature) (names : Names) (eqs : List SchemeEquation) (st : State) (by : Substitution) → Fits sig → AreToUnify sig names eqs →
    Runs sig (start names eqs) (solved st) → by ≡ composed st.so_far (left_names st) → IsUnifyAnswer sig names eqs (unifier by)
solved_answer sig names eqs st by fits owed run same =
    subst (λ b. IsUnifyAnswer sig names eqs (unifier b)) (sym same) (record {
      root = left_root sig names eqs st fits owed run;
      most_general = left_is_most_general sig names eqs st fits owed run;
      within = within sig names eqs (solved st) run (λ e. absurd (omega (arith, e)));
    })

pub clashed_answer : (sig : Signature) (names : Names) (eqs : List SchemeEquation) → Fits sig → AreToUnify sig names eqs →
    Runs sig (start names eqs) clashed → IsUnifyAnswer sig names eqs no_unifier
clashed_answer sig names eqs fits owed run =
    let none = clashed_has_none sig names (start names eqs) clashed fits (start_is_state sig names eqs fits owed) run refl in
    record {
      none = λ has. elim has [
        | inl one ↦ none.0 one.0 ((start_has_common_instances sig names eqs one.0 fits owed).0 one.1)
        | inr one ↦ none.1 one.0 (start_has_ground_instances sig names eqs one.0 owed one.1)
      ];
      within = within sig names eqs clashed run (λ e. absurd (omega (arith, e)));
    }

pub stuck_answer : (sig : Signature) (names : Names) (eqs : List SchemeEquation) (st : State) → Runs sig (start names eqs) (stuck st) →
    IsUnifyAnswer sig names eqs (outside st.equations)
stuck_answer sig names eqs st run = record { st = st; runs = run; same = refl }
