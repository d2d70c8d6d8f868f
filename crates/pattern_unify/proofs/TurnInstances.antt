-- A turn keeps the common instances that are substitutions, and at the start these are the common instances of the equations.
use Rattle.std.proofs.Common.{◌≡◌, ◌↔◌, inl, inr, ℕ, List, ◌∷◌, ◌++◌, ap, sym, subst, arith}
use Rattle.binding_terms.specs.Signature.{Signature}
use Rattle.scheme_terms.specs.SchemeTree.{meta}
use Rattle.scheme_terms.specs.Forms.{Names, Substitution}
use Rattle.pattern_unify.specs.Equations.{SchemeEquation}
use Rattle.pattern_unify.specs.Patterns.{over_parameters, common_arguments}
use Rattle.pattern_unify.specs.State.{State, names_of, after_step, with_equations, becomes, becomes_new, joins_to}
use Rattle.pattern_unify.specs.Moves.{Row, delete, decompose, clash, join, meet, prune, bind, Direction, left_first, right_first, named_first, named_second, CanMeet, CanPrune, CanBind, CanJoin}
use Rattle.pattern_unify.specs.Move.{Next, goes_on, has_none, Move, deletes, decomposes, clashes, joins, meets, prunes, binds, argument_equations, entry_equations, entry_args}
use Rattle.pattern_unify.specs.Laws.{IsState}
use Rattle.pattern_unify.specs.CommonLaws.{IsOfState, TurnKeepsCommonInstances}
use Rattle.pattern_unify.proofs.StatesKept.{AreTwo, turned, joined_two}
use Rattle.pattern_unify.proofs.JoinTurns.{AreThese, joined}
use Rattle.pattern_unify.proofs.SubstitutionTurns.{deleted, decomposed_too, met, pruned, bound_to}

-- the state that a move leads to
abbrev next_state : State → Next → State
next_state st (goes_on next) = next
next_state st has_none = st

abbrev goes : Next → ℕ
goes (goes_on next) = 1
goes has_none = 0

pub leads : (P : State → Type 0) (next result : State) → goes_on next ≡ goes_on result → P result → P next
leads P next result same h = subst P (sym (ap (next_state next) same)) h

pub never_goes : (next : State) → goes_on next ≡ has_none → ⊥
never_goes next h = omega (arith, ap goes h)

pub same_sides : (direction : Direction) (e : SchemeEquation) → named_first direction e ≡ named_second direction e → e.left ≡ e.right
same_sides left_first e h = h
same_sides right_first e h = sym h

-- the two known variables of a join have entries of one production
pub joins_two : (names : Names) (direction : Direction) (e : SchemeEquation) (low high : ℕ) → AreThese e low high →
    CanJoin names (named_first direction e) (named_second direction e) → AreTwo names low high
joins_two names direction e low high (inl k) h = joined_two names direction e low high k.0 k.1 h
joins_two names direction e low high (inr k) h = turned (joined_two names direction e high low k.0 k.1 h)

move_keeps : (sig : Signature) (names : Names) (st : State) (by : Substitution) (before : List SchemeEquation) (e : SchemeEquation) (rest : List SchemeEquation)
    (direction : Direction) (next : State) (row : Row) → st.equations ≡ before ++ e ∷ rest → IsState sig names st →
    Move sig st before e rest direction (goes_on next) row → IsOfState sig st by ↔ IsOfState sig next by
move_keeps sig names st by before e rest direction next delete at state (deletes a h) =
    leads (λ x. IsOfState sig st by ↔ IsOfState sig x by) next (with_equations (before ++ rest) st) h (deleted sig names st state before e rest at by (same_sides direction e a))
move_keeps sig names st by before e rest direction next decompose at state (decomposes p xs ys l r h) =
    leads (λ x. IsOfState sig st by ↔ IsOfState sig x by) next (with_equations (before ++ (argument_equations sig e p xs ys ++ rest)) st) h
    (decomposed_too sig names st state before e rest at by p xs ys l r)
move_keeps sig names st by before e rest direction next clash at state (clashes a h) = absurd (never_goes next h)
move_keeps sig names st by before e rest direction next join at state (joins low high order these a h) =
    leads (λ x. IsOfState sig st by ↔ IsOfState sig x by) next
    (after_step (joins_to high low (names_of st)) (with_equations (before ++ (entry_equations (entry_args (names_of st) low) (entry_args (names_of st) high) ++ rest)) st)) h
    (joined sig names st state before e rest at by low high these (joins_two (names_of st) direction e low high these a))
move_keeps sig names st by before e rest direction next meet at state (meets m vs ws decl l r declared a h) =
    let can : CanMeet (meta m vs) (meta m ws) = subst (λ s. CanMeet s (meta m ws)) l (subst (λ t. CanMeet (named_first direction e) t) r a) in
    leads (λ x. IsOfState sig st by ↔ IsOfState sig x by) next (after_step (becomes_new m decl (common_arguments vs ws) (names_of st)) st) h
    (met sig names st state before e rest at by direction m vs ws decl l r declared can)
move_keeps sig names st by before e rest direction next prune at state (prunes m n vs keeps decl l a found declared h) =
    let can : CanPrune (meta m vs) (named_second direction e) = subst (λ s. CanPrune s (named_second direction e)) l a in
    leads (λ x. IsOfState sig st by ↔ IsOfState sig x by) next (after_step (becomes_new n decl keeps (names_of st)) st) h
    (pruned sig names st state before e rest at by direction m n vs keeps decl l can found declared)
move_keeps sig names st by before e rest direction next bind at state (binds m vs l a h) =
    let can : CanBind (meta m vs) (named_second direction e) = subst (λ s. CanBind s (named_second direction e)) l a in
    leads (λ x. IsOfState sig st by ↔ IsOfState sig x by) next (after_step (becomes m (over_parameters vs (named_second direction e)) (names_of st)) st) h
    (bound_to sig names st state before e rest at by direction m vs l can)

pub turn_keeps_common_instances : TurnKeepsCommonInstances
turn_keeps_common_instances sig names st next by fits state turn =
    move_keeps sig names st by turn.before turn.e turn.rest turn.direction next turn.row turn.at state turn.moves
