-- A state is solved, is stuck, or has a turn.
use Rattle.std.proofs.Common.{◌≡◌, ◌⊎◌, ◌+◌, ◌<◌, ℕ, zero, suc, Bool, List, [], ◌∷◌, ◌++◌, Some, slice_get, inl, inr, refl, ap, sym, ◌∙◌, subst, arith}
use Rattle.std.specs.List.{AllByRecursion}
use Rattle.std.proofs.lemmas.Bool.{cases_lt, cases_order}
use Rattle.binding_terms.proofs.Lists.{all_middle}
use Rattle.binding_terms.specs.Signature.{Signature, Place}
use Rattle.scheme_terms.specs.SchemeTree.{SchemeTree, meta, known, local, con, Values, Parts, no_parts, part}
use Rattle.scheme_terms.specs.Forms.{Names}
use Rattle.scheme_terms.specs.SchemeScope.{IsScheme, AreSchemeParts}
use Rattle.scheme_terms.specs.declared.scheme.MetaDecl.{MetaDecl}
use Rattle.pattern_unify.specs.Equations.{SchemeEquation, AreSides}
use Rattle.pattern_unify.specs.Patterns.{kept_arguments}
use Rattle.pattern_unify.specs.Pruning.{HasPrunable, PartsHavePrunable, FirstPrunable, FirstPrunableInParts}
use Rattle.pattern_unify.specs.State.{State, names_of}
use Rattle.pattern_unify.specs.Moves.{row_at, Row, delete, decompose, clash, join, meet, prune, bind, place_in_table, Direction, left_first, right_first, named_first, named_second, HaveOneProduction, CanJoin, CanMeet, CanPrune, CanBind, Applies, Rests}
use Rattle.pattern_unify.specs.Move.{Next, Move, deletes, decomposes, clashes, joins, meets, prunes, binds}
use Rattle.pattern_unify.specs.Run.{IsFirstDirection, IsFirstMove, Turn, IsSolved, IsStuck}
use Rattle.pattern_unify.specs.Laws.{StateGoesOn}
use Rattle.pattern_unify.proofs.Deciding.{decided_applies, decided_prunable}
use Rattle.pattern_unify.proofs.Fewer.{meta_declared, parts_typed}
use Rattle.pattern_unify.proofs.RunFunction.{row-at-place}
use Rattle.pattern_unify.proofs.TurnFalling.{first_typed, second_typed}

-- the first row that applies, or none does

abbrev HasRow : Names → SchemeEquation → Row → Type 0
HasRow names e row = (direction : Direction) × Applies names row direction e × IsFirstDirection names row direction e

pick : (names : Names) (e : SchemeEquation) (row : Row) → HasRow names e row ⊎ ((direction : Direction) → Applies names row direction e → ⊥)
pick names e row = elim (decided_applies names row left_first e) [
  | inl l ↦ inl (left_first, l, tt)
  | inr l ↦ elim (decided_applies names row right_first e) [
    | inl r ↦ inl (right_first, r, l)
    | inr r ↦ inr (neither l r)
  ]
]
  where
    neither : (Applies names row left_first e → ⊥) → (Applies names row right_first e → ⊥) → (direction : Direction) → Applies names row direction e → ⊥
    neither l r left_first h = l h
    neither l r right_first h = r h

abbrev pub HasFirstMove : Names → SchemeEquation → Type 0
HasFirstMove names e = (row : Row) × (direction : Direction) × IsFirstMove names e row direction

pub place-of-row : (k : ℕ) → k < 7 → place_in_table (row_at k) ≡ k
place-of-row zero h = refl
place-of-row (suc zero) h = refl
place-of-row (suc (suc zero)) h = refl
place-of-row (suc (suc (suc zero))) h = refl
place-of-row (suc (suc (suc (suc zero)))) h = refl
place-of-row (suc (suc (suc (suc (suc zero))))) h = refl
place-of-row (suc (suc (suc (suc (suc (suc zero)))))) h = refl
place-of-row (suc (suc (suc (suc (suc (suc (suc n))))))) h = absurd (omega (arith, h))

pub place-below : (row : Row) → place_in_table row < 7
place-below delete = omega arith
place-below decompose = omega arith
place-below clash = omega arith
place-below join = omega arith
place-below meet = omega arith
place-below prune = omega arith
place-below bind = omega arith

abbrev pub NoneBefore : Names → SchemeEquation → ℕ → Type 0
NoneBefore names e k = (other : Row) (way : Direction) → place_in_table other < k → Applies names other way e → ⊥

from_row : (names : Names) (e : SchemeEquation) (left k : ℕ) → k + left ≡ 7 → NoneBefore names e k → HasFirstMove names e ⊎ Rests names e
from_row names e zero k total none = inr (λ row direction h. none row direction (let small = place-below row in omega (arith, small, total)) h)
from_row names e (suc left) k total none = elim (pick names e (row_at k)) [
  | inl found ↦ inl (
    row_at k,
    found.0,
    record { applies = found.1; no_earlier = λ other way less h. none other way (subst (λ n. place_in_table other < n) place less) h; left = found.2 },
  )
  | inr nothing ↦ from_row names e left (suc k) (omega (arith, total)) (λ other way less h. elim (cases_lt (place_in_table other) k) [
    | inl before ↦ none other way before h
    | inr from ↦ nothing way (subst (λ row. Applies names row way e) (same other (omega (arith, less, from))) h)
  ])
]
  where
    place : place_in_table (row_at k) ≡ k
    place = place-of-row k (omega (arith, total))

    same : (other : Row) → place_in_table other ≡ k → other ≡ row_at k
    same other at = sym (row-at-place other) ∙ ap row_at at

pub first_move : (names : Names) (e : SchemeEquation) → HasFirstMove names e ⊎ Rests names e
first_move names e = from_row names e 7 0 refl (λ other way less h. absurd (omega (arith, less)))

-- the first equation to which a move applies, or none is

pub record IsFirstPlace (names : Names) (es : List SchemeEquation) : Type 0 where
  pub before : List SchemeEquation
  pub e : SchemeEquation
  pub rest : List SchemeEquation
  pub at : es ≡ before ++ e ∷ rest
  pub rests : AllByRecursion (Rests names) before
  pub move : HasFirstMove names e

pub first_place : (names : Names) (es : List SchemeEquation) → IsFirstPlace names es ⊎ AllByRecursion (Rests names) es
first_place names [] = inr tt
first_place names (e ∷ es) = elim (first_move names e) [
  | inl found ↦ inl (record { before = []; e = e; rest = es; at = refl; rests = tt; move = found })
  | inr rest ↦ elim (first_place names es) [
    | inl later ↦ inl (record { before = e ∷ later.before; e = later.e; rest = later.rest; at = ap (λ xs. e ∷ xs) later.at; rests = (rest, later.rests); move = later.move })
    | inr all ↦ inr (rest, all)
  ]
]

-- the first pattern to prune

mutual
  first_prunable : (m : ℕ) (vs : Values) (d : ℕ) (s : SchemeTree) → HasPrunable m vs d s → (n : ℕ) × (keeps : List Bool) × FirstPrunable m vs d s n keeps
  first_prunable m vs d (meta k ws) h = (k, kept_arguments vs d ws, (h, refl, refl))
  first_prunable m vs d (known k) h = absurd h
  first_prunable m vs d (local i) h = absurd h
  first_prunable m vs d (con p xs) h = first_prunable_in_parts m vs d xs h

  first_prunable_in_parts : (m : ℕ) (vs : Values) (d : ℕ) (xs : Parts) → PartsHavePrunable m vs d xs → (n : ℕ) × (keeps : List Bool) × FirstPrunableInParts m vs d xs n keeps
  first_prunable_in_parts m vs d no_parts h = absurd h
  first_prunable_in_parts m vs d (part b s xs) (inl h) = let o = first_prunable m vs (d + b) s h in (o.0, o.1, inl o.2)
  first_prunable_in_parts m vs d (part b s xs) (inr h) = elim (decided_prunable m vs (d + b) s) [
    | inl k ↦ let o = first_prunable m vs (d + b) s k in (o.0, o.1, inl o.2)
    | inr none ↦ let o = first_prunable_in_parts m vs d xs h in (o.0, o.1, inr (none, o.2))
  ]

-- the metavariable that is pruned is declared

mutual
  pub pruned_declared : (sig : Signature) (names : Names) (ls : List ℕ) (c m : ℕ) (vs : Values) (d : ℕ) (s : SchemeTree) (n : ℕ) (keeps : List Bool) →
      IsScheme sig names ls c s → FirstPrunable m vs d s n keeps → (decl : MetaDecl) × (slice_get names.metas n ≡ Some decl)
  pruned_declared sig names ls c m vs d (meta k ws) n keeps typed h =
      let found = meta_declared sig names ls c k ws typed in (found.0, ap (slice_get names.metas) (sym h.1) ∙ found.1)
  pruned_declared sig names ls c m vs d (known k) n keeps typed h = absurd h
  pruned_declared sig names ls c m vs d (local i) n keeps typed h = absurd h
  pruned_declared sig names ls c m vs d (con p xs) n keeps typed h =
      let parts = parts_typed sig names ls c p xs typed in
      pruned_declared_in_parts sig names ls parts.0 parts.1 m vs d xs n keeps parts.2 h

  pruned_declared_in_parts : (sig : Signature) (names : Names) (ls bs : List ℕ) (ss : List Place) (m : ℕ) (vs : Values) (d : ℕ) (xs : Parts) (n : ℕ) (keeps : List Bool) →
      AreSchemeParts sig names ls bs ss xs → FirstPrunableInParts m vs d xs n keeps → (decl : MetaDecl) × (slice_get names.metas n ≡ Some decl)
  pruned_declared_in_parts sig names ls bs ss m vs d no_parts n keeps typed h = absurd h
  pruned_declared_in_parts sig names ls bs [] m vs d (part b s xs) n keeps typed h = absurd typed
  pruned_declared_in_parts sig names ls bs (slot ∷ ss) m vs d (part b s xs) n keeps typed (inl h) =
      pruned_declared sig names _ slot.cat m vs (d + b) s n keeps typed.1 h
  pruned_declared_in_parts sig names ls bs (slot ∷ ss) m vs d (part b s xs) n keeps typed (inr h) =
      pruned_declared_in_parts sig names ls bs ss m vs d xs n keeps typed.2 h.1

-- a row that applies makes a move

abbrev HasMove : Signature → State → List SchemeEquation → SchemeEquation → List SchemeEquation → Direction → Row → Type 0
HasMove sig st before e rest direction row = (next : Next) × Move sig st before e rest direction next row

one_production : (s t : SchemeTree) → HaveOneProduction s t → (p : ℕ) × (xs : Parts) × (ys : Parts) × (s ≡ con p xs) × (t ≡ con p ys)
one_production (con p xs) (con q ys) h = (p, xs, ys, refl, ap (λ x. con x ys) (sym h))
one_production (con p xs) (meta m vs) h = absurd h
one_production (con p xs) (known k) h = absurd h
one_production (con p xs) (local i) h = absurd h
one_production (meta m vs) t h = absurd h
one_production (known k) t h = absurd h
one_production (local i) t h = absurd h

two_knowns : (names : Names) (s t : SchemeTree) → CanJoin names s t → (low : ℕ) × (high : ℕ) × (low < high) × (((s ≡ known low) × (t ≡ known high)) ⊎ ((s ≡ known high) × (t ≡ known low)))
two_knowns names (known k) (known l) h = elim (cases_order k l) [
  | inl e ↦ absurd (h.0 e)
  | inr o ↦ elim o [ inl less ↦ (k, l, less, inl (refl, refl)) | inr more ↦ (l, k, more, inr (refl, refl)) ]
]
two_knowns names (known k) (meta m vs) h = absurd h
two_knowns names (known k) (local i) h = absurd h
two_knowns names (known k) (con p xs) h = absurd h
two_knowns names (meta m vs) t h = absurd h
two_knowns names (local i) t h = absurd h
two_knowns names (con p xs) t h = absurd h

two_patterns : (s t : SchemeTree) → CanMeet s t → (m : ℕ) × (vs : Values) × (ws : Values) × (s ≡ meta m vs) × (t ≡ meta m ws)
two_patterns (meta m vs) (meta n ws) h = (m, vs, ws, refl, ap (λ x. meta x ws) (sym h.0))
two_patterns (meta m vs) (known k) h = absurd h
two_patterns (meta m vs) (local i) h = absurd h
two_patterns (meta m vs) (con p xs) h = absurd h
two_patterns (known k) t h = absurd h
two_patterns (local i) t h = absurd h
two_patterns (con p xs) t h = absurd h

pruned_pattern : (s t : SchemeTree) → CanPrune s t → (m : ℕ) × (vs : Values) × (s ≡ meta m vs) × HasPrunable m vs 0 t
pruned_pattern (meta m vs) t h = (m, vs, refl, h.1)
pruned_pattern (known k) t h = absurd h
pruned_pattern (local i) t h = absurd h
pruned_pattern (con p xs) t h = absurd h

bound_pattern : (s t : SchemeTree) → CanBind s t → (m : ℕ) × (vs : Values) × (s ≡ meta m vs)
bound_pattern (meta m vs) t h = (m, vs, refl)
bound_pattern (known k) t h = absurd h
bound_pattern (local i) t h = absurd h
bound_pattern (con p xs) t h = absurd h

decompose_move : (sig : Signature) (st : State) (before : List SchemeEquation) (e : SchemeEquation) (rest : List SchemeEquation) (direction : Direction) →
    Applies (names_of st) decompose direction e → HasMove sig st before e rest direction decompose
decompose_move sig st before e rest left_first h =
    let o = one_production e.left e.right h in (_, decomposes o.0 o.1 o.2 o.3 o.4 refl)
decompose_move sig st before e rest right_first h =
    let o = one_production e.right e.left h in (_, decomposes o.0 o.2 o.1 o.4 o.3 refl)

join_move : (sig : Signature) (st : State) (before : List SchemeEquation) (e : SchemeEquation) (rest : List SchemeEquation) (direction : Direction) →
    Applies (names_of st) join direction e → HasMove sig st before e rest direction join
join_move sig st before e rest left_first h =
    let o = two_knowns (names_of st) e.left e.right h in (_, joins o.0 o.1 o.2 o.3 h refl)
join_move sig st before e rest right_first h =
    let o = two_knowns (names_of st) e.right e.left h in
    (_, joins o.0 o.1 o.2 (elim o.3 [ inl k ↦ inr (k.1, k.0) | inr k ↦ inl (k.1, k.0) ]) h refl)

pub move_exists : (sig : Signature) (st : State) (before : List SchemeEquation) (e : SchemeEquation) (rest : List SchemeEquation) (direction : Direction) (row : Row) →
    AreSides sig (names_of st) e → Applies (names_of st) row direction e → HasMove sig st before e rest direction row
move_exists sig st before e rest direction delete typed h = (_, deletes h refl)
move_exists sig st before e rest direction decompose typed h = decompose_move sig st before e rest direction h
move_exists sig st before e rest direction clash typed h = (_, clashes h refl)
move_exists sig st before e rest direction join typed h = join_move sig st before e rest direction h
move_exists sig st before e rest direction meet typed h =
    let o = two_patterns (named_first direction e) (named_second direction e) h in
    let declared = meta_declared sig (names_of st) e.locals typed.0 o.0 o.1
    (subst (IsScheme sig (names_of st) e.locals typed.0) o.3 (first_typed sig (names_of st) direction e typed)) in
    (_, meets o.0 o.1 o.2 declared.0 o.3 o.4 declared.1 h refl)
move_exists sig st before e rest direction prune typed h =
    let o = pruned_pattern (named_first direction e) (named_second direction e) h in
    let found = first_prunable o.0 o.1 0 (named_second direction e) o.3 in
    let declared = pruned_declared sig (names_of st) e.locals typed.0 o.0 o.1 0 (named_second direction e) found.0 found.1
    (second_typed sig (names_of st) direction e typed) found.2 in
    (_, prunes o.0 found.0 o.1 found.1 declared.0 o.2 h found.2 declared.1 refl)
move_exists sig st before e rest direction bind typed h =
    let o = bound_pattern (named_first direction e) (named_second direction e) h in
    (_, binds o.0 o.1 o.2 h refl)

abbrev not_empty : List SchemeEquation → ℕ
not_empty [] = 0
not_empty (e ∷ es) = 1

-- a state is solved, is stuck, or has a turn
pub progress : StateGoesOn
progress sig names st state = at st.equations refl
  where
    turn : IsFirstPlace (names_of st) st.equations → (next : Next) × Turn sig st next
    turn found =
        let typed = all_middle (AreSides sig (names_of st)) found.before found.rest found.e (subst (AllByRecursion (AreSides sig (names_of st))) found.at state.sides) in
        let move = move_exists sig st found.before found.e found.rest found.move.1 found.move.0 typed found.move.2.applies in (
          move.0,
          record {
            before = found.before;
            e = found.e;
            rest = found.rest;
            row = found.move.0;
            direction = found.move.1;
            at = found.at;
            rests = found.rests;
            first = found.move.2;
            moves = move.1;
          },
        )

    at : (es : List SchemeEquation) → st.equations ≡ es → IsSolved st ⊎ (IsStuck st ⊎ ((next : Next) × Turn sig st next))
    at [] same = inl same
    at (e ∷ es) same = elim (first_place (names_of st) st.equations) [
      | inl found ↦ inr (inr (turn found))
      | inr all ↦ inr (inl ((λ none. let count : ◌≡◌ {A = ℕ} 1 0 = ap not_empty (sym same ∙ none) in absurd (omega (arith, count))), all))
    ]
