-- A turn leads to one state, and a run has one end.
use Rattle.std.proofs.Common.{Some, None, is_some, IsTrue, ◌↔◌, ◌≡◌, ◌∙◌, ℕ, Bool, List, [], ◌∷◌, ◌++◌, Option, slice_get, unwrap_or, inl, inr, refl, ap, sym, subst, arith}
use Rattle.std.proofs.lemmas.Bool.{cases_order}
use Rattle.std.specs.List.{AllByRecursion}
use Rattle.binding_terms.specs.Signature.{Signature}
use Rattle.scheme_terms.specs.SchemeTree.{SchemeTree, meta, known, local, con, Values, no_values, Parts, no_parts, part}
use Rattle.scheme_terms.specs.Forms.{Names}
use Rattle.scheme_terms.specs.declared.scheme.MetaDecl.{MetaDecl}
use Rattle.pattern_unify.specs.Equations.{SchemeEquation}
use Rattle.pattern_unify.specs.Patterns.{common_arguments, over_parameters}
use Rattle.pattern_unify.specs.Pruning.{HasPrunable, PartsHavePrunable, FirstPrunable, FirstPrunableInParts}
use Rattle.pattern_unify.specs.Pruned.{IsFirstPrunable}
use Rattle.pattern_unify.specs.State.{State, names_of, start, after_step, with_equations, becomes, becomes_new, joins_to}
use Rattle.pattern_unify.specs.Moves.{row_at, Row, delete, decompose, clash, join, meet, prune, bind, Direction, left_first, right_first, named_second, Rests, place_in_table}
use Rattle.pattern_unify.specs.Move.{Next, goes_on, has_none, Move, deletes, decomposes, clashes, joins, meets, prunes, binds, argument_equations, entry_equations, entry_args}
use Rattle.pattern_unify.specs.Run.{IsFirstMove, Turn, End, solved, clashed, stuck, Runs, is_solved, is_stuck, has_clash, turns, IsWithinFragment}
use Rattle.pattern_unify.specs.Laws.{TurnIsFunction, RunIsFunction, StuckSystemIsOne}

-- the first pattern to prune is one

mutual
  pub has_one : (m : ℕ) (vs : Values) (d : ℕ) (s : SchemeTree) (n : ℕ) (keeps : List Bool) → FirstPrunable m vs d s n keeps → HasPrunable m vs d s
  has_one m vs d (meta k ws) n keeps h = h.0
  has_one m vs d (known k) n keeps h = absurd h
  has_one m vs d (local i) n keeps h = absurd h
  has_one m vs d (con p xs) n keeps h = parts_have_one m vs d xs n keeps h

  parts_have_one : (m : ℕ) (vs : Values) (d : ℕ) (xs : Parts) (n : ℕ) (keeps : List Bool) → FirstPrunableInParts m vs d xs n keeps → PartsHavePrunable m vs d xs
  parts_have_one m vs d no_parts n keeps h = absurd h
  parts_have_one m vs d (part b s xs) n keeps (inl h) = inl (has_one m vs _ s n keeps h)
  parts_have_one m vs d (part b s xs) n keeps (inr h) = inr (parts_have_one m vs d xs n keeps h.1)

mutual
  FirstPrunable-function : (m : ℕ) (vs : Values) (d : ℕ) (s : SchemeTree) (n k : ℕ) (keeps others : List Bool) →
      FirstPrunable m vs d s n keeps → FirstPrunable m vs d s k others → (n ≡ k) × (keeps ≡ others)
  FirstPrunable-function m vs d (meta j ws) n k keeps others h i = (sym h.1 ∙ i.1, sym h.2 ∙ i.2)
  FirstPrunable-function m vs d (known j) n k keeps others h i = absurd h
  FirstPrunable-function m vs d (local j) n k keeps others h i = absurd h
  FirstPrunable-function m vs d (con p xs) n k keeps others h i = first-in-parts m vs d xs n k keeps others h i

  first-in-parts : (m : ℕ) (vs : Values) (d : ℕ) (xs : Parts) (n k : ℕ) (keeps others : List Bool) →
      FirstPrunableInParts m vs d xs n keeps → FirstPrunableInParts m vs d xs k others → (n ≡ k) × (keeps ≡ others)
  first-in-parts m vs d no_parts n k keeps others h i = absurd h
  first-in-parts m vs d (part b s xs) n k keeps others (inl h) (inl i) = FirstPrunable-function m vs _ s n k keeps others h i
  first-in-parts m vs d (part b s xs) n k keeps others (inl h) (inr i) = absurd (i.0 (has_one m vs _ s n keeps h))
  first-in-parts m vs d (part b s xs) n k keeps others (inr h) (inl i) = absurd (h.0 (has_one m vs _ s k others i))
  first-in-parts m vs d (part b s xs) n k keeps others (inr h) (inr i) = first-in-parts m vs d xs n k keeps others h.1 i.1

-- whether there is one
pub told_prunable : (m : ℕ) (vs : Values) (d : ℕ) (s : SchemeTree) (o : Option (ℕ × List Bool)) → IsFirstPrunable m vs d s o → IsTrue (is_some o) ↔ HasPrunable m vs d s
told_prunable m vs d s None none = (λ h. let no : ⊥ = cc in absurd no, λ h. absurd (none h))
told_prunable m vs d s (Some p) found = (λ h. has_one m vs d s p.0 p.1 found, λ h. refl)

-- the parts of a scheme

abbrev name_at : SchemeTree → ℕ
name_at (meta m vs) = m
name_at (known k) = k
name_at (local i) = i
name_at (con p xs) = p

abbrev values_at : SchemeTree → Values
values_at (meta m vs) = vs
values_at _ = no_values

abbrev parts_at : SchemeTree → Parts
parts_at (con p xs) = xs
parts_at _ = no_parts

abbrev head_equation : SchemeEquation → List SchemeEquation → SchemeEquation
head_equation e [] = e
head_equation e (x ∷ xs) = x

abbrev tail_equations : List SchemeEquation → List SchemeEquation
tail_equations [] = []
tail_equations (x ∷ xs) = xs

-- the first equation to which a move applies is one
same_place : (names : Names) (b1 b2 : List SchemeEquation) (e1 e2 : SchemeEquation) (r1 r2 : List SchemeEquation) → b1 ++ e1 ∷ r1 ≡ b2 ++ e2 ∷ r2 →
    AllByRecursion (Rests names) b1 → AllByRecursion (Rests names) b2 → (Rests names e1 → ⊥) → (Rests names e2 → ⊥) →
    (b1 ≡ b2) × (e1 ≡ e2) × (r1 ≡ r2)
same_place names [] [] e1 e2 r1 r2 same rest1 rest2 moves1 moves2 = (refl, ap (head_equation e1) same, ap tail_equations same)
same_place names [] (x ∷ b2) e1 e2 r1 r2 same rest1 rest2 moves1 moves2 =
    absurd (moves1 (subst (Rests names) (sym (ap (head_equation e1) same)) rest2.0))
same_place names (x ∷ b1) [] e1 e2 r1 r2 same rest1 rest2 moves1 moves2 =
    absurd (moves2 (subst (Rests names) (ap (head_equation e1) same) rest1.0))
same_place names (x ∷ b1) (y ∷ b2) e1 e2 r1 r2 same rest1 rest2 moves1 moves2 =
    let inner = same_place names b1 b2 e1 e2 r1 r2 (ap tail_equations same) rest1.1 rest2.1 moves1 moves2 in
    let front : ◌≡◌ {A = List SchemeEquation} (x ∷ b1) (y ∷ b2) = ap (λ z. z ∷ b1) (ap (head_equation x) same) ∙ ap (λ z. y ∷ z) inner.0 in
    (front, inner.1, inner.2)

pub row-at-place : (row : Row) → row_at (place_in_table row) ≡ row
row-at-place delete = refl
row-at-place decompose = refl
row-at-place clash = refl
row-at-place join = refl
row-at-place meet = refl
row-at-place prune = refl
row-at-place bind = refl

same_row : (names : Names) (e : SchemeEquation) (r1 r2 : Row) (d1 d2 : Direction) → IsFirstMove names e r1 d1 → IsFirstMove names e r2 d2 → r1 ≡ r2
same_row names e r1 r2 d1 d2 f1 f2 = elim (cases_order (place_in_table r1) (place_in_table r2)) [
  | inl same ↦ sym (row-at-place r1) ∙ (ap row_at same ∙ row-at-place r2)
  | inr other ↦ elim other [
    | inl less ↦ absurd (f2.no_earlier r1 d1 less f1.applies)
    | inr more ↦ absurd (f1.no_earlier r2 d2 more f2.applies)
  ]
]

same_direction : (names : Names) (e : SchemeEquation) (row : Row) (d1 d2 : Direction) → IsFirstMove names e row d1 → IsFirstMove names e row d2 → d1 ≡ d2
same_direction names e row left_first left_first f1 f2 = refl
same_direction names e row left_first right_first f1 f2 = absurd (f2.left f1.applies)
same_direction names e row right_first left_first f1 f2 = absurd (f1.left f2.applies)
same_direction names e row right_first right_first f1 f2 = refl

abbrev unwrap_decl : MetaDecl → Option MetaDecl → MetaDecl
unwrap_decl decl found = unwrap_or found decl

-- a state with other equations in the place of one
abbrev result : State → List SchemeEquation → List SchemeEquation → List SchemeEquation → Next
result st before eqs rest = goes_on (with_equations (before ++ (eqs ++ rest)) st)

abbrev joined : State → List SchemeEquation → List SchemeEquation → ℕ → ℕ → Next
joined st before rest low high =
    goes_on (after_step (joins_to high low (names_of st))
    (with_equations (before ++ (entry_equations (entry_args (names_of st) low) (entry_args (names_of st) high) ++ rest)) st))

same_move : (sig : Signature) (st : State) (before : List SchemeEquation) (e : SchemeEquation) (rest : List SchemeEquation) (d : Direction) (n1 n2 : Next)
    (row : Row) → Move sig st before e rest d n1 row → Move sig st before e rest d n2 row → n1 ≡ n2
same_move sig st before e rest d n1 n2 delete (deletes a h) (deletes b i) = h ∙ sym i
same_move sig st before e rest d n1 n2 decompose (decomposes p xs ys l r h) (decomposes q us vs m s i) =
    h ∙ (ap (λ k. result st before (argument_equations sig e k xs ys) rest) (ap name_at (sym l ∙ m))
    ∙ (ap (λ k. result st before (argument_equations sig e q k ys) rest) (ap parts_at (sym l ∙ m))
    ∙ (ap (λ k. result st before (argument_equations sig e q us k) rest) (ap parts_at (sym r ∙ s)) ∙ sym i)))
same_move sig st before e rest d n1 n2 clash (clashes a h) (clashes b i) = h ∙ sym i
same_move sig st before e rest d n1 n2 join (joins low high less (inl k) a h) (joins low2 high2 less2 (inl l) b i) =
    h ∙ (ap (λ x. joined st before rest x high) (ap name_at (sym k.0 ∙ l.0)) ∙ (ap (λ x. joined st before rest low2 x) (ap name_at (sym k.1 ∙ l.1)) ∙ sym i))
same_move sig st before e rest d n1 n2 join (joins low high less (inr k) a h) (joins low2 high2 less2 (inr l) b i) =
    h ∙ (ap (λ x. joined st before rest x high) (ap name_at (sym k.1 ∙ l.1)) ∙ (ap (λ x. joined st before rest low2 x) (ap name_at (sym k.0 ∙ l.0)) ∙ sym i))
same_move sig st before e rest d n1 n2 join (joins low high less (inl k) a h) (joins low2 high2 less2 (inr l) b i) =
    absurd (omega (arith, less, less2, ap name_at (sym k.0 ∙ l.0), ap name_at (sym k.1 ∙ l.1)))
same_move sig st before e rest d n1 n2 join (joins low high less (inr k) a h) (joins low2 high2 less2 (inl l) b i) =
    absurd (omega (arith, less, less2, ap name_at (sym k.0 ∙ l.0), ap name_at (sym k.1 ∙ l.1)))
same_move sig st before e rest d n1 n2 meet (meets m vs ws decl l r at a h) (meets k us xs other s t there b i) =
    let same_name : m ≡ k = ap name_at (sym l ∙ s) in
    let same_decl : decl ≡ other = ap (unwrap_decl decl) (sym at ∙ (ap (slice_get (names_of st).metas) same_name ∙ there)) in
    h ∙ (ap (λ x. goes_on (after_step (becomes_new x decl (common_arguments vs ws) (names_of st)) st)) same_name
    ∙ (ap (λ x. goes_on (after_step (becomes_new k x (common_arguments vs ws) (names_of st)) st)) same_decl
    ∙ (ap (λ x. goes_on (after_step (becomes_new k other (common_arguments x ws) (names_of st)) st)) (ap values_at (sym l ∙ s))
    ∙ (ap (λ x. goes_on (after_step (becomes_new k other (common_arguments us x) (names_of st)) st)) (ap values_at (sym r ∙ t)) ∙ sym i))))
same_move sig st before e rest d n1 n2 prune (prunes m n vs keeps decl l a first at h) (prunes k j us others other s b second there i) =
    let moved : FirstPrunable m vs 0 (named_second d e) j others =
    subst (λ x. FirstPrunable x vs 0 (named_second d e) j others) (sym (ap name_at (sym l ∙ s)))
    (subst (λ x. FirstPrunable k x 0 (named_second d e) j others) (sym (ap values_at (sym l ∙ s))) second) in
    let same = FirstPrunable-function m vs 0 (named_second d e) n j keeps others first moved in
    let same_decl : decl ≡ other = ap (unwrap_decl decl) (sym at ∙ (ap (slice_get (names_of st).metas) same.0 ∙ there)) in
    h ∙ (ap (λ x. goes_on (after_step (becomes_new x decl keeps (names_of st)) st)) same.0
    ∙ (ap (λ x. goes_on (after_step (becomes_new j x keeps (names_of st)) st)) same_decl
    ∙ (ap (λ x. goes_on (after_step (becomes_new j other x (names_of st)) st)) same.1 ∙ sym i)))
same_move sig st before e rest d n1 n2 bind (binds m vs l a h) (binds k us s b i) =
    h ∙ (ap (λ x. goes_on (after_step (becomes x (over_parameters vs (named_second d e)) (names_of st)) st)) (ap name_at (sym l ∙ s))
    ∙ (ap (λ x. goes_on (after_step (becomes k (over_parameters x (named_second d e)) (names_of st)) st)) (ap values_at (sym l ∙ s)) ∙ sym i))

-- the equation of a turn does not rest
turn_moves : {sig : Signature} {st : State} {next : Next} (turn : Turn sig st next) → Rests (names_of st) turn.e → ⊥
turn_moves turn rests = rests turn.row turn.direction turn.first.applies

-- the row of a turn is that of the first move for the first equation to which one applies
pub row_of_turn : (sig : Signature) (st : State) (next : Next) (turn : Turn sig st next) (before : List SchemeEquation) (e : SchemeEquation)
    (rest : List SchemeEquation) → st.equations ≡ before ++ e ∷ rest → AllByRecursion (Rests (names_of st)) before → (row : Row) (way : Direction) →
    IsFirstMove (names_of st) e row way → turn.row ≡ row
row_of_turn sig st next turn before e rest at rests row way first =
    let place = same_place (names_of st) turn.before before turn.e e turn.rest rest (sym turn.at ∙ at) turn.rests rests
    (turn_moves turn) (λ none. none row way first.applies) in
    same_row (names_of st) turn.e turn.row row turn.direction way turn.first (subst (λ x. IsFirstMove (names_of st) x row way) (sym place.1) first)

pub turn_is_function : TurnIsFunction
turn_is_function sig st one other first second =
    let place = same_place (names_of st) first.before second.before first.e second.e first.rest second.rest (sym first.at ∙ second.at)
    first.rests second.rests (turn_moves first) (turn_moves second) in
    at_place first.before first.e first.rest second.before second.e second.rest place.0 place.1 place.2 first.row second.row
    first.direction second.direction first.first second.first first.moves second.moves
  where
    at_place : (b1 : List SchemeEquation) (e1 : SchemeEquation) (r1 b2 : List SchemeEquation) (e2 : SchemeEquation) (r2 : List SchemeEquation) →
        b1 ≡ b2 → e1 ≡ e2 → r1 ≡ r2 → (row1 row2 : Row) (d1 d2 : Direction) → IsFirstMove (names_of st) e1 row1 d1 → IsFirstMove (names_of st) e2 row2 d2 →
        Move sig st b1 e1 r1 d1 one row1 → Move sig st b2 e2 r2 d2 other row2 → one ≡ other
    at_place b1 e1 r1 b2 e2 r2 sb se sr row1 row2 d1 d2 f1 f2 m1 m2 =
        let g2 : IsFirstMove (names_of st) e1 row2 d2 = subst (λ x. IsFirstMove (names_of st) x row2 d2) (sym se) f2 in
        let rows : row1 ≡ row2 = same_row (names_of st) e1 row1 row2 d1 d2 f1 g2 in
        let k2 : IsFirstMove (names_of st) e1 row1 d2 = subst (λ x. IsFirstMove (names_of st) e1 x d2) (sym rows) g2 in
        let ways : d1 ≡ d2 = same_direction (names_of st) e1 row1 d1 d2 f1 k2 in
        let a2 : Move sig st b1 e2 r2 d2 other row2 = subst (λ x. Move sig st x e2 r2 d2 other row2) (sym sb) m2 in
        let c2 : Move sig st b1 e1 r2 d2 other row2 = subst (λ x. Move sig st b1 x r2 d2 other row2) (sym se) a2 in
        let d2' : Move sig st b1 e1 r1 d2 other row2 = subst (λ x. Move sig st b1 e1 x d2 other row2) (sym sr) c2 in
        let e2' : Move sig st b1 e1 r1 d1 other row2 = subst (λ x. Move sig st b1 e1 r1 x other row2) (sym ways) d2' in
        let h2 : Move sig st b1 e1 r1 d1 other row1 = subst (λ x. Move sig st b1 e1 r1 d1 other x) (sym rows) e2' in
        same_move sig st b1 e1 r1 d1 one other row1 m1 h2

abbrev next_state : State → Next → State
next_state st (goes_on next) = next
next_state st has_none = st

abbrev goes : Next → ℕ
goes (goes_on next) = 1
goes has_none = 0

-- an equation that rests is none of a turn
no_turn : (sig : Signature) (st : State) (next : Next) → AllByRecursion (Rests (names_of st)) st.equations → Turn sig st next → ⊥
no_turn sig st next rests turn =
    among turn.before (subst (AllByRecursion (Rests (names_of st))) turn.at rests)
  where
    among : (before : List SchemeEquation) → AllByRecursion (Rests (names_of st)) (before ++ turn.e ∷ turn.rest) → ⊥
    among [] h = turn_moves turn h.0
    among (x ∷ xs) h = among xs h.1

no_turn_solved : (sig : Signature) (st : State) (next : Next) → st.equations ≡ [] → Turn sig st next → ⊥
no_turn_solved sig st next none turn = no_turn sig st next (rw none tt) turn

pub run_is_function : RunIsFunction
run_is_function sig st one other (is_solved s h) (is_solved t i) = refl
run_is_function sig st one other (is_solved s h) (is_stuck t i) = absurd (i.0 h)
run_is_function sig st one other (is_solved s h) (has_clash t turn) = absurd (no_turn_solved sig s has_none h turn)
run_is_function sig st one other (is_solved s h) (turns t next end turn run) = absurd (no_turn_solved sig s (goes_on next) h turn)
run_is_function sig st one other (is_stuck s h) (is_solved t i) = absurd (h.0 i)
run_is_function sig st one other (is_stuck s h) (is_stuck t i) = refl
run_is_function sig st one other (is_stuck s h) (has_clash t turn) = absurd (no_turn sig s has_none h.1 turn)
run_is_function sig st one other (is_stuck s h) (turns t next end turn run) = absurd (no_turn sig s (goes_on next) h.1 turn)
run_is_function sig st one other (has_clash s turn) (is_solved t i) = absurd (no_turn_solved sig s has_none i turn)
run_is_function sig st one other (has_clash s turn) (is_stuck t i) = absurd (no_turn sig s has_none i.1 turn)
run_is_function sig st one other (has_clash s turn) (has_clash t turn2) = refl
run_is_function sig st one other (has_clash s turn) (turns t next end turn2 run) =
    absurd (omega (arith, ap goes (turn_is_function sig s has_none (goes_on next) turn turn2)))
run_is_function sig st one other (turns s next end turn run) (is_solved t i) = absurd (no_turn_solved sig s (goes_on next) i turn)
run_is_function sig st one other (turns s next end turn run) (is_stuck t i) = absurd (no_turn sig s (goes_on next) i.1 turn)
run_is_function sig st one other (turns s next end turn run) (has_clash t turn2) =
    absurd (omega (arith, ap goes (turn_is_function sig s has_none (goes_on next) turn2 turn)))
run_is_function sig st one other (turns s next end turn run) (turns t next2 end2 turn2 run2) =
    let same : next2 ≡ next = ap (next_state s) (turn_is_function sig s (goes_on next2) (goes_on next) turn2 turn) in
    run_is_function sig next end end2 run (subst (λ x. Runs sig x end2) same run2)

abbrev end_kind : End → ℕ
end_kind (solved st) = 0
end_kind clashed = 1
end_kind (stuck st) = 2

-- equations whose run is solved, or has a clash, are within the fragment
pub solved-within : (sig : Signature) (names : Names) (eqs : List SchemeEquation) (st : State) → Runs sig (start names eqs) (solved st) → IsWithinFragment sig names eqs
solved-within sig names eqs st run left ends =
    absurd (omega (arith, ap end_kind (run_is_function sig (start names eqs) (solved st) (stuck ends.st) run ends.runs)))

pub clashed-within : (sig : Signature) (names : Names) (eqs : List SchemeEquation) → Runs sig (start names eqs) clashed → IsWithinFragment sig names eqs
clashed-within sig names eqs run left ends =
    absurd (omega (arith, ap end_kind (run_is_function sig (start names eqs) clashed (stuck ends.st) run ends.runs)))

abbrev stuck_equations : State → End → List SchemeEquation
stuck_equations st (stuck s) = s.equations
stuck_equations st _ = st.equations

-- the stuck system is one
pub stuck_system_is_one : StuckSystemIsOne
stuck_system_is_one sig names eqs one other first second =
    sym first.same ∙ (ap (stuck_equations first.st) (run_is_function sig (start names eqs) (stuck first.st) (stuck second.st) first.runs second.runs) ∙ second.same)
