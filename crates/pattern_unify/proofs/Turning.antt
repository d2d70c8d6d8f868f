-- A turn from what the functions inside the crate make of a state.
use Rattle.std.proofs.Common.{◌≡◌, ◌+◌, ◌<◌, ℕ, zero, suc, List, [], ◌∷◌, ◌++◌, length, map, take, drop, get_or, Some, MatchOption, slice_get, refl, ap, sym, ◌∙◌, subst, add-one, arith}
use Rattle.std.specs.List.{AllByRecursion}
use Rattle.std.proofs.lemmas.List.{length-map, length-reverse}
use Rattle.binding_terms.proofs.Lists.{all_middle, get_mapped_or, match_within, some_once}
use Rattle.binding_terms.specs.Signature.{Signature}
use Rattle.scheme_terms.specs.SchemeTree.{SchemeTree, meta, known, local, con}
use Rattle.scheme_terms.specs.Forms.{Names, Substitution}
use Rattle.scheme_terms.specs.SchemeScope.{IsScheme}
use Rattle.scheme_terms.proofs.SchemeFacts.{scheme_below}
use Rattle.pattern_unify.specs.declared.equation.Equation.{Equation}
use Rattle.pattern_unify.specs.Equations.{SchemeEquation, equation, AreSides}
use Rattle.pattern_unify.specs.State.{State, with_equations, joins_to, after_step, substitution_of, becomes}
use Rattle.pattern_unify.specs.Patterns.{over_parameters}
use Rattle.pattern_unify.specs.Stepped.{through}
use Rattle.pattern_unify.specs.Pruning.{FirstPrunable}
use Rattle.pattern_unify.specs.Moves.{Row, delete, decompose, clash, join, meet, prune, bind, Direction, left_first, right_first, named_first, named_second, HaveOneProduction, CanJoin, CanMeet, CanPrune, CanBind, Applies}
use Rattle.pattern_unify.specs.Move.{Next, goes_on, has_none, entry_args, entry_equations, Move, deletes, decomposes, clashes, joins, meets, prunes, binds}
use Rattle.pattern_unify.specs.Run.{Turn}
use Rattle.pattern_unify.specs.Found.{NextMove, IsNextMove}
use Rattle.pattern_unify.specs.Turned.{GoesTo, IsDecomposed, AreTwoKnowns, AreLowAndHigh, Meets, Prunes, Binds, IsMeet, IsPrune, IsBind}
use Rattle.pattern_unify.proofs.Fewer.{meta_declared}
use Rattle.pattern_unify.proofs.Progress.{pruned_declared}

-- the list around a place

front_at : {A : Type 0} (before rest : List A) (e : A) (k : ℕ) → length before ≡ k → take k (before ++ e ∷ rest) ≡ before
front_at [] rest e zero h = refl
front_at [] rest e (suc k) h = absurd (let no : ⊥ = omega (arith, h) in no)
front_at (b ∷ bs) rest e zero h = absurd (let no : ⊥ = omega (arith, h) in no)
front_at (b ∷ bs) rest e (suc k) h = ap (λ xs. b ∷ xs) (front_at bs rest e k (omega (arith, h)))

back_at : {A : Type 0} (before rest : List A) (e : A) (k : ℕ) → length before ≡ k → drop (suc k) (before ++ e ∷ rest) ≡ rest
back_at [] rest e zero h = refl
back_at [] rest e (suc k) h = absurd (let no : ⊥ = omega (arith, h) in no)
back_at (b ∷ bs) rest e zero h = absurd (let no : ⊥ = omega (arith, h) in no)
back_at (b ∷ bs) rest e (suc k) h = back_at bs rest e k (omega (arith, h))

one_at : {A : Type 0} (before rest : List A) (e : A) (k : ℕ) → length before ≡ k → slice_get (before ++ e ∷ rest) k ≡ Some e
one_at [] rest e zero h = refl
one_at [] rest e (suc k) h = absurd (let no : ⊥ = omega (arith, h) in no)
one_at (b ∷ bs) rest e zero h = absurd (let no : ⊥ = omega (arith, h) in no)
one_at (b ∷ bs) rest e (suc k) h = one_at bs rest e k (omega (arith, h))

long : {A : Type 0} (before rest : List A) (e : A) (k : ℕ) → length before ≡ k → k < length (before ++ e ∷ rest)
long [] rest e k h = omega (arith, h)
long (b ∷ bs) rest e zero h = omega arith
long (b ∷ bs) rest e (suc k) h = let less = long bs rest e k (omega (arith, h)) in omega (arith, less)

mapped_take : {A B : Type 0} (f : A → B) (k : ℕ) (xs : List A) → map f (take k xs) ≡ take k (map f xs)
mapped_take f zero xs = refl
mapped_take f (suc k) [] = refl
mapped_take f (suc k) (x ∷ xs) = ap (λ ys. f x ∷ ys) (mapped_take f k xs)

mapped_drop : {A B : Type 0} (f : A → B) (k : ℕ) (xs : List A) → map f (drop k xs) ≡ drop k (map f xs)
mapped_drop f zero xs = refl
mapped_drop f (suc k) [] = refl
mapped_drop f (suc k) (x ∷ xs) = mapped_drop f k xs

module _ (names : Names) (xs : List Equation) (next : NextMove) (n : IsNextMove names (map equation xs) next) where
  pub next_below : next.place < length xs
  next_below = subst (λ k. next.place < k) (ap length (sym n.at) ∙ length-map xs equation) (long n.before n.rest n.e next.place n.count)

  pub next_front : map equation (take next.place xs) ≡ n.before
  next_front = mapped_take equation next.place xs ∙ ap (take next.place) n.at ∙ front_at n.before n.rest n.e next.place n.count

  pub next_back : map equation (drop (next.place + 1) xs) ≡ n.rest
  next_back =
      mapped_drop equation (next.place + 1) xs ∙ ap (drop (next.place + 1)) n.at ∙ ap (λ k. drop k (n.before ++ n.e ∷ n.rest)) (add-one next.place)
      ∙ back_at n.before n.rest n.e next.place n.count

  pub next_here : (ys : List Equation) (here : Equation) → ys ≡ xs → here ≡ get_or ys next.place here → equation here ≡ n.e
  next_here ys here same is =
      ap equation (is ∙ ap (λ zs. get_or zs next.place here) same)
      ∙ some_once (get_mapped_or equation xs next.place here next_below) (ap (λ ys. slice_get ys next.place) n.at ∙ one_at n.before n.rest n.e next.place n.count)

  pub next_applies : (row : Row) → next.row ≡ row → Applies names row next.way n.e
  next_applies row same = subst (λ r. Applies names r next.way n.e) same n.first.applies

  pub next_sides : (sig : Signature) → AllByRecursion (AreSides sig names) (map equation xs) → AreSides sig names n.e
  next_sides sig sides = all_middle (AreSides sig names) n.before n.rest n.e (subst (AllByRecursion (AreSides sig names)) n.at sides)

-- the state that the equations and what was found so far make

abbrev standing : List Equation → Substitution → State
standing xs so_far = record { equations = map equation xs; so_far = so_far }

module _ (sig : Signature) (xs : List Equation) (so_far : Substitution) (next : NextMove) (n : IsNextMove so_far.into (map equation xs) next) where
  turn_of : (row : Row) → next.row ≡ row → (to : Next) → Move sig (standing xs so_far) n.before n.e n.rest next.way to row → Turn sig (standing xs so_far) to
  turn_of row same to move = record {
    before = n.before;
    e = n.e;
    rest = n.rest;
    row = next.row;
    direction = next.way;
    at = n.at;
    rests = n.rests;
    first = n.first;
    moves = subst (Move sig (standing xs so_far) n.before n.e n.rest next.way to) (sym same) move;
  }

  around : (more : List SchemeEquation) →
      with_equations (map equation (take next.place xs) ++ (more ++ map equation (drop (next.place + 1) xs))) (standing xs so_far)
      ≡ with_equations (n.before ++ (more ++ n.rest)) (standing xs so_far)
  around more =
      ap (λ front. with_equations (front ++ (more ++ map equation (drop (next.place + 1) xs))) (standing xs so_far)) (next_front so_far.into xs next n)
      ∙ ap (λ back. with_equations (n.before ++ (more ++ back)) (standing xs so_far)) (next_back so_far.into xs next n)

  pub clash_turn : next.row ≡ clash → Turn sig (standing xs so_far) has_none
  clash_turn row = turn_of clash row has_none (clashes (next_applies so_far.into xs next n clash row) refl)

  pub delete_turn : (new : State) → next.row ≡ delete →
      new ≡ with_equations (map equation (take next.place xs) ++ ([] ++ map equation (drop (next.place + 1) xs))) (standing xs so_far) →
      GoesTo sig (standing xs so_far) new
  delete_turn new row same =
      turn_of delete row (goes_on new) (deletes (next_applies so_far.into xs next n delete row) (ap goes_on (same ∙ around [])))

  pub decompose_turn : (new : State) (all : List SchemeEquation) → next.row ≡ decompose → IsDecomposed sig n.e all →
      new ≡ with_equations (map equation (take next.place xs) ++ (all ++ map equation (drop (next.place + 1) xs))) (standing xs so_far) →
      GoesTo sig (standing xs so_far) new
  decompose_turn new all row d same =
      turn_of decompose row (goes_on new) (decomposes d.p d.xs d.ys d.left d.right
      (ap goes_on (same ∙ around all ∙ ap (λ ys. with_equations (n.before ++ (ys ++ n.rest)) (standing xs so_far)) d.same)))

  pub join_turn : (new : State) (low high : ℕ) → next.row ≡ join → AreLowAndHigh n.e low high →
      new ≡ after_step (joins_to high low so_far.into)
      (with_equations (map equation (take next.place xs) ++ (entry_equations (entry_args so_far.into low) (entry_args so_far.into high)
      ++ map equation (drop (next.place + 1) xs))) (standing xs so_far)) →
      GoesTo sig (standing xs so_far) new
  join_turn new low high row two same =
      turn_of join row (goes_on new) (joins low high two.0 two.1 (next_applies so_far.into xs next n join row)
      (ap goes_on (same ∙ ap (after_step (joins_to high low so_far.into)) (around (entry_equations (entry_args so_far.into low) (entry_args so_far.into high))))))

  pub meet_turn : (new : State) (s t : SchemeTree) (by : Substitution) → next.row ≡ meet → s ≡ named_first next.way n.e → t ≡ named_second next.way n.e →
      IsMeet so_far.into s t by → new ≡ through by (standing xs so_far) → GoesTo sig (standing xs so_far) new
  meet_turn new s t by row first second is same =
      turn_of meet row (goes_on new) (meets is.m is.vs is.ws is.made.decl (sym first ∙ is.first) (sym second ∙ is.second) is.made.declared
      (next_applies so_far.into xs next n meet row) (ap goes_on (same ∙ ap (λ b. through b (standing xs so_far)) is.made.same)))

  pub prune_turn : (new : State) (s t : SchemeTree) (by : Substitution) → next.row ≡ prune → s ≡ named_first next.way n.e → t ≡ named_second next.way n.e →
      IsPrune so_far.into s t by → new ≡ through by (standing xs so_far) → GoesTo sig (standing xs so_far) new
  prune_turn new s t by row first second is same =
      turn_of prune row (goes_on new) (prunes is.m is.n is.vs is.keeps is.made.decl (sym first ∙ is.first) (next_applies so_far.into xs next n prune row)
      (subst (λ u. FirstPrunable is.m is.vs 0 u is.n is.keeps) second is.pruned) is.made.declared
      (ap goes_on (same ∙ ap (λ b. through b (standing xs so_far)) is.made.same)))

  pub bind_turn : (new : State) (s t : SchemeTree) (by : Substitution) → next.row ≡ bind → s ≡ named_first next.way n.e → t ≡ named_second next.way n.e →
      IsBind so_far.into s t by → new ≡ through by (standing xs so_far) → GoesTo sig (standing xs so_far) new
  bind_turn new s t by row first second is same =
      turn_of bind row (goes_on new) (binds is.m is.vs (sym first ∙ is.first) (next_applies so_far.into xs next n bind row)
      (ap goes_on (same ∙ ap (λ b. through b (standing xs so_far)) (is.same
      ∙ ap (λ u. substitution_of so_far.into (becomes is.m (over_parameters is.vs u) so_far.into)) second))))

pub locals_long : (one : Equation) → length (equation one).locals ≡ length one.scope
locals_long one = length-reverse (map (λ c. c.0) one.scope) ∙ length-map one.scope (λ c. c.0)

-- what the functions of a row require

turned_production : (s t : SchemeTree) → HaveOneProduction s t → HaveOneProduction t s
turned_production (con p xs) (con q ys) h = sym h
turned_production (con p xs) (meta m vs) h = absurd h
turned_production (con p xs) (known k) h = absurd h
turned_production (con p xs) (local i) h = absurd h
turned_production (meta m vs) t h = absurd h
turned_production (known k) t h = absurd h
turned_production (local i) t h = absurd h

pub one_production : (names : Names) (direction : Direction) (e : SchemeEquation) → Applies names decompose direction e → HaveOneProduction e.left e.right
one_production names left_first e h = h
one_production names right_first e h = turned_production e.right e.left h

two_knowns : (names : Names) (s t : SchemeTree) → CanJoin names s t → AreTwoKnowns s t × AreTwoKnowns t s
two_knowns names (known k) (known l) h = (h.0, λ e. h.0 (sym e))
two_knowns names (known k) (meta m vs) h = absurd h
two_knowns names (known k) (local i) h = absurd h
two_knowns names (known k) (con p xs) h = absurd h
two_knowns names (meta m vs) t h = absurd h
two_knowns names (local i) t h = absurd h
two_knowns names (con p xs) t h = absurd h

pub join_knowns : (names : Names) (direction : Direction) (e : SchemeEquation) → Applies names join direction e → AreTwoKnowns e.left e.right
join_knowns names left_first e h = (two_knowns names e.left e.right h).0
join_knowns names right_first e h = (two_knowns names e.right e.left h).1

declared_below : {A : Type 0} (xs : List A) (k : ℕ) (x : A) → slice_get xs k ≡ Some x → k < length xs
declared_below xs k x e = match_within xs k (λ y. Unit {0}) (subst (λ o. MatchOption o ⊥ (λ y. Unit {0})) (sym e) tt)

pub pattern_meets : (sig : Signature) (names : Names) (ls : List ℕ) (c : ℕ) (s t : SchemeTree) → IsScheme sig names ls c s → CanMeet s t → Meets names s t
pattern_meets sig names ls c (meta m vs) (meta n ws) typed h = let found = meta_declared sig names ls c m vs typed in (h.0, declared_below names.metas m found.0 found.1)
pattern_meets sig names ls c (meta m vs) (known k) typed h = absurd h
pattern_meets sig names ls c (meta m vs) (local i) typed h = absurd h
pattern_meets sig names ls c (meta m vs) (con p xs) typed h = absurd h
pattern_meets sig names ls c (known k) t typed h = absurd h
pattern_meets sig names ls c (local i) t typed h = absurd h
pattern_meets sig names ls c (con p xs) t typed h = absurd h

pub pattern_prunes : (sig : Signature) (names : Names) (ls : List ℕ) (c : ℕ) (s t : SchemeTree) → IsScheme sig names ls c t → CanPrune s t → Prunes names s t
pattern_prunes sig names ls c (meta m vs) t typed h =
    (h.1, λ n keeps first. let found = pruned_declared sig names ls c m vs 0 t n keeps typed first in declared_below names.metas n found.0 found.1)
pattern_prunes sig names ls c (known k) t typed h = absurd h
pattern_prunes sig names ls c (local i) t typed h = absurd h
pattern_prunes sig names ls c (con p xs) t typed h = absurd h

pub pattern_binds : (sig : Signature) (names : Names) (ls : List ℕ) (c : ℕ) (s t : SchemeTree) → IsScheme sig names ls c t → CanBind s t → Binds (length ls) s t
pattern_binds sig names ls c (meta m vs) t typed h = (h.0, scheme_below sig names ls c t typed)
pattern_binds sig names ls c (known k) t typed h = absurd h
pattern_binds sig names ls c (local i) t typed h = absurd h
pattern_binds sig names ls c (con p xs) t typed h = absurd h
