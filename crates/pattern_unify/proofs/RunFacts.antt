-- The runs of worked systems of equations.
use Rattle.std.proofs.Common.{◌≡◌, ℕ, List, [], ◌∷◌, length, inl, inr, refl, ap, arith}
use Rattle.std.specs.Prelude.{◌<◌}
use Rattle.binding_terms.specs.Signature.{Signature}
use Rattle.scheme_terms.specs.SchemeTree.{SchemeTree, meta, known, local, con, Values, no_values, value, AreDistinctLocals}
use Rattle.scheme_terms.specs.Forms.{Names}
use Rattle.pattern_unify.specs.Equations.{SchemeEquation}
use Rattle.pattern_unify.specs.Worked.{functions, name_with, one, two, over, function, bare, on, on_two, under_none, under_one, under_two, swapped, fewer, below_function, escaping, circular, no_pattern, nested, freeing}
use Rattle.pattern_unify.specs.State.{State, names_of, start}
use Rattle.pattern_unify.specs.Pruning.{HasOther}
use Rattle.pattern_unify.specs.Moves.{Row, delete, decompose, clash, join, meet, prune, bind, Direction, left_first, right_first, Applies, Rests, place_in_table}
use Rattle.pattern_unify.specs.Move.{goes_on, deletes, clashes, meets, prunes, binds}
use Rattle.pattern_unify.specs.Run.{IsFirstMove, Turn, solved, clashed, Runs, is_solved, is_stuck, has_clash, turns, EndsStuck}

-- the number at the head of a scheme
abbrev pub head_number : SchemeTree → ℕ
head_number (meta m vs) = m
head_number (known k) = k
head_number (local i) = i
head_number (con p xs) = p

-- which kind of scheme it is
abbrev pub kind : SchemeTree → ℕ
kind (meta m vs) = 0
kind (known k) = 1
kind (local i) = 2
kind (con p xs) = 3

abbrev first_value : SchemeTree → ℕ
first_value (meta m (value s vs)) = head_number s
first_value _ = 0

pub other_local : {i j : ℕ} → (i ≡ j → ⊥) → local i ≡ local j → ⊥
other_local h e = h (ap head_number e)

pub zero_not_one : ◌≡◌ {A = ℕ} 0 1 → ⊥
zero_not_one h = omega (arith, h)

pub one_not_zero : ◌≡◌ {A = ℕ} 1 0 → ⊥
one_not_zero h = omega (arith, h)

-- an equation of equal sides is deleted
pub delete_first : {names : Names} (e : SchemeEquation) → e.left ≡ e.right → IsFirstMove names e delete left_first
delete_first e same =
    record { applies = same; no_earlier = λ row way less. absurd (omega (arith, less)); left = tt }

abbrev pub equal_locals : (ls : List ℕ) → ℕ → SchemeEquation
equal_locals ls i = record { locals = ls; left = local i; right = local i }

clash_applies : Applies (over (name_with one ∷ [])) clash left_first escaping
clash_applies = inr (((tt, tt), inr (omega arith, λ among. elim among [ inl e ↦ other_local one_not_zero e | inr h ↦ h ])))

-- a row that applies to no equation of two locals, or of a pattern and a local, comes to nothing
pub clash_answer : Runs functions (start (over (name_with one ∷ [])) (escaping ∷ [])) clashed
clash_answer =
    has_clash _
    (record {
      before = [];
      e = escaping;
      rest = [];
      row = clash;
      direction = left_first;
      at = refl;
      rests = tt;
      first = record { applies = clash_applies; no_earlier = earlier; left = tt };
      moves = clashes clash_applies refl;
    })
  where
    earlier : (other : Row) (way : Direction) → place_in_table other < 2 → Applies (over (name_with one ∷ [])) other way escaping → ⊥
    earlier delete left_first less h = absurd (omega (arith, ap kind h))
    earlier delete right_first less h = absurd (omega (arith, ap kind h))
    earlier decompose left_first less h = h
    earlier decompose right_first less h = h
    earlier clash way less h = absurd (omega (arith, less))
    earlier join way less h = absurd (omega (arith, less))
    earlier meet way less h = absurd (omega (arith, less))
    earlier prune way less h = absurd (omega (arith, less))
    earlier bind way less h = absurd (omega (arith, less))

occurs_applies : Applies (over (name_with [] ∷ [])) clash left_first circular
occurs_applies = inr ((tt, inl (inl refl)))

pub occurs_answer : Runs functions (start (over (name_with [] ∷ [])) (circular ∷ [])) clashed
occurs_answer =
    has_clash _
    (record {
      before = [];
      e = circular;
      rest = [];
      row = clash;
      direction = left_first;
      at = refl;
      rests = tt;
      first = record { applies = occurs_applies; no_earlier = earlier; left = tt };
      moves = clashes occurs_applies refl;
    })
  where
    earlier : (other : Row) (way : Direction) → place_in_table other < 2 → Applies (over (name_with [] ∷ [])) other way circular → ⊥
    earlier delete left_first less h = absurd (omega (arith, ap kind h))
    earlier delete right_first less h = absurd (omega (arith, ap kind h))
    earlier decompose left_first less h = h
    earlier decompose right_first less h = h
    earlier clash way less h = absurd (omega (arith, less))
    earlier join way less h = absurd (omega (arith, less))
    earlier meet way less h = absurd (omega (arith, less))
    earlier prune way less h = absurd (omega (arith, less))
    earlier bind way less h = absurd (omega (arith, less))

pub stuck_rests : (names : Names) (m : ℕ) → Rests names (under_none (on m (bare 1)) (function (local 0)))
stuck_rests names m delete left_first h = absurd (omega (arith, ap kind h))
stuck_rests names m delete right_first h = absurd (omega (arith, ap kind h))
stuck_rests names m decompose left_first h = h
stuck_rests names m decompose right_first h = h
stuck_rests names m clash left_first (inl h) = h
stuck_rests names m clash left_first (inr h) = h.0
stuck_rests names m clash right_first (inl h) = h
stuck_rests names m clash right_first (inr h) = h
stuck_rests names m join left_first h = h
stuck_rests names m join right_first h = h
stuck_rests names m meet left_first h = h
stuck_rests names m meet right_first h = h
stuck_rests names m prune left_first h = h.0
stuck_rests names m prune right_first h = h
stuck_rests names m bind left_first h = h.0
stuck_rests names m bind right_first h = h

pub stuck_answer : EndsStuck functions (over (name_with one ∷ (name_with [] ∷ []))) (no_pattern ∷ []) (no_pattern ∷ [])
stuck_answer =
    record {
      st = start (over (name_with one ∷ (name_with [] ∷ []))) (no_pattern ∷ []);
      runs = is_stuck _ (λ h. absurd (omega (arith, ap length h)), (stuck_rests (over (name_with one ∷ (name_with [] ∷ []))) 0, tt));
      same = refl;
    }

-- no equation: the identity
pub no_equation : Runs functions (start (over (name_with two ∷ [])) []) (solved (start (over (name_with two ∷ [])) []))
no_equation = is_solved _ refl

-- the turn that deletes the first equation
abbrev pub without : SchemeEquation → List SchemeEquation → State → State
without e rest st = record { equations = rest; so_far = st.so_far }

pub delete_turn : {sig : Signature} (st : State) (e : SchemeEquation) (rest : List SchemeEquation) → st.equations ≡ e ∷ rest → e.left ≡ e.right →
    Turn sig st (goes_on (without e rest st))
delete_turn st e rest at same =
    record {
      before = [];
      e = e;
      rest = rest;
      row = delete;
      direction = left_first;
      at = at;
      rests = tt;
      first = delete_first e same;
      moves = deletes same refl;
    }

abbrev meet_start : State
meet_start = start (over (name_with two ∷ [])) (swapped ∷ [])

-- after the meet both sides are the new metavariable, which has no parameter
abbrev met : State
met =
    record {
      equations = under_two (bare 1) (bare 1) ∷ [];
      so_far = record { metas = bare 1 ∷ []; knowns = []; into = over (name_with two ∷ (name_with [] ∷ [])) };
    }

pub distinct_two : AreDistinctLocals (value (local 1) (value (local 0) no_values))
distinct_two = ((other_local zero_not_one, tt), (tt, tt))

distinct_swapped : AreDistinctLocals (value (local 0) (value (local 1) no_values))
distinct_swapped = ((other_local one_not_zero, tt), (tt, tt))

meet_applies : Applies (names_of meet_start) meet left_first swapped
meet_applies = (refl, distinct_two, distinct_swapped)

meet_turn : Turn functions meet_start (goes_on met)
meet_turn =
    record {
      before = [];
      e = swapped;
      rest = [];
      row = meet;
      direction = left_first;
      at = refl;
      rests = tt;
      first = record { applies = meet_applies; no_earlier = earlier; left = tt };
      moves = meets 0 _ _ (name_with two) refl refl refl meet_applies refl;
    }
  where
    earlier : (other : Row) (way : Direction) → place_in_table other < 4 → Applies (names_of meet_start) other way swapped → ⊥
    earlier delete left_first less h = absurd (omega (arith, ap first_value h))
    earlier delete right_first less h = absurd (omega (arith, ap first_value h))
    earlier decompose left_first less h = h
    earlier decompose right_first less h = h
    earlier clash left_first less (inl h) = h
    earlier clash left_first less (inr h) = elim h.1 [ inl k ↦ k | inr k ↦ k ]
    earlier clash right_first less (inl h) = h
    earlier clash right_first less (inr h) = elim h.1 [ inl k ↦ k | inr k ↦ k ]
    earlier join left_first less h = h
    earlier join right_first less h = h
    earlier meet way less h = absurd (omega (arith, less))
    earlier prune way less h = absurd (omega (arith, less))
    earlier bind way less h = absurd (omega (arith, less))

-- t becomes a new metavariable without parameters
pub meet_answer : Runs functions meet_start (solved (without (under_two (bare 1) (bare 1)) [] met))
meet_answer = turns _ _ _ meet_turn (turns _ _ _ (delete_turn met _ [] refl refl) (is_solved _ refl))

abbrev freed_start : State
freed_start = start (over (name_with one ∷ (name_with one ∷ []))) (nested ∷ (freeing ∷ []))

nested_rests : (names : Names) → Rests names nested
nested_rests names delete left_first h = absurd (omega (arith, ap kind h))
nested_rests names delete right_first h = absurd (omega (arith, ap kind h))
nested_rests names decompose left_first h = h
nested_rests names decompose right_first h = h
nested_rests names clash left_first (inl h) = h
nested_rests names clash left_first (inr h) = h.0
nested_rests names clash right_first (inl h) = h
nested_rests names clash right_first (inr h) = h
nested_rests names join left_first h = h
nested_rests names join right_first h = h
nested_rests names meet left_first h = h
nested_rests names meet right_first h = h
nested_rests names prune left_first h = h.0
nested_rests names prune right_first h = h
nested_rests names bind left_first h = h.0
nested_rests names bind right_first h = h

-- a pattern on its one local and this local: a bind
pub bind_first : {names : Names} (m : ℕ) → IsFirstMove names (under_one (on m (local 0)) (local 0)) bind left_first
bind_first {names = names} m =
    record { applies = ((tt, tt), (λ h. h), inr (inl refl)); no_earlier = earlier; left = tt }
  where
    earlier : (other : Row) (way : Direction) → place_in_table other < 6 → Applies names other way (under_one (on m (local 0)) (local 0)) → ⊥
    earlier delete left_first less h = absurd (omega (arith, ap kind h))
    earlier delete right_first less h = absurd (omega (arith, ap kind h))
    earlier decompose left_first less h = h
    earlier decompose right_first less h = h
    earlier clash left_first less (inl h) = h
    earlier clash left_first less (inr h) = elim h.1 [ inl k ↦ k | inr k ↦ k.1 (inl refl) ]
    earlier clash right_first less (inl h) = h
    earlier clash right_first less (inr h) = h
    earlier join left_first less h = h
    earlier join right_first less h = h
    earlier meet left_first less h = h
    earlier meet right_first less h = h
    earlier prune left_first less h = h.1
    earlier prune right_first less h = h
    earlier bind way less h = absurd (omega (arith, less))

abbrev freed_names : Names
freed_names = over (name_with one ∷ (name_with one ∷ []))

abbrev after_first : State
after_first =
    record {
      equations = under_one (on 0 (local 0)) (local 0) ∷ (equal_locals (0 ∷ []) 0 ∷ []);
      so_far = record { metas = on 0 (local 0) ∷ (local 0 ∷ []); knowns = []; into = freed_names };
    }

abbrev after_second : State
after_second =
    record {
      equations = equal_locals (0 ∷ []) 0 ∷ (equal_locals (0 ∷ []) 0 ∷ []);
      so_far = record { metas = local 0 ∷ (local 0 ∷ []); knowns = []; into = freed_names };
    }

first_bind : Turn functions freed_start (goes_on after_first)
first_bind =
    record {
      before = nested ∷ [];
      e = freeing;
      rest = [];
      row = bind;
      direction = left_first;
      at = refl;
      rests = (nested_rests freed_names, tt);
      first = bind_first 1;
      moves = binds 1 _ refl (bind_first {names = freed_names} 1).applies refl;
    }

second_bind : Turn functions after_first (goes_on after_second)
second_bind =
    record {
      before = [];
      e = under_one (on 0 (local 0)) (local 0);
      rest = equal_locals (0 ∷ []) 0 ∷ [];
      row = bind;
      direction = left_first;
      at = refl;
      rests = tt;
      first = bind_first 0;
      moves = binds 0 _ refl (bind_first {names = freed_names} 0).applies refl;
    }

-- both become their parameter
pub freed_answer : Runs functions freed_start (solved (without (equal_locals (0 ∷ []) 0) [] (without (equal_locals (0 ∷ []) 0) (equal_locals (0 ∷ []) 0 ∷ []) after_second)))
freed_answer =
    turns _ _ _ first_bind
    (turns _ _ _ second_bind
    (turns _ _ _ (delete_turn after_second _ _ refl refl) (turns _ _ _ (delete_turn _ _ [] refl refl) (is_solved _ refl))))

abbrev prune_start : State
prune_start = start (over (name_with one ∷ (name_with two ∷ []))) (fewer ∷ [])

abbrev pruned_names : Names
pruned_names = over (name_with one ∷ (name_with two ∷ (name_with one ∷ [])))

abbrev pruned_equation : SchemeEquation
pruned_equation = under_two (on 0 (local 1)) (on 2 (local 1))

abbrev pruned : State
pruned =
    record {
      equations = pruned_equation ∷ [];
      so_far = record { metas = on 0 (local 0) ∷ (on 2 (local 1) ∷ []); knowns = []; into = pruned_names };
    }

abbrev bound_after_prune : State
bound_after_prune =
    record {
      equations = under_two (on 2 (local 1)) (on 2 (local 1)) ∷ [];
      so_far = record { metas = on 2 (local 0) ∷ (on 2 (local 1) ∷ []); knowns = []; into = pruned_names };
    }

prune_applies : Applies (names_of prune_start) prune left_first fewer
prune_applies = ((tt, tt), (one_not_zero, distinct_two, inr (inl (omega arith, λ among. elim among [ inl e ↦ other_local one_not_zero e | inr h ↦ h ]))))

prune_turn : Turn functions prune_start (goes_on pruned)
prune_turn =
    record {
      before = [];
      e = fewer;
      rest = [];
      row = prune;
      direction = left_first;
      at = refl;
      rests = tt;
      first = record { applies = prune_applies; no_earlier = earlier; left = tt };
      moves = prunes 0 1 _ _ (name_with two) refl prune_applies (prune_applies.1, refl, refl) refl refl;
    }
  where
    earlier : (other : Row) (way : Direction) → place_in_table other < 5 → Applies (names_of prune_start) other way fewer → ⊥
    earlier delete left_first less h = absurd (omega (arith, ap head_number h))
    earlier delete right_first less h = absurd (omega (arith, ap head_number h))
    earlier decompose left_first less h = h
    earlier decompose right_first less h = h
    earlier clash left_first less (inl h) = h
    earlier clash left_first less (inr h) = elim h.1 [ inl k ↦ k | inr k ↦ k ]
    earlier clash right_first less (inl h) = h
    earlier clash right_first less (inr h) = elim h.1 [ inl k ↦ k | inr k ↦ k ]
    earlier join left_first less h = h
    earlier join right_first less h = h
    earlier meet left_first less h = absurd (omega (arith, h.0))
    earlier meet right_first less h = absurd (omega (arith, h.0))
    earlier prune way less h = absurd (omega (arith, less))
    earlier bind way less h = absurd (omega (arith, less))

-- t1 becomes t2's new name on its parameter
bind_after_prune_applies : Applies pruned_names bind left_first pruned_equation
bind_after_prune_applies = ((tt, tt), (λ h. elim h [ inl e ↦ absurd (omega (arith, e)) | inr k ↦ elim k [ inl k ↦ k | inr k ↦ k ] ]), (inr (inl refl), tt))

bind_after_prune : Turn functions pruned (goes_on bound_after_prune)
bind_after_prune =
    record {
      before = [];
      e = pruned_equation;
      rest = [];
      row = bind;
      direction = left_first;
      at = refl;
      rests = tt;
      first = record { applies = bind_after_prune_applies; no_earlier = earlier; left = tt };
      moves = binds 0 _ refl bind_after_prune_applies refl;
    }
  where
    other : {i : ℕ} → (◌≡◌ {A = ℕ} i 1 → ⊥) → local i ≡ local 1 → ⊥
    other = other_local

    kept : (ws : Values) → ws ≡ value (local 1) no_values → HasOther (value (local 1) no_values) 0 ws → ⊥
    kept ws e h = elim (rw e at h) [ inl k ↦ k.1 (inl refl) | inr k ↦ k ]

    earlier : (row : Row) (way : Direction) → place_in_table row < 6 → Applies pruned_names row way pruned_equation → ⊥
    earlier delete left_first less h = absurd (omega (arith, ap head_number h))
    earlier delete right_first less h = absurd (omega (arith, ap head_number h))
    earlier decompose left_first less h = h
    earlier decompose right_first less h = h
    earlier clash left_first less (inl h) = h
    earlier clash left_first less (inr h) = elim h.1 [ inl k ↦ k | inr k ↦ k ]
    earlier clash right_first less (inl h) = h
    earlier clash right_first less (inr h) = elim h.1 [ inl k ↦ k | inr k ↦ k ]
    earlier join left_first less h = h
    earlier join right_first less h = h
    earlier meet left_first less h = absurd (omega (arith, h.0))
    earlier meet right_first less h = absurd (omega (arith, h.0))
    earlier prune left_first less h = kept _ refl h.1.2
    earlier prune right_first less h = kept _ refl h.1.2
    earlier bind way less h = absurd (omega (arith, less))

-- t2 becomes a new metavariable of its first parameter alone, and t1 is the same
pub prune_answer : Runs functions prune_start (solved (without (under_two (on 2 (local 1)) (on 2 (local 1))) [] bound_after_prune))
prune_answer =
    turns _ _ _ prune_turn (turns _ _ _ bind_after_prune (turns _ _ _ (delete_turn bound_after_prune _ [] refl refl) (is_solved _ refl)))

-- t1[x, x'] = fn x'' => t2[x'', x]: t1 becomes the function over its parameters
abbrev function_start : State
function_start = start (over (name_with two ∷ (name_with two ∷ []))) (below_function ∷ [])

abbrev function_result : State
function_result =
    record {
      equations = under_two (function (on_two 1 (local 0) (local 2))) (function (on_two 1 (local 0) (local 2))) ∷ [];
      so_far =
          record {
            metas = function (on_two 1 (local 0) (local 2)) ∷ (on_two 1 (local 1) (local 0) ∷ []);
            knowns = [];
            into = over (name_with two ∷ (name_with two ∷ []));
          };
    }

function_applies : Applies (names_of function_start) bind left_first below_function
function_applies = (
  distinct_two,
  λ h. elim h [
    | inl k ↦ elim k [ inl e ↦ absurd (omega (arith, e)) | inr v ↦ elim v [ inl n ↦ n | inr w ↦ elim w [ inl n ↦ n | inr n ↦ n ] ] ]
    | inr k ↦ k
  ],
  ((inl (omega arith), (inr (inl refl), tt)), tt),
)

function_turn : Turn functions function_start (goes_on function_result)
function_turn =
    record {
      before = [];
      e = below_function;
      rest = [];
      row = bind;
      direction = left_first;
      at = refl;
      rests = tt;
      first = record { applies = function_applies; no_earlier = earlier; left = tt };
      moves = binds 0 _ refl function_applies refl;
    }
  where
    earlier : (row : Row) (way : Direction) → place_in_table row < 6 → Applies (names_of function_start) row way below_function → ⊥
    earlier delete left_first less h = absurd (omega (arith, ap kind h))
    earlier delete right_first less h = absurd (omega (arith, ap kind h))
    earlier decompose left_first less h = h
    earlier decompose right_first less h = h
    earlier clash left_first less (inl h) = h
    earlier clash left_first less (inr h) = elim h.1 [
      | inl k ↦ elim k [ inl e ↦ absurd (omega (arith, e)) | inr n ↦ n ]
      | inr k ↦ elim k [ inl n ↦ n | inr n ↦ n ]
    ]
    earlier clash right_first less (inl h) = h
    earlier clash right_first less (inr h) = h
    earlier join left_first less h = h
    earlier join right_first less h = h
    earlier meet left_first less h = h
    earlier meet right_first less h = h
    earlier prune left_first less h = elim h.1 [
      | inl k ↦ elim k.2 [ inl o ↦ absurd (omega (arith, o.0)) | inr o ↦ elim o [ inl q ↦ q.1 (inl refl) | inr n ↦ n ] ]
      | inr n ↦ n
    ]
    earlier prune right_first less h = h
    earlier bind way less h = absurd (omega (arith, less))

pub function_answer : Runs functions function_start
    (solved (without (under_two (function (on_two 1 (local 0) (local 2))) (function (on_two 1 (local 0) (local 2)))) [] function_result))
function_answer = turns _ _ _ function_turn (turns _ _ _ (delete_turn function_result _ [] refl refl) (is_solved _ refl))
