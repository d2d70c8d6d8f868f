-- A value is told by what it becomes where it is applied to different locals: these are renamed back to its parameters.
use Rattle.std.proofs.Common.{◌≡◌, ◌≢◌, ◌⊎◌, ℕ, zero, suc, ◌+◌, ◌-◌, ◌<◌, ◌≤◌, ◌==◌, if◌then◌else◌, List, [], ◌∷◌, length, map, reverse, get_or, inl, inr, refl, ap, ◌∙◌, sym, arith}
use Rattle.std.specs.List.{AllByRecursion}
use Rattle.std.proofs.lemmas.Bool.{cases_lt}
use Rattle.std.proofs.lemmas.Bool.Decides.{nat_tests}
use Rattle.std.proofs.lemmas.List.{get_or-reverse}
use Rattle.std.proofs.lemmas.Option.{unwrap_or-slice_get}
use Rattle.binding_terms.specs.Numbered.{AreDifferent}
use Rattle.scheme_terms.specs.SchemeTree.{SchemeTree, meta, known, local, con, Values, no_values, value, filled, AreDistinctLocals, IsApart}
use Rattle.scheme_terms.specs.Substituting.{argument_or_local, ValuesBelow}
use Rattle.scheme_terms.specs.Demands.{numbers, parameter_of, variable_of, lowered}
use Rattle.scheme_terms.proofs.Arguments.{argument_or, argument_at, argument_past, argument_mapped}
use Rattle.scheme_terms.proofs.SchemeSubstitutions.{filled_filled, filled_local}

-- the arguments of a strict occurrence are different locals
numbers_apart : (i : ℕ) (vs : Values) → AreDistinctLocals vs → IsApart i vs → AllByRecursion (λ j. i ≢ j) (numbers vs)
numbers_apart i no_values h k = tt
numbers_apart i (value (local j) vs) h k = (λ e. k.0 (ap local (sym e)), numbers_apart i vs h.1 k.1)
numbers_apart i (value (meta m ws) vs) h k = absurd h
numbers_apart i (value (known l) vs) h k = absurd h
numbers_apart i (value (con p xs) vs) h k = absurd h

pub numbers_different : (vs : Values) → AreDistinctLocals vs → AreDifferent (numbers vs)
numbers_different no_values h = tt
numbers_different (value (local i) vs) h = (numbers_apart i vs h.1 h.0, numbers_different vs h.1)
numbers_different (value (meta m ws) vs) h = absurd h
numbers_different (value (known l) vs) h = absurd h
numbers_different (value (con p xs) vs) h = absurd h

pub numbers_below : (d : ℕ) (vs : Values) → AreDistinctLocals vs → ValuesBelow d vs → AllByRecursion (λ j. j < d) (numbers vs)
numbers_below d no_values h k = tt
numbers_below d (value (local i) vs) h k = (k.0, numbers_below d vs h.1 k.1)
numbers_below d (value (meta m ws) vs) h k = absurd h
numbers_below d (value (known l) vs) h k = absurd h
numbers_below d (value (con p xs) vs) h k = absurd h

-- the variable of the occurrence that a variable of the value becomes
abbrev pub renaming : (d : ℕ) → List ℕ → ℕ → ℕ
renaming d is i = argument_or 0 (λ j. j + d) is i

pub renaming_at : (d : ℕ) (is : List ℕ) (i : ℕ) → i < length is → renaming d is i ≡ get_or is (length is - 1 - i) 0
renaming_at d is i h =
    argument_at 0 (λ j. j + d) is i h ∙ unwrap_or-slice_get (reverse is) i 0 ∙ get_or-reverse is i 0 h

pub renaming_past : (d : ℕ) (is : List ℕ) (i : ℕ) → length is ≤ i → renaming d is i ≡ i - length is + d
renaming_past d is i h = argument_past 0 (λ j. j + d) is i h

pub arguments_rename : (d : ℕ) (is : List ℕ) (i : ℕ) → argument_or_local d (map local is) i ≡ local (renaming d is i)
arguments_rename d is i = sym (argument_mapped local 0 (local 0) (λ j. j + d) (λ j. local (j + d)) is (λ j. refl) i)

-- a local goes back to the parameter whose argument it is
other_number : (is : List ℕ) (i k : ℕ) → AllByRecursion (λ j. i ≢ j) is → k < length is → i ≡ get_or is k 0 → ⊥
other_number [] i k h below e = absurd (let no : ⊥ = omega arith in no)
other_number (x ∷ is) i zero h below e = h.0 e
other_number (x ∷ is) i (suc k) h below e = other_number is i k h.1 (omega arith) e

pub told : (x i n r : ℕ) → x ≡ i → (if x == i then n else r) ≡ n
told x i n r e = grind (arith, nat_tests)

pub not_told : (x i n r : ℕ) → (x ≡ i → ⊥) → (if x == i then n else r) ≡ r
not_told x i n r h = grind (arith, nat_tests)

parameter_back : (is : List ℕ) → AreDifferent is → (k : ℕ) → k < length is → parameter_of is (get_or is k 0) ≡ length is - 1 - k
parameter_back [] h k below = absurd (let no : ⊥ = omega arith in no)
parameter_back (x ∷ is) h zero below =
    told x x (length is) (parameter_of is x) refl ∙ (let e : length is ≡ suc (length is) - 1 - 0 = omega arith in e)
parameter_back (x ∷ is) h (suc k) below =
    not_told x (get_or is k 0) (length is) (parameter_of is (get_or is k 0)) (other_number is x k h.0 (omega arith))
    ∙ parameter_back is h.1 k (omega arith) ∙ (let e : length is - 1 - k ≡ suc (length is) - 1 - suc k = omega arith in e)

all_below : (d : ℕ) (is : List ℕ) → AllByRecursion (λ j. j < d) is → (i : ℕ) → i < length is → get_or is i 0 < d
all_below d [] h i k = absurd (let no : ⊥ = omega arith in no)
all_below d (x ∷ is) h zero k = h.0
all_below d (x ∷ is) h (suc i) k = all_below d is h.1 i (omega arith)

pub variable_at : (is : List ℕ) (d i : ℕ) → i < d → variable_of is d i ≡ parameter_of is i
variable_at is d i h = grind (arith, nat_tests)

pub variable_past : (is : List ℕ) (d i : ℕ) → d ≤ i → variable_of is d i ≡ i - d + length is
variable_past is d i h = grind (arith, nat_tests)

pub variable_back : (is : List ℕ) (d : ℕ) → AreDifferent is → AllByRecursion (λ j. j < d) is → (i : ℕ) → variable_of is d (renaming d is i) ≡ i
variable_back is d different below i = at (cases_lt i (length is))
  where
    at : (i < length is) ⊎ (length is ≤ i) → variable_of is d (renaming d is i) ≡ i
    at (inl h) =
        ap (variable_of is d) (renaming_at d is i h)
        ∙ variable_at is d (get_or is (length is - 1 - i) 0) (all_below d is below (length is - 1 - i) (omega arith))
        ∙ parameter_back is different (length is - 1 - i) (omega arith)
        ∙ (let e : length is - 1 - (length is - 1 - i) ≡ i = omega arith in e)
    at (inr h) =
        ap (variable_of is d) (renaming_past d is i h) ∙ variable_past is d (i - length is + d) (omega arith)
        ∙ (let e : i - length is + d - d + length is ≡ i = omega arith in e)

-- renamed forth and back, a value is the same
pub lowered_filled : (is : List ℕ) (d : ℕ) (v : SchemeTree) → AreDifferent is → AllByRecursion (λ j. j < d) is →
    lowered is d (filled (argument_or_local d (map local is)) v) ≡ v
lowered_filled is d v different below =
    filled_filled (argument_or_local d (map local is)) (λ i. local (variable_of is d i)) v
    ∙ ap (λ f. filled f v) each ∙ filled_local v
  where
    each : ◌≡◌ {A = ℕ → SchemeTree} (λ i. filled (λ j. local (variable_of is d j)) (argument_or_local d (map local is) i)) local
    each = λ k i. (ap (filled (λ j. local (variable_of is d j))) (arguments_rename d is i) ∙ ap local (variable_back is d different below i)) k
