-- The parameters that a meet or a prune keeps, and the value that the new metavariable has.
use Rattle.std.proofs.Common.{◌≡◌, ◌⊎◌, ℕ, zero, suc, ◌+◌, ◌-◌, ◌<◌, ◌≤◌, Bool, true, false, ◌==◌, ◌||◌, nat_lt, if◌then◌else◌, List, [], ◌∷◌, length, map, Some, slice_get, get_or, inl, inr, refl, ap, sym, ◌∙◌, subst, arith}
use Rattle.std.proofs.lemmas.Bool.{cases_lt}
use Rattle.std.proofs.lemmas.Bool.Decides.{nat_tests}
use Rattle.binding_terms.specs.Numbered.{AnyByRecursion}
use Rattle.scheme_terms.specs.SchemeTree.{SchemeTree, meta, known, local, con, Values, no_values, value, values, listed, filled, AreDistinctLocals, IsApart}
use Rattle.scheme_terms.specs.Substituting.{argument_or_local, parameters}
use Rattle.scheme_terms.specs.Demands.{numbers, parameter_of, variable_of, lowered}
use Rattle.scheme_terms.proofs.Lowering.{renaming, renaming_at, renaming_past, arguments_rename, variable_at, variable_past}
use Rattle.scheme_terms.proofs.SchemeSubstitutions.{filled_filled}
use Rattle.pattern_unify.specs.Patterns.{IsAmong, is_one_local, marked, common_arguments, is_among, kept_arguments}
use Rattle.pattern_unify.proofs.EachLocals.{EachLocal, each_so, renamed_same}

-- the numbers of the parameters that are marked
abbrev pub kept_numbers : List Bool → ℕ → List ℕ
kept_numbers keeps p = numbers (values (marked keeps (parameters p)))

-- the parameter is one of those that are marked, which are counted from the outermost
pub marked_among : (keeps : List Bool) (p i k : ℕ) → i + suc k ≡ p → slice_get keeps k ≡ Some true → AnyByRecursion (λ j. j ≡ i) (kept_numbers keeps p)
marked_among [] p i k e h = absurd (let no : ⊥ = cc in no)
marked_among (b ∷ bs) zero i k e h = absurd (let no : ⊥ = omega (arith, e) in no)
marked_among (b ∷ bs) (suc n) i zero e h =
    let yes : b ≡ true = cc in
    subst (λ c. AnyByRecursion (λ j. j ≡ i) (kept_numbers (c ∷ bs) (suc n))) (sym yes) (inl (let same : n ≡ i = omega (arith, e) in same))
marked_among (true ∷ bs) (suc n) i (suc k) e h = inr (marked_among bs n i k (omega (arith, e)) h)
marked_among (false ∷ bs) (suc n) i (suc k) e h = marked_among bs n i k (omega (arith, e)) h

told : (x i n r : ℕ) → x ≡ i → (if x == i then n else r) ≡ n
told x i n r e = grind (arith, nat_tests)

not_told : (x i n r : ℕ) → (x ≡ i → ⊥) → (if x == i then n else r) ≡ r
not_told x i n r h = grind (arith, nat_tests)

-- the number comes back from its place
abbrev pub ComesBack : List ℕ → ℕ → Type 0
ComesBack is i = (parameter_of is i < length is) × (get_or is (length is - 1 - parameter_of is i) 0 ≡ i)

back_here : (a : ℕ) (is : List ℕ) (i : ℕ) → a ≡ i → ComesBack (a ∷ is) i
back_here a is i e =
    let last : parameter_of (a ∷ is) i ≡ length is = told a i (length is) (parameter_of is i) e in (
      subst (λ n. n < suc (length is)) (sym last) (omega arith),
      ap (λ n. get_or (a ∷ is) n 0) (let z : suc (length is) - 1 - parameter_of (a ∷ is) i ≡ 0 = omega (arith, last) in z) ∙ e,
    )

back_there : (a : ℕ) (is : List ℕ) (i : ℕ) → (a ≡ i → ⊥) → ComesBack is i → ComesBack (a ∷ is) i
back_there a is i other rest =
    let same : parameter_of (a ∷ is) i ≡ parameter_of is i = not_told a i (length is) (parameter_of is i) other in
    let within : parameter_of is i < length is = rest.0 in (
      subst (λ n. n < suc (length is)) (sym same) (omega (arith, within)),
      ap (λ n. get_or (a ∷ is) n 0)
          (let z : suc (length is) - 1 - parameter_of (a ∷ is) i ≡ suc (length is - 1 - parameter_of is i) = omega (arith, same, within) in z) ∙ rest.1,
    )

same_or_other : (a i : ℕ) → (a ≡ i) ⊎ (a ≡ i → ⊥)
same_or_other a i = at (cases_lt a i) (cases_lt i a)
  where
    at : (a < i) ⊎ (i ≤ a) → (i < a) ⊎ (a ≤ i) → (a ≡ i) ⊎ (a ≡ i → ⊥)
    at (inl less) more = inr (λ e. omega (arith, less, e))
    at (inr up) (inl more) = inr (λ e. omega (arith, more, e))
    at (inr up) (inr down) = inl (omega (arith, up, down))

comes_back : (a : ℕ) (is : List ℕ) (i : ℕ) → (a ≡ i) ⊎ (a ≡ i → ⊥) → (a ≡ i) ⊎ ComesBack is i → ComesBack (a ∷ is) i
comes_back a is i (inl e) rest = back_here a is i e
comes_back a is i (inr other) (inl e) = back_here a is i e
comes_back a is i (inr other) (inr rest) = back_there a is i other rest

pub among_back : (is : List ℕ) (i : ℕ) → AnyByRecursion (λ j. j ≡ i) is → ComesBack is i
among_back [] i h = absurd h
among_back (a ∷ is) i (inl e) = back_here a is i e
among_back (a ∷ is) i (inr h) = comes_back a is i (same_or_other a i) (inr (among_back is i h))

-- a local that is no other than a listed one goes to its place and back
pub goes_back : (is : List ℕ) (d i : ℕ) → (i < d → AnyByRecursion (λ j. j ≡ i) is) → renaming d is (variable_of is d i) ≡ i
goes_back is d i listed = at (cases_lt i d)
  where
    at : (i < d) ⊎ (d ≤ i) → renaming d is (variable_of is d i) ≡ i
    at (inl near) =
        let back = among_back is i (listed near) in
        ap (renaming d is) (variable_at is d i near) ∙ renaming_at d is (parameter_of is i) back.0 ∙ back.1
    at (inr far) =
        ap (renaming d is) (variable_past is d i far) ∙ renaming_past d is (i - d + length is) (omega arith)
        ∙ (let e : i - d + length is - length is + d ≡ i = omega (arith, far) in e)

-- a value whose free parameters are all listed is the one that is renamed back, over these
pub restored : (is : List ℕ) (d : ℕ) (v : SchemeTree) → EachLocal (λ i. i < d → AnyByRecursion (λ j. j ≡ i) is) 0 v →
    filled (argument_or_local d (map local is)) (lowered is d v) ≡ v
restored is d v h =
    filled_filled (λ i. local (variable_of is d i)) (argument_or_local d (map local is)) v
    ∙ ap (λ f. filled f v) each
    ∙ renamed_same (λ i. renaming d is (variable_of is d i)) v
    (each_so (λ i. i < d → AnyByRecursion (λ j. j ≡ i) is) (λ i. renaming d is (variable_of is d i) ≡ i) (λ i listed. goes_back is d i listed) 0 v h)
  where
    each : ◌≡◌ {A = ℕ → SchemeTree} (λ i. filled (argument_or_local d (map local is)) (local (variable_of is d i))) (λ i. local (renaming d is (variable_of is d i)))
    each = λ k i. arguments_rename d is (variable_of is d i) k

-- the marked parameters are distinct locals

marked_apart : (keeps : List Bool) (n i : ℕ) → n ≤ i → IsApart i (values (marked keeps (parameters n)))
marked_apart [] n i h = tt
marked_apart (b ∷ bs) zero i h = tt
marked_apart (true ∷ bs) (suc n) i h =
    ((λ e. let same : n ≡ i = local_number n i e in omega (arith, same, h)), marked_apart bs n i (omega (arith, h)))
  where
    local_number : (n i : ℕ) → local n ≡ local i → n ≡ i
    local_number n i e = cc
marked_apart (false ∷ bs) (suc n) i h = marked_apart bs n i (omega (arith, h))

pub marked_distinct : (keeps : List Bool) (n : ℕ) → AreDistinctLocals (values (marked keeps (parameters n)))
marked_distinct [] n = tt
marked_distinct (b ∷ bs) zero = tt
marked_distinct (true ∷ bs) (suc n) = (marked_apart bs n n (omega arith), marked_distinct bs n)
marked_distinct (false ∷ bs) (suc n) = marked_distinct bs n

-- which arguments are marked

pub common_told : (vs ws : Values) → AreDistinctLocals vs → AreDistinctLocals ws → (k : ℕ) → k < length (numbers vs) → length (numbers vs) ≡ length (numbers ws) →
    get_or (numbers vs) k 0 ≡ get_or (numbers ws) k 0 → slice_get (common_arguments vs ws) k ≡ Some true
common_told no_values ws h g k below long e = absurd (let no : ⊥ = omega (arith, below) in no)
common_told (value (local i) vs) no_values h g k below long e = absurd (let no : ⊥ = omega (arith, long) in no)
common_told (value (local i) vs) (value (local j) ws) h g zero below long e = ap Some (let same : (i == j) ≡ true = grind (arith, nat_tests) in same)
common_told (value (local i) vs) (value (local j) ws) h g (suc k) below long e = common_told vs ws h.1 g.1 k (omega (arith, below)) (omega (arith, long)) e
common_told (value (local i) vs) (value (meta m us) ws) h g k below long e = absurd g
common_told (value (local i) vs) (value (known l) ws) h g k below long e = absurd g
common_told (value (local i) vs) (value (con p xs) ws) h g k below long e = absurd g
common_told (value (meta m us) vs) ws h g k below long e = absurd h
common_told (value (known l) vs) ws h g k below long e = absurd h
common_told (value (con p xs) vs) ws h g k below long e = absurd h

or_second : (a b : Bool) → b ≡ true → (a || b) ≡ true
or_second true b e = refl
or_second false b e = e

or_first : (a b : Bool) → a ≡ true → (a || b) ≡ true
or_first true b e = refl
or_first false b e = cc

is_that_local : (s : SchemeTree) (i : ℕ) → s ≡ local i → is_one_local s (local i) ≡ true
is_that_local s i e =
    ap (λ t. is_one_local t (local i)) e ∙ (let same : (i == i) ≡ true = grind (arith, nat_tests) in same)

among_told : (i : ℕ) (vs : Values) → IsAmong i vs → is_among i vs ≡ true
among_told i no_values h = absurd h
among_told i (value s vs) (inl e) = or_first (is_one_local s (local i)) (is_among i vs) (is_that_local s i e)
among_told i (value s vs) (inr h) = or_second (is_one_local s (local i)) (is_among i vs) (among_told i vs h)

pub kept_told : (vs : Values) (b : ℕ) (ws : Values) → AreDistinctLocals ws → (k : ℕ) → k < length (numbers ws) →
    (get_or (numbers ws) k 0 < b) ⊎ IsAmong (get_or (numbers ws) k 0 - b) vs → slice_get (kept_arguments vs b ws) k ≡ Some true
kept_told vs b no_values h k below among = absurd (let no : ⊥ = omega (arith, below) in no)
kept_told vs b (value (local i) ws) h zero below (inl near) = ap Some (or_first (nat_lt i b) (is_among (i - b) vs) (let yes : nat_lt i b ≡ true = grind (arith, nat_tests) in yes))
kept_told vs b (value (local i) ws) h zero below (inr among) = ap Some (or_second (nat_lt i b) (is_among (i - b) vs) (among_told (i - b) vs among))
kept_told vs b (value (local i) ws) h (suc k) below among = kept_told vs b ws h.1 k (omega (arith, below)) among
kept_told vs b (value (meta m us) ws) h k below among = absurd h
kept_told vs b (value (known l) ws) h k below among = absurd h
kept_told vs b (value (con p xs) ws) h k below among = absurd h
