-- The measure falls at each turn.
use Rattle.std.proofs.Common.{◌≡◌, ◌⊎◌, ◌+◌, ◌<◌, ◌≤◌, ℕ, zero, suc, Bool, true, false, if◌then◌else◌, ◌==◌, IsTrue, List, [], ◌∷◌, ◌++◌, length, map, MatchOption, slice_get, unwrap_or, inl, inr, refl, ap, sym, ◌∙◌, subst, append-nil, le_refl, arith}
use Rattle.std.specs.List.{AllByRecursion}
use Rattle.std.proofs.lemmas.Bool.{cases_lt, cases_order}
use Rattle.std.proofs.lemmas.Bool.Decides.{nat_tests}
use Rattle.binding_terms.specs.Numbered.{AnyByRecursion}
use Rattle.binding_terms.proofs.Lists.{all_middle, any_back, any_front, any_split}
use Rattle.binding_terms.specs.Signature.{Signature}
use Rattle.scheme_terms.specs.SchemeTree.{SchemeTree, meta, known, local, con, Values, no_values, value, Parts, no_parts, part, OccursIn, OccursInParts, KnownIn, KnownInValues, KnownInParts}
use Rattle.scheme_terms.specs.Forms.{Names, KnownVariable}
use Rattle.scheme_terms.specs.Context.{variables}
use Rattle.scheme_terms.specs.SchemeScope.{IsScheme}
use Rattle.scheme_terms.specs.Substituting.{known_for}
use Rattle.pattern_unify.specs.Equations.{SchemeEquation, AreSides}
use Rattle.pattern_unify.specs.Patterns.{common_arguments, over_parameters}
use Rattle.pattern_unify.specs.Pruning.{FirstPrunable, FirstPrunableInParts}
use Rattle.pattern_unify.specs.State.{State, names_of, after_step, with_equations, knowns_but, joins_to, becomes, becomes_new, applied_equation, applied_known}
use Rattle.pattern_unify.specs.Moves.{Row, delete, decompose, clash, join, meet, prune, bind, Direction, left_first, right_first, named_first, named_second, CanMeet, CanBind}
use Rattle.pattern_unify.specs.Move.{Next, goes_on, has_none, Move, deletes, decomposes, clashes, joins, meets, prunes, binds, argument_equations, entry_equations, entry_args, production_binders, production_slots}
use Rattle.pattern_unify.specs.Run.{IsFirstMove}
use Rattle.pattern_unify.specs.Measure.{known_stands, known_stands_in_values, known_stands_in_parts, any_scheme, sides, entry_schemes, schemes_of, metas_weight, knowns_weight, scheme_size, parts_size, equations_size, Measure, measure, IsBelow, Number, number_of_metas, number_of_knowns, size_of_equations, lessened_by, FallsBy}
use Rattle.pattern_unify.specs.Laws.{TurnFalls, TurnFallsBy}
use Rattle.pattern_unify.proofs.Standing.{or_cases, or_first, or_second}
use Rattle.pattern_unify.proofs.Falling.{weight_less, bind_falls, new_falls, side_stands, first_side, second_side}
use Rattle.pattern_unify.proofs.Fewer.{pruned_fewer, met_fewer, meta_typed, meta_declared}
use Rattle.pattern_unify.proofs.JoinFalling.{any_replaced, occurs_decomposed, known_decomposed, size_append, parts_less, size_positive, any_in_entries, joined_metas, KnownStandsIn, known_sides, known_entries, IsKeptKnown, known_value, no_known_itself, sides_second}

-- the tests tell where a known variable stands

same_number : (n m : ℕ) → IsTrue (n == m) → n ≡ m
same_number n m h = grind (arith, nat_tests)

number_same : (n m : ℕ) → n ≡ m → IsTrue (n == m)
number_same n m h = grind (arith, nat_tests)

mutual
  stands_known : (m : ℕ) (s : SchemeTree) → IsTrue (known_stands m s) → KnownIn m s
  stands_known m (meta n vs) h = stands_known_values m vs h
  stands_known m (known k) h = same_number k m h
  stands_known m (local i) h = let e : false ≡ true = h in cc
  stands_known m (con p xs) h = stands_known_parts m xs h

  stands_known_values : (m : ℕ) (vs : Values) → IsTrue (known_stands_in_values m vs) → KnownInValues m vs
  stands_known_values m no_values h = let e : false ≡ true = h in cc
  stands_known_values m (value s vs) h = elim (or_cases (known_stands m s) (known_stands_in_values m vs) h) [ inl k ↦ inl (stands_known m s k) | inr k ↦ inr (stands_known_values m vs k) ]

  stands_known_parts : (m : ℕ) (xs : Parts) → IsTrue (known_stands_in_parts m xs) → KnownInParts m xs
  stands_known_parts m no_parts h = let e : false ≡ true = h in cc
  stands_known_parts m (part n s xs) h = elim (or_cases (known_stands m s) (known_stands_in_parts m xs) h) [ inl k ↦ inl (stands_known m s k) | inr k ↦ inr (stands_known_parts m xs k) ]

mutual
  known_stand : (m : ℕ) (s : SchemeTree) → KnownIn m s → IsTrue (known_stands m s)
  known_stand m (meta n vs) h = known_stand_values m vs h
  known_stand m (known k) h = number_same k m h
  known_stand m (local i) h = absurd h
  known_stand m (con p xs) h = known_stand_parts m xs h

  known_stand_values : (m : ℕ) (vs : Values) → KnownInValues m vs → IsTrue (known_stands_in_values m vs)
  known_stand_values m no_values h = absurd h
  known_stand_values m (value s vs) (inl h) = or_first (known_stands m s) (known_stands_in_values m vs) (known_stand m s h)
  known_stand_values m (value s vs) (inr h) = or_second (known_stands m s) (known_stands_in_values m vs) (known_stand_values m vs h)

  known_stand_parts : (m : ℕ) (xs : Parts) → KnownInParts m xs → IsTrue (known_stands_in_parts m xs)
  known_stand_parts m no_parts h = absurd h
  known_stand_parts m (part n s xs) (inl h) = or_first (known_stands m s) (known_stands_in_parts m xs) (known_stand m s h)
  known_stand_parts m (part n s xs) (inr h) = or_second (known_stands m s) (known_stands_in_parts m xs) (known_stand_parts m xs h)

known_tested : (m : ℕ) (ss : List SchemeTree) → IsTrue (any_scheme (known_stands m) ss) → KnownStandsIn m ss
known_tested m [] h = let e : false ≡ true = h in cc
known_tested m (s ∷ ss) h = elim (or_cases (known_stands m s) (any_scheme (known_stands m) ss) h) [ inl k ↦ inl (stands_known m s k) | inr k ↦ inr (known_tested m ss k) ]

tested_known : (m : ℕ) (ss : List SchemeTree) → KnownStandsIn m ss → IsTrue (any_scheme (known_stands m) ss)
tested_known m [] h = absurd h
tested_known m (s ∷ ss) (inl h) = or_first (known_stands m s) (any_scheme (known_stands m) ss) (known_stand m s h)
tested_known m (s ∷ ss) (inr h) = or_second (known_stands m s) (any_scheme (known_stands m) ss) (tested_known m ss h)

-- how many known variables stand somewhere

less_term : (a b : Bool) (k : ℕ) → (IsTrue a → IsTrue b) → (if a then k else 0) ≤ (if b then k else 0)
less_term true true k h = le_refl k
less_term true false k h = let e : false ≡ true = h refl in cc
less_term false true k h = omega arith
less_term false false k h = omega arith

gone_term : (a b : Bool) → (IsTrue a → ⊥) → IsTrue b → (if a then 1 else 0) + 1 ≤ (if b then 1 else 0)
gone_term true b h t = absurd (h refl)
gone_term false true h t = omega arith
gone_term false false h t = let e : false ≡ true = t in cc

abbrev KnownStill : (tt ss : List SchemeTree) → (n : ℕ) → List KnownVariable → Type 0
KnownStill tt ss n decls = (m : ℕ) → n ≤ m → m < n + length decls → KnownStandsIn m tt → KnownStandsIn m ss

still_after : (tt ss : List SchemeTree) (n : ℕ) (decl : KnownVariable) (decls : List KnownVariable) → KnownStill tt ss n (decl ∷ decls) → KnownStill tt ss (suc n) decls
still_after tt ss n decl decls still m from below stands = still m (omega (arith, from)) (omega (arith, below)) stands

still_here : (tt ss : List SchemeTree) (n : ℕ) (decl : KnownVariable) (decls : List KnownVariable) → KnownStill tt ss n (decl ∷ decls) →
    IsTrue (any_scheme (known_stands n) tt) → IsTrue (any_scheme (known_stands n) ss)
still_here tt ss n decl decls still h = tested_known n ss (still n (le_refl n) (omega arith) (known_tested n tt h))

knowns_less : (tt ss : List SchemeTree) (n : ℕ) (decls : List KnownVariable) → KnownStill tt ss n decls → knowns_weight tt n decls ≤ knowns_weight ss n decls
knowns_less tt ss n [] still = omega arith
knowns_less tt ss n (decl ∷ decls) still =
    let here = less_term (any_scheme (known_stands n) tt) (any_scheme (known_stands n) ss) 1 (still_here tt ss n decl decls still) in
    let rest = knowns_less tt ss (suc n) decls (still_after tt ss n decl decls still) in
    omega (arith, here, rest)

knowns_gone : (tt ss : List SchemeTree) (n : ℕ) (decls : List KnownVariable) (k m : ℕ) → KnownStill tt ss n decls → k < length decls → m ≡ n + k →
    (KnownStandsIn m tt → ⊥) → KnownStandsIn m ss → knowns_weight tt n decls + 1 ≤ knowns_weight ss n decls
knowns_gone tt ss n [] k m still below place gone stood = absurd (omega (arith, below))
knowns_gone tt ss n (d ∷ decls) zero m still below place gone stood =
    let same : m ≡ n = place ∙ (let e : n + 0 ≡ n = omega arith in e) in
    let here = gone_term (any_scheme (known_stands n) tt) (any_scheme (known_stands n) ss)
    (λ h. gone (subst (λ x. KnownStandsIn x tt) (sym same) (known_tested n tt h))) (tested_known n ss (subst (λ x. KnownStandsIn x ss) same stood)) in
    let rest = knowns_less tt ss (suc n) decls (still_after tt ss n d decls still) in
    omega (arith, here, rest)
knowns_gone tt ss n (d ∷ decls) (suc k) m still below place gone stood =
    let here = less_term (any_scheme (known_stands n) tt) (any_scheme (known_stands n) ss) 1 (still_here tt ss n d decls still) in
    let rest = knowns_gone tt ss (suc n) decls k m (still_after tt ss n d decls still) (omega (arith, below)) (let e : m ≡ suc n + k = omega (arith, place) in e) gone stood in
    omega (arith, here, rest)

knowns_mapped : (tt : List SchemeTree) (n : ℕ) (f : KnownVariable → KnownVariable) (decls : List KnownVariable) → knowns_weight tt n (map f decls) ≡ knowns_weight tt n decls
knowns_mapped tt n f [] = refl
knowns_mapped tt n f (decl ∷ decls) = ap (λ k. (if any_scheme (known_stands n) tt then 1 else 0) + k) (knowns_mapped tt (suc n) f decls)

-- the order of measures

abbrev triple : ℕ → ℕ → ℕ → Measure
triple a b c = record { metas = a; knowns = b; size = c }

less_or_same : (a b : ℕ) → a ≤ b → (a < b) ⊎ (a ≡ b)
less_or_same a b h = elim (cases_order a b) [
  | inl e ↦ inr e
  | inr o ↦ elim o [ inl l ↦ inl l | inr g ↦ absurd (omega (arith, g, h)) ]
]

-- what falls by a number falls
falls_below : (number : Number) (a b : Measure) → FallsBy number a b → IsBelow a b
falls_below number_of_metas a b falls = inl falls
falls_below number_of_knowns a b falls = elim (less_or_same a.metas b.metas falls.0) [ inl l ↦ inl l | inr e ↦ inr (e, inl falls.1) ]
falls_below size_of_equations a b falls = elim (less_or_same a.metas b.metas falls.0) [
  | inl l ↦ inl l
  | inr e ↦ inr (e, elim (less_or_same a.knowns b.knowns falls.1) [ inl l ↦ inl l | inr f ↦ inr (f, falls.2) ])
]

-- new equations in the place of one, which hold nothing new and are smaller

replaced_falls : (st : State) (before : List SchemeEquation) (e : SchemeEquation) (rest new : List SchemeEquation) → st.equations ≡ before ++ e ∷ rest →
    ((x : ℕ) → AnyByRecursion (OccursIn x) (sides new) → OccursIn x e.left ⊎ OccursIn x e.right) →
    ((x : ℕ) → AnyByRecursion (KnownIn x) (sides new) → KnownIn x e.left ⊎ KnownIn x e.right) →
    equations_size new < scheme_size e.left + scheme_size e.right →
    FallsBy size_of_equations (measure (with_equations (before ++ (new ++ rest)) st)) (measure st)
replaced_falls st before e rest new at metas knowns size = (
  weight_less (schemes_of (with_equations (before ++ (new ++ rest)) st)) (schemes_of st) 0 (names_of st).metas
      (λ m from below h. any_replaced (OccursIn m) st before e rest new at (λ k. inl (metas m k)) h),
  knowns_less (schemes_of (with_equations (before ++ (new ++ rest)) st)) (schemes_of st) 0 (names_of st).knowns
      (λ m from below h. any_replaced (KnownIn m) st before e rest new at (λ k. inl (knowns m k)) h),
  (let all : equations_size st.equations ≡ equations_size (before ++ e ∷ rest) = ap equations_size at in
      let one = size_append before (e ∷ rest) in
      let two = size_append before (new ++ rest) in
      let three = size_append new rest in
      omega (arith, all, one, two, three, size)),
)

-- a join

declared_known : (sig : Signature) (names : Names) (ls : List ℕ) (c k : ℕ) → IsScheme sig names ls c (known k) → k < length names.knowns
declared_known sig names ls c k typed = at names.knowns k typed
  where
    at : (decls : List KnownVariable) (k : ℕ) → MatchOption (slice_get decls k) ⊥ (λ decl. variables sig decl.entry.prod ≡ c ∷ []) → k < length decls
    at [] k h = absurd h
    at (d ∷ decls) zero h = omega arith
    at (d ∷ decls) (suc k) h = let rest = at decls k h in omega (arith, rest)

abbrev middle : State → List SchemeEquation → List SchemeEquation → ℕ → ℕ → State
middle st before rest low high = with_equations (before ++ (entry_equations (entry_args (names_of st) low) (entry_args (names_of st) high) ++ rest)) st

abbrev joined : State → List SchemeEquation → List SchemeEquation → ℕ → ℕ → State
joined st before rest low high = after_step (joins_to high low (names_of st)) (middle st before rest low high)

known_middle : (st : State) (before : List SchemeEquation) (e : SchemeEquation) (rest : List SchemeEquation) (low high x : ℕ) → st.equations ≡ before ++ e ∷ rest →
    KnownStandsIn x (schemes_of (middle st before rest low high)) → KnownStandsIn x (schemes_of st)
known_middle st before e rest low high x at h =
    any_replaced (KnownIn x) st before e rest (entry_equations (entry_args (names_of st) low) (entry_args (names_of st) high)) at
    (λ k. inr (any_in_entries (KnownIn x) (names_of st) low high k)) h

none_past : (ks : List ℕ) (y d : ℕ) → length ks ≤ y → unwrap_or (slice_get ks y) d ≡ d
none_past [] y d more = refl
none_past (k ∷ ks) zero d more = absurd (omega (arith, more))
none_past (k ∷ ks) (suc y) d more = none_past ks y d (omega (arith, more))

length_but : (gone kept n : ℕ) (decls : List KnownVariable) → length (knowns_but gone kept n decls) ≡ length decls
length_but gone kept n [] = refl
length_but gone kept n (decl ∷ decls) = ap suc (length_but gone kept (suc n) decls)

-- what a known variable becomes that stood before a join
told_joined : (st : State) (low high x y : ℕ) → low < high → high < length (names_of st).knowns → KnownStandsIn low (schemes_of st) → KnownStandsIn y (schemes_of st) →
    known_for (joins_to high low (names_of st)).knowns y ≡ x → KnownStandsIn x (schemes_of st) × (x ≡ high → ⊥)
told_joined st low high x y order below stood stands became = elim (cases_lt y (length (names_of st).knowns)) [
  | inl within ↦ inside (subst (λ z. IsKeptKnown z y high low) became
      (subst (λ z. IsKeptKnown (unwrap_or (slice_get (knowns_but high low 0 (names_of st).knowns) y) z) z high low) (let e : 0 + y ≡ y = omega arith in e)
      (known_value high low 0 y (names_of st).knowns within)))
  | inr beyond ↦
      let size = length_but high low 0 (names_of st).knowns in
      let same : y ≡ x = sym (none_past (knowns_but high low 0 (names_of st).knowns) y y (omega (arith, size, beyond))) ∙ became in
      (subst (λ z. KnownStandsIn z (schemes_of st)) same stands, λ e. absurd (omega (arith, same, e, beyond, below)))
]
  where
    inside : IsKeptKnown x y high low → KnownStandsIn x (schemes_of st) × (x ≡ high → ⊥)
    inside (inl k) = (subst (λ z. KnownStandsIn z (schemes_of st)) (sym k.0) stands, λ e. k.1 (sym k.0 ∙ e))
    inside (inr k) = (subst (λ z. KnownStandsIn z (schemes_of st)) (sym k.1) stood, λ e. absurd (omega (arith, k.1, e, order)))

-- a known variable that stands after a join stood before it, and is not the one that is gone
known_joined : (st : State) (before : List SchemeEquation) (e : SchemeEquation) (rest : List SchemeEquation) (low high x : ℕ) → st.equations ≡ before ++ e ∷ rest →
    low < high → high < length (names_of st).knowns → KnownStandsIn low (schemes_of st) →
    KnownStandsIn x (schemes_of (joined st before rest low high)) → KnownStandsIn x (schemes_of st) × (x ≡ high → ⊥)
known_joined st before e rest low high x at order below stood h =
    elim (any_split (KnownIn x)
    (sides (map (applied_equation (joins_to high low (names_of st)).metas (joins_to high low (names_of st)).knowns) (middle st before rest low high).equations))
    (entry_schemes (map (applied_known (joins_to high low (names_of st)).metas (joins_to high low (names_of st)).knowns) (names_of st).knowns)) h) [
      | inl k ↦
          let o = known_sides (joins_to high low (names_of st)).metas (joins_to high low (names_of st)).knowns x (λ y. no_known_itself x 0 y (names_of st).metas)
          (middle st before rest low high).equations k in
          told_joined st low high x o.0 order below stood (known_middle st before e rest low high o.0 at
          (any_front (KnownIn o.0) (sides (middle st before rest low high).equations) (entry_schemes (names_of st).knowns) o.1)) o.2
      | inr k ↦
          let o = known_entries (joins_to high low (names_of st)).metas (joins_to high low (names_of st)).knowns x (λ y. no_known_itself x 0 y (names_of st).metas)
          (names_of st).knowns k in
          told_joined st low high x o.0 order below stood (any_back (KnownIn o.0) (sides st.equations) (entry_schemes (names_of st).knowns) o.1) o.2
    ]

known_side : (x : ℕ) (st : State) (before : List SchemeEquation) (e : SchemeEquation) (rest : List SchemeEquation) → st.equations ≡ before ++ e ∷ rest →
    KnownIn x e.left ⊎ KnownIn x e.right → KnownStandsIn x (schemes_of st)
known_side x st before e rest at h =
    any_front (KnownIn x) (sides st.equations) (entry_schemes (names_of st).knowns)
    (subst (λ es. KnownStandsIn x (sides es)) (sym at) (sides_second (KnownIn x) before (e ∷ rest) (elim h [ inl l ↦ inl l | inr r ↦ inr (inl r) ])))

join_falls : (st : State) (before : List SchemeEquation) (e : SchemeEquation) (rest : List SchemeEquation) (low high : ℕ) → st.equations ≡ before ++ e ∷ rest → low < high →
    high < length (names_of st).knowns → KnownIn low e.left ⊎ KnownIn low e.right → KnownIn high e.left ⊎ KnownIn high e.right →
    FallsBy number_of_knowns (measure (joined st before rest low high)) (measure st)
join_falls st before e rest low high at order below has_low has_high = (
  subst (λ ds. metas_weight (schemes_of (joined st before rest low high)) 0 ds ≤ metas_weight (schemes_of st) 0 (names_of st).metas) (sym (append-nil (names_of st).metas))
      (weight_less (schemes_of (joined st before rest low high)) (schemes_of st) 0 (names_of st).metas
      (λ m from within h. any_replaced (OccursIn m) st before e rest (entry_equations (entry_args (names_of st) low) (entry_args (names_of st) high)) at
      (λ k. inr (any_in_entries (OccursIn m) (names_of st) low high k)) (joined_metas (middle st before rest low high) high low m h))),
  let same = knowns_mapped (schemes_of (joined st before rest low high)) 0
      (applied_known (joins_to high low (names_of st)).metas (joins_to high low (names_of st)).knowns) (names_of st).knowns in
      let less = knowns_gone (schemes_of (joined st before rest low high)) (schemes_of st) 0 (names_of st).knowns high high
      (λ m from within h. (known_joined st before e rest low high m at order below (known_side low st before e rest at has_low) h).0)
      below (omega arith)
      (λ h. (known_joined st before e rest low high high at order below (known_side low st before e rest at has_low) h).1 refl)
      (known_side high st before e rest at has_high) in
      omega (arith, same, less),
)

-- the sides of a turn's equation are schemes

pub first_typed : (sig : Signature) (names : Names) (direction : Direction) (e : SchemeEquation) (typed : AreSides sig names e) → IsScheme sig names e.locals typed.0 (named_first direction e)
first_typed sig names left_first e typed = typed.1
first_typed sig names right_first e typed = typed.2

pub second_typed : (sig : Signature) (names : Names) (direction : Direction) (e : SchemeEquation) (typed : AreSides sig names e) → IsScheme sig names e.locals typed.0 (named_second direction e)
second_typed sig names left_first e typed = typed.2
second_typed sig names right_first e typed = typed.1

sides_same : (direction : Direction) (e : SchemeEquation) → named_first direction e ≡ named_second direction e → e.left ≡ e.right
sides_same left_first e h = h
sides_same right_first e h = sym h

mutual
  pub first_occurs : (m : ℕ) (vs : Values) (d : ℕ) (s : SchemeTree) (n : ℕ) (keeps : List Bool) → FirstPrunable m vs d s n keeps → OccursIn n s
  first_occurs m vs d (meta k ws) n keeps h = inl h.1
  first_occurs m vs d (known k) n keeps h = absurd h
  first_occurs m vs d (local i) n keeps h = absurd h
  first_occurs m vs d (con p xs) n keeps h = first_occurs_in_parts m vs d xs n keeps h

  first_occurs_in_parts : (m : ℕ) (vs : Values) (d : ℕ) (xs : Parts) (n : ℕ) (keeps : List Bool) → FirstPrunableInParts m vs d xs n keeps → OccursInParts n xs
  first_occurs_in_parts m vs d no_parts n keeps h = absurd h
  first_occurs_in_parts m vs d (part b s xs) n keeps (inl h) = inl (first_occurs m vs (d + b) s n keeps h)
  first_occurs_in_parts m vs d (part b s xs) n keeps (inr h) = inr (first_occurs_in_parts m vs d xs n keeps h.1)

abbrev next_state : State → Next → State
next_state st (goes_on next) = next
next_state st has_none = st

abbrev goes : Next → ℕ
goes (goes_on next) = 1
goes has_none = 0

abbrev falls_to : Row → State → State → Type 0
falls_to row st next = FallsBy (lessened_by row) (measure next) (measure st)

-- the state that a move leads to
led : (row : Row) (st next result : State) → goes_on next ≡ goes_on result → falls_to row st result → falls_to row st next
led row st next result same h = subst (falls_to row st) (sym (ap (next_state st) same)) h

known_left : (x : ℕ) (e : SchemeEquation) → e.left ≡ known x → KnownIn x e.left ⊎ KnownIn x e.right
known_left x e h = inl (subst (KnownIn x) (sym h) refl)

known_right : (x : ℕ) (e : SchemeEquation) → e.right ≡ known x → KnownIn x e.left ⊎ KnownIn x e.right
known_right x e h = inr (subst (KnownIn x) (sym h) refl)

move_falls : (sig : Signature) (st : State) (before : List SchemeEquation) (e : SchemeEquation) (rest : List SchemeEquation) (direction : Direction) (next : State)
    (row : Row) → st.equations ≡ before ++ e ∷ rest → AreSides sig (names_of st) e → IsFirstMove (names_of st) e row direction →
    Move sig st before e rest direction (goes_on next) row → falls_to row st next
move_falls sig st before e rest direction next delete at typed first (deletes a h) =
    let left = size_positive e.left in
    led delete st next (with_equations (before ++ rest) st) h
    (replaced_falls st before e rest [] at (λ x k. absurd k) (λ x k. absurd k) (omega (arith, left)))
move_falls sig st before e rest direction next decompose at typed first (decomposes p xs ys l r h) =
    let less = parts_less e.locals (production_binders sig p) (production_slots sig p) xs ys in
    let one : scheme_size e.left ≡ suc (parts_size xs) = ap scheme_size l in
    let two : scheme_size e.right ≡ suc (parts_size ys) = ap scheme_size r in
    led decompose st next (with_equations (before ++ (argument_equations sig e p xs ys ++ rest)) st) h
    (replaced_falls st before e rest (argument_equations sig e p xs ys) at (λ x. occurs_decomposed sig x e p xs ys l r) (λ x. known_decomposed sig x e p xs ys l r)
    (omega (arith, less, one, two)))
move_falls sig st before e rest direction next clash at typed first (clashes a h) = absurd (omega (arith, ap goes h))
move_falls sig st before e rest direction next join at typed first (joins low high order (inl k) a h) =
    led join st next (joined st before rest low high) h
    (join_falls st before e rest low high at order (declared_known sig (names_of st) e.locals typed.0 high (subst (IsScheme sig (names_of st) e.locals typed.0) k.1 typed.2))
    (known_left low e k.0) (known_right high e k.1))
move_falls sig st before e rest direction next join at typed first (joins low high order (inr k) a h) =
    led join st next (joined st before rest low high) h
    (join_falls st before e rest low high at order (declared_known sig (names_of st) e.locals typed.0 high (subst (IsScheme sig (names_of st) e.locals typed.0) k.0 typed.1))
    (known_right low e k.1) (known_left high e k.0))
move_falls sig st before e rest direction next meet at typed first (meets m vs ws decl l r declared a h) =
    let one : IsScheme sig (names_of st) e.locals typed.0 (meta m vs) = subst (IsScheme sig (names_of st) e.locals typed.0) l (first_typed sig (names_of st) direction e typed) in
    let two : IsScheme sig (names_of st) e.locals typed.0 (meta m ws) = subst (IsScheme sig (names_of st) e.locals typed.0) r (second_typed sig (names_of st) direction e typed) in
    let patterns : CanMeet (meta m vs) (meta m ws) = subst (λ s. CanMeet s (meta m ws)) l (subst (λ t. CanMeet (named_first direction e) t) r a) in
    let differ : vs ≡ ws → ⊥ = λ same. first.no_earlier delete left_first (omega arith) (sides_same direction e (l ∙ (ap (meta m) same ∙ sym r))) in
    led meet st next (after_step (becomes_new m decl (common_arguments vs ws) (names_of st)) st) h
    (new_falls st m decl (common_arguments vs ws) declared
    (side_stands m st before e rest at (first_side m direction e (subst (OccursIn m) (sym l) (inl refl))))
    (met_fewer sig (names_of st) e.locals decl.params vs ws (meta_typed sig (names_of st) e.locals typed.0 m vs decl one declared)
    (meta_typed sig (names_of st) e.locals typed.0 m ws decl two declared) patterns.1 patterns.2 differ))
move_falls sig st before e rest direction next prune at typed first (prunes m n vs keeps decl l a found declared h) =
    led prune st next (after_step (becomes_new n decl keeps (names_of st)) st) h
    (new_falls st n decl keeps declared
    (side_stands n st before e rest at (second_side n direction e (first_occurs m vs 0 (named_second direction e) n keeps found)))
    (pruned_fewer sig (names_of st) e.locals typed.0 m vs 0 (named_second direction e) n keeps decl (second_typed sig (names_of st) direction e typed) found declared))
move_falls sig st before e rest direction next bind at typed first (binds m vs l a h) =
    let one : IsScheme sig (names_of st) e.locals typed.0 (meta m vs) = subst (IsScheme sig (names_of st) e.locals typed.0) l (first_typed sig (names_of st) direction e typed) in
    let declared = meta_declared sig (names_of st) e.locals typed.0 m vs one in
    let pattern : CanBind (meta m vs) (named_second direction e) = subst (λ s. CanBind s (named_second direction e)) l a in
    led bind st next (after_step (becomes m (over_parameters vs (named_second direction e)) (names_of st)) st) h
    (subst (λ ds. metas_weight (schemes_of (after_step (becomes m (over_parameters vs (named_second direction e)) (names_of st)) st)) 0 ds
    < metas_weight (schemes_of st) 0 (names_of st).metas) (sym (append-nil (names_of st).metas))
    (bind_falls st before e rest direction m vs declared.0 at l declared.1 pattern.1))

pub turn_falls_by : TurnFallsBy
turn_falls_by sig names st next fits state turn =
    move_falls sig st turn.before turn.e turn.rest turn.direction next turn.row turn.at
    (all_middle (AreSides sig (names_of st)) turn.before turn.rest turn.e (subst (AllByRecursion (AreSides sig (names_of st))) turn.at state.sides)) turn.first turn.moves

pub turn_falls : TurnFalls
turn_falls sig names st next fits state turn = falls_below (lessened_by turn.row) (measure next) (measure st) (turn_falls_by sig names st next fits state turn)
