-- The measure falls where a bind, a meet or a prune takes a metavariable away.
use Rattle.std.proofs.Common.{◌≡◌, ◌⊎◌, ◌+◌, ◌<◌, ◌≤◌, ℕ, zero, suc, Bool, true, false, if◌then◌else◌, ◌==◌, IsTrue, List, [], ◌∷◌, ◌++◌, length, Option, Some, None, slice_get, unwrap_or, inl, inr, refl, ap, sym, ◌∙◌, subst, le_refl, arith}
use Rattle.std.proofs.lemmas.Bool.Decides.{nat_tests}
use Rattle.scheme_terms.specs.SchemeTree.{SchemeTree, meta, local, Values, values, OccursIn, OccursInValues}
use Rattle.scheme_terms.specs.Substituting.{scheme_for, parameters, params}
use Rattle.scheme_terms.specs.declared.scheme.MetaDecl.{MetaDecl}
use Rattle.pattern_unify.specs.Equations.{SchemeEquation}
use Rattle.pattern_unify.specs.Patterns.{marked, over_parameters, parameter_at}
use Rattle.pattern_unify.specs.State.{State, names_of, after_step, metas_but, becomes, becomes_new, decl_with}
use Rattle.pattern_unify.specs.Moves.{Direction, left_first, right_first, named_first, named_second}
use Rattle.pattern_unify.specs.Measure.{meta_stands, any_scheme, sides, entry_schemes, schemes_of, metas_weight}
use Rattle.pattern_unify.proofs.Standing.{StandsIn, in_first, from_filled, from_step, stands_tested, tested_stands}

-- the weight of metavariables that stand in less

less_term : (a b : Bool) (k : ℕ) → (IsTrue a → IsTrue b) → (if a then k else 0) ≤ (if b then k else 0)
less_term true true k h = le_refl k
less_term true false k h = let e : false ≡ true = h refl in cc
less_term false true k h = omega arith
less_term false false k h = omega arith

gone_term : (a b : Bool) (k : ℕ) → (IsTrue a → ⊥) → IsTrue b → (if a then k else 0) + k ≤ (if b then k else 0)
gone_term true b k h t = absurd (h refl)
gone_term false true k h t = omega arith
gone_term false false k h t = let e : false ≡ true = t in cc

-- what stands in the one list stands in the other, for the numbers of these metavariables
abbrev pub StandsStill : (tt ss : List SchemeTree) → (n : ℕ) → List MetaDecl → Type 0
StandsStill tt ss n decls = (m : ℕ) → n ≤ m → m < n + length decls → StandsIn m tt → StandsIn m ss

still_after : (tt ss : List SchemeTree) (n : ℕ) (decl : MetaDecl) (decls : List MetaDecl) → StandsStill tt ss n (decl ∷ decls) → StandsStill tt ss (suc n) decls
still_after tt ss n decl decls still m from below stands = still m (omega (arith, from)) (omega (arith, below)) stands

still_here : (tt ss : List SchemeTree) (n : ℕ) (decl : MetaDecl) (decls : List MetaDecl) → StandsStill tt ss n (decl ∷ decls) →
    IsTrue (any_scheme (meta_stands n) tt) → IsTrue (any_scheme (meta_stands n) ss)
still_here tt ss n decl decls still h = tested_stands n ss (still n (le_refl n) (omega arith) (stands_tested n tt h))

pub weight_less : (tt ss : List SchemeTree) (n : ℕ) (decls : List MetaDecl) → StandsStill tt ss n decls → metas_weight tt n decls ≤ metas_weight ss n decls
weight_less tt ss n [] still = omega arith
weight_less tt ss n (decl ∷ decls) still =
    let here = less_term (any_scheme (meta_stands n) tt) (any_scheme (meta_stands n) ss) (suc (params decl)) (still_here tt ss n decl decls still) in
    let rest = weight_less tt ss (suc n) decls (still_after tt ss n decl decls still) in
    omega (arith, here, rest)

abbrev count : {A : Type 0} → Option A → ℕ
count None = 0
count (Some x) = 1

abbrev the_decl : MetaDecl → Option MetaDecl → MetaDecl
the_decl decl found = unwrap_or found decl

pub weight_gone : (tt ss : List SchemeTree) (n : ℕ) (decls : List MetaDecl) (k m : ℕ) (decl : MetaDecl) → StandsStill tt ss n decls →
    slice_get decls k ≡ Some decl → m ≡ n + k → (StandsIn m tt → ⊥) → StandsIn m ss → metas_weight tt n decls + suc (params decl) ≤ metas_weight ss n decls
weight_gone tt ss n [] k m decl still at place gone stood = let e : ◌≡◌ {A = ℕ} 0 1 = ap count at in absurd (omega (arith, e))
weight_gone tt ss n (d ∷ decls) zero m decl still at place gone stood =
    let same : m ≡ n = place ∙ (let e : n + 0 ≡ n = omega arith in e) in
    let here = gone_term (any_scheme (meta_stands n) tt) (any_scheme (meta_stands n) ss) (suc (params d))
    (λ h. gone (subst (λ x. StandsIn x tt) (sym same) (stands_tested n tt h))) (tested_stands n ss (subst (λ x. StandsIn x ss) same stood)) in
    let rest = weight_less tt ss (suc n) decls (still_after tt ss n d decls still) in
    let size : params d ≡ params decl = ap params (ap (the_decl d) at) in
    omega (arith, here, rest, size)
weight_gone tt ss n (d ∷ decls) (suc k) m decl still at place gone stood =
    let here = less_term (any_scheme (meta_stands n) tt) (any_scheme (meta_stands n) ss) (suc (params d)) (still_here tt ss n d decls still) in
    let rest = weight_gone tt ss (suc n) decls k m decl (still_after tt ss n d decls still) at (let e : m ≡ suc n + k = omega (arith, place) in e) gone stood in
    omega (arith, here, rest)

any_term : (a : Bool) (k : ℕ) → (if a then k else 0) ≤ k
any_term true k = le_refl k
any_term false k = omega arith

weight_one_more : (tt : List SchemeTree) (n : ℕ) (decls : List MetaDecl) (decl : MetaDecl) →
    metas_weight tt n (decls ++ decl ∷ []) ≤ metas_weight tt n decls + suc (params decl)
weight_one_more tt n [] decl = let here = any_term (any_scheme (meta_stands n) tt) (suc (params decl)) in omega (arith, here)
weight_one_more tt n (d ∷ decls) decl = let rest = weight_one_more tt (suc n) decls decl in omega (arith, rest)

-- the values of a step that changes one metavariable

in_parameters : (x n : ℕ) → OccursInValues x (values (parameters n)) → ⊥
in_parameters x zero h = h
in_parameters x (suc n) (inl h) = h
in_parameters x (suc n) (inr h) = in_parameters x n h

pub in_marked : (x : ℕ) (bs : List Bool) (n : ℕ) → OccursInValues x (values (marked bs (parameters n))) → ⊥
in_marked x [] n h = h
in_marked x (b ∷ bs) zero h = h
in_marked x (true ∷ bs) (suc n) (inl h) = h
in_marked x (true ∷ bs) (suc n) (inr h) = in_marked x bs n h
in_marked x (false ∷ bs) (suc n) h = in_marked x bs n h

-- it is that metavariable for itself, or it stands in the one that is put in
abbrev pub IsKeptOrPut : (x y changed : ℕ) → SchemeTree → Type 0
IsKeptOrPut x y m s = ((y ≡ x) × (x ≡ m → ⊥)) ⊎ ((y ≡ m) × OccursIn x s)

number_true : (n m : ℕ) → (n == m) ≡ true → n ≡ m
number_true n m h = grind (arith, nat_tests)

number_false : (n m : ℕ) → (n == m) ≡ false → n ≡ m → ⊥
number_false n m h e = grind (arith, nat_tests)

one_but : (x m n : ℕ) (s : SchemeTree) (decl : MetaDecl) (b : Bool) → (n == m) ≡ b → OccursIn x (if b then s else meta n (values (parameters (params decl)))) →
    IsKeptOrPut x n m s
one_but x m n s decl true test h = inr (number_true n m test, h)
one_but x m n s decl false test (inl same) = inl (same, λ e. number_false n m test (same ∙ e))
one_but x m n s decl false test (inr h) = absurd (in_parameters x (params decl) h)

pub from_but : (x m : ℕ) (s : SchemeTree) (n k : ℕ) (decls : List MetaDecl) → OccursIn x (scheme_for (metas_but m s n decls) k) → IsKeptOrPut x (n + k) m s
from_but x m s n k [] h = absurd h
from_but x m s n zero (decl ∷ decls) h =
    subst (λ y. IsKeptOrPut x y m s) (let e : n ≡ n + 0 = omega arith in e) (one_but x m n s decl (n == m) refl h)
from_but x m s n (suc k) (decl ∷ decls) h =
    subst (λ y. IsKeptOrPut x y m s) (let e : suc n + k ≡ n + suc k = omega arith in e) (from_but x m s (suc n) k decls h)

-- what stands in a side stands in the state

in_equation : (x : ℕ) (before : List SchemeEquation) (e : SchemeEquation) (rest : List SchemeEquation) → OccursIn x e.left ⊎ OccursIn x e.right →
    StandsIn x (sides (before ++ e ∷ rest))
in_equation x [] e rest (inl h) = inl h
in_equation x [] e rest (inr h) = inr (inl h)
in_equation x (b ∷ before) e rest h = inr (inr (in_equation x before e rest h))

pub side_stands : (x : ℕ) (st : State) (before : List SchemeEquation) (e : SchemeEquation) (rest : List SchemeEquation) → st.equations ≡ before ++ e ∷ rest →
    OccursIn x e.left ⊎ OccursIn x e.right → StandsIn x (schemes_of st)
side_stands x st before e rest at h =
    in_first x (sides st.equations) (entry_schemes (names_of st).knowns)
    (subst (λ es. StandsIn x (sides es)) (sym at) (in_equation x before e rest h))

pub first_side : (x : ℕ) (direction : Direction) (e : SchemeEquation) → OccursIn x (named_first direction e) → OccursIn x e.left ⊎ OccursIn x e.right
first_side x left_first e h = inl h
first_side x right_first e h = inr h

pub second_side : (x : ℕ) (direction : Direction) (e : SchemeEquation) → OccursIn x (named_second direction e) → OccursIn x e.left ⊎ OccursIn x e.right
second_side x left_first e h = inr h
second_side x right_first e h = inl h

-- a bind: the weight falls

pub bind_falls : (st : State) (before : List SchemeEquation) (e : SchemeEquation) (rest : List SchemeEquation) (direction : Direction) (m : ℕ) (vs : Values)
    (decl : MetaDecl) → st.equations ≡ before ++ e ∷ rest → named_first direction e ≡ meta m vs → slice_get (names_of st).metas m ≡ Some decl →
    (OccursIn m (named_second direction e) → ⊥) →
    metas_weight (schemes_of (after_step (becomes m (over_parameters vs (named_second direction e)) (names_of st)) st)) 0 (names_of st).metas
    < metas_weight (schemes_of st) 0 (names_of st).metas
bind_falls st before e rest direction m vs decl at shape declared free =
    let less = weight_gone (schemes_of (after_step (becomes m (over_parameters vs (named_second direction e)) (names_of st)) st)) (schemes_of st) 0 (names_of st).metas m m decl still declared (omega arith) gone stood in omega (arith, less)
  where
    stood : StandsIn m (schemes_of st)
    stood = side_stands m st before e rest at (first_side m direction e (subst (OccursIn m) (sym shape) (inl refl)))

    put : (x : ℕ) → OccursIn x (over_parameters vs (named_second direction e)) → OccursIn x (named_second direction e)
    put x h = elim (from_filled x (λ i. local (parameter_at vs i)) (named_second direction e) h) [ inl k ↦ k | inr k ↦ absurd k.1 ]

    cases : (x : ℕ) → StandsIn x (schemes_of (after_step (becomes m (over_parameters vs (named_second direction e)) (names_of st)) st)) → StandsIn x (schemes_of st) × (x ≡ m → ⊥)
    cases x h =
        let o = from_step (becomes m (over_parameters vs (named_second direction e)) (names_of st)) st x h in
        elim (from_but x m (over_parameters vs (named_second direction e)) 0 o.0 (names_of st).metas o.2) [
          | inl k ↦ (subst (λ y. StandsIn y (schemes_of st)) ((let q : o.0 ≡ 0 + o.0 = omega arith in q) ∙ k.0) o.1, k.1)
          | inr k ↦ (side_stands x st before e rest at (second_side x direction e (put x k.1)), λ same. free (subst (λ y. OccursIn y (named_second direction e)) same (put x k.1)))
        ]

    still : StandsStill (schemes_of (after_step (becomes m (over_parameters vs (named_second direction e)) (names_of st)) st)) (schemes_of st) 0 (names_of st).metas
    still x from below h = (cases x h).0

    gone : StandsIn m (schemes_of (after_step (becomes m (over_parameters vs (named_second direction e)) (names_of st)) st)) → ⊥
    gone h = (cases m h).1 refl

-- a metavariable that becomes a new one with fewer parameters: the weight falls

pub new_falls : (st : State) (m : ℕ) (decl : MetaDecl) (keeps : List Bool) → slice_get (names_of st).metas m ≡ Some decl → StandsIn m (schemes_of st) →
    length (marked keeps decl.params) < length decl.params →
    metas_weight (schemes_of (after_step (becomes_new m decl keeps (names_of st)) st)) 0 ((names_of st).metas ++ decl_with keeps decl ∷ [])
    < metas_weight (schemes_of st) 0 (names_of st).metas
new_falls st m decl keeps declared stood fewer =
    let less = weight_gone (schemes_of (after_step (becomes_new m decl keeps (names_of st)) st)) (schemes_of st) 0 (names_of st).metas m m decl
    still declared (omega arith) gone stood in
    let more = weight_one_more (schemes_of (after_step (becomes_new m decl keeps (names_of st)) st)) 0 (names_of st).metas (decl_with keeps decl) in
    omega (arith, less, more, fewer)
  where
    cases : (x : ℕ) → x < length (names_of st).metas → StandsIn x (schemes_of (after_step (becomes_new m decl keeps (names_of st)) st)) →
        StandsIn x (schemes_of st) × (x ≡ m → ⊥)
    cases x below h =
        let o = from_step (becomes_new m decl keeps (names_of st)) st x h in
        elim (from_but x m (meta (length (names_of st).metas) (values (marked keeps (parameters (params decl))))) 0 o.0 (names_of st).metas o.2) [
          | inl k ↦ (subst (λ y. StandsIn y (schemes_of st)) ((let q : o.0 ≡ 0 + o.0 = omega arith in q) ∙ k.0) o.1, k.1)
          | inr k ↦ elim k.1 [ inl same ↦ absurd (omega (arith, same, below)) | inr inside ↦ absurd (in_marked x keeps (params decl) inside) ]
        ]

    still : StandsStill (schemes_of (after_step (becomes_new m decl keeps (names_of st)) st)) (schemes_of st) 0 (names_of st).metas
    still x from below h = (cases x (omega (arith, below)) h).0

    in_range : (decls : List MetaDecl) (k : ℕ) → slice_get decls k ≡ Some decl → k < length decls
    in_range [] k h = let e : ◌≡◌ {A = ℕ} 0 1 = ap count h in absurd (omega (arith, e))
    in_range (d ∷ decls) zero h = omega arith
    in_range (d ∷ decls) (suc k) h = let rest = in_range decls k h in omega (arith, rest)

    gone : StandsIn m (schemes_of (after_step (becomes_new m decl keeps (names_of st)) st)) → ⊥
    gone h = (cases m (in_range (names_of st).metas m declared) h).1 refl
