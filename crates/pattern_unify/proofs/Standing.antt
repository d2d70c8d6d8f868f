-- Which metavariables stand in a state after a step: those of the values of those that stood before it.
use Rattle.std.proofs.Common.{◌≡◌, ◌⊎◌, ◌+◌, ◌-◌, ℕ, zero, suc, Bool, true, false, if◌then◌else◌, nat_lt, ◌==◌, ◌||◌, IsTrue, List, [], ◌∷◌, ◌++◌, length, map, reverse, slice_get, unwrap_or, inl, inr, refl, arith}
use mathlib.Core.List.{reverse_aux}
use Rattle.std.proofs.lemmas.Bool.Decides.{nat_tests}
use Rattle.binding_terms.specs.Numbered.{AnyByRecursion}
use Rattle.scheme_terms.specs.SchemeTree.{SchemeTree, meta, known, local, con, Values, no_values, value, Parts, no_parts, part, shifted, shifted_values, shifted_parts, filled, filled_values, filled_parts, under, OccursIn, OccursInValues, OccursInParts}
use Rattle.scheme_terms.specs.Forms.{KnownVariable}
use Rattle.scheme_terms.specs.Substituting.{applied, applied_values, applied_parts, argument_or_local, scheme_for}
use Rattle.pattern_unify.specs.Equations.{SchemeEquation}
use Rattle.pattern_unify.specs.State.{State, Step, names_of, applied_equation, applied_known, after_step}
use Rattle.pattern_unify.specs.Measure.{meta_stands, meta_stands_in_values, meta_stands_in_parts, any_scheme, sides, entry_schemes, schemes_of}

-- raising brings no metavariable
mutual
  pub occurs_shifted : (x cut n : ℕ) (s : SchemeTree) → OccursIn x (shifted cut n s) → OccursIn x s
  occurs_shifted x cut n (meta m vs) (inl h) = inl h
  occurs_shifted x cut n (meta m vs) (inr h) = inr (occurs_shifted_values x cut n vs h)
  occurs_shifted x cut n (known k) h = h
  occurs_shifted x cut n (local i) h = h
  occurs_shifted x cut n (con p xs) h = occurs_shifted_parts x cut n xs h

  occurs_shifted_values : (x cut n : ℕ) (vs : Values) → OccursInValues x (shifted_values cut n vs) → OccursInValues x vs
  occurs_shifted_values x cut n no_values h = h
  occurs_shifted_values x cut n (value s vs) (inl h) = inl (occurs_shifted x cut n s h)
  occurs_shifted_values x cut n (value s vs) (inr h) = inr (occurs_shifted_values x cut n vs h)

  occurs_shifted_parts : (x cut n : ℕ) (xs : Parts) → OccursInParts x (shifted_parts cut n xs) → OccursInParts x xs
  occurs_shifted_parts x cut n no_parts h = h
  occurs_shifted_parts x cut n (part b s xs) (inl h) = inl (occurs_shifted x (cut + b) n s h)
  occurs_shifted_parts x cut n (part b s xs) (inr h) = inr (occurs_shifted_parts x cut n xs h)

-- one of the schemes put in for locals holds it
abbrev pub IsPutIn : ℕ → (ℕ → SchemeTree) → Type 0
IsPutIn x f = (i : ℕ) × OccursIn x (f i)

below_binders : (x n : ℕ) (f : ℕ → SchemeTree) → IsPutIn x (under n f) → IsPutIn x f
below_binders x n f h = at (nat_lt h.0 n) h.1
  where
    at : (b : Bool) → OccursIn x (if b then local h.0 else shifted 0 n (f (h.0 - n))) → IsPutIn x f
    at true k = absurd k
    at false k = (h.0 - n, occurs_shifted x 0 n (f (h.0 - n)) k)

mutual
  pub from_filled : (x : ℕ) (f : ℕ → SchemeTree) (s : SchemeTree) → OccursIn x (filled f s) → OccursIn x s ⊎ IsPutIn x f
  from_filled x f (meta m vs) (inl h) = inl (inl h)
  from_filled x f (meta m vs) (inr h) = elim (from_filled_values x f vs h) [ inl k ↦ inl (inr k) | inr k ↦ inr k ]
  from_filled x f (known k) h = inl h
  from_filled x f (local i) h = inr (i, h)
  from_filled x f (con p xs) h = from_filled_parts x f xs h

  from_filled_values : (x : ℕ) (f : ℕ → SchemeTree) (vs : Values) → OccursInValues x (filled_values f vs) → OccursInValues x vs ⊎ IsPutIn x f
  from_filled_values x f no_values h = inl h
  from_filled_values x f (value s vs) (inl h) = elim (from_filled x f s h) [ inl k ↦ inl (inl k) | inr k ↦ inr k ]
  from_filled_values x f (value s vs) (inr h) = elim (from_filled_values x f vs h) [ inl k ↦ inl (inr k) | inr k ↦ inr k ]

  from_filled_parts : (x : ℕ) (f : ℕ → SchemeTree) (xs : Parts) → OccursInParts x (filled_parts f xs) → OccursInParts x xs ⊎ IsPutIn x f
  from_filled_parts x f no_parts h = inl h
  from_filled_parts x f (part b s xs) (inl h) = elim (from_filled x (under b f) s h) [ inl k ↦ inl (inl k) | inr k ↦ inr (below_binders x b f k) ]
  from_filled_parts x f (part b s xs) (inr h) = elim (from_filled_parts x f xs h) [ inl k ↦ inl (inr k) | inr k ↦ inr k ]

-- it stands in one of the schemes
abbrev pub StandsIn : ℕ → List SchemeTree → Type 0
StandsIn x ss = AnyByRecursion (OccursIn x) ss

pub in_first : (x : ℕ) (ss tt : List SchemeTree) → StandsIn x ss → StandsIn x (ss ++ tt)
in_first x (s ∷ ss) tt (inl h) = inl h
in_first x (s ∷ ss) tt (inr h) = inr (in_first x ss tt h)
in_first x [] tt h = absurd h

pub in_second : (x : ℕ) (ss tt : List SchemeTree) → StandsIn x tt → StandsIn x (ss ++ tt)
in_second x [] tt h = h
in_second x (s ∷ ss) tt h = inr (in_second x ss tt h)

pub in_either : (x : ℕ) (ss tt : List SchemeTree) → StandsIn x (ss ++ tt) → StandsIn x ss ⊎ StandsIn x tt
in_either x [] tt h = inr h
in_either x (s ∷ ss) tt (inl h) = inl (inl h)
in_either x (s ∷ ss) tt (inr h) = elim (in_either x ss tt h) [ inl k ↦ inl (inr k) | inr k ↦ inr k ]

in_reverse : (x : ℕ) (ss rest : List SchemeTree) → StandsIn x (reverse_aux ss rest) → StandsIn x ss ⊎ StandsIn x rest
in_reverse x [] rest h = inr h
in_reverse x (s ∷ ss) rest h = elim (in_reverse x ss (s ∷ rest) h) [
  | inl k ↦ inl (inr k)
  | inr k ↦ elim k [ inl o ↦ inl (inl o) | inr o ↦ inr o ]
]

at_index : (x : ℕ) (ss : List SchemeTree) (i : ℕ) → OccursIn x (unwrap_or (slice_get ss i) (local 0)) → StandsIn x ss
at_index x [] i h = h
at_index x (s ∷ ss) zero h = inl h
at_index x (s ∷ ss) (suc i) h = inr (at_index x ss i h)

in_arguments : (x d : ℕ) (args : List SchemeTree) → IsPutIn x (argument_or_local d args) → StandsIn x args
in_arguments x d args h = at (nat_lt h.0 (length args)) h.1
  where
    at : (b : Bool) → OccursIn x (if b then unwrap_or (slice_get (reverse args) h.0) (local 0) else local (h.0 - length args + d)) → StandsIn x args
    at true k = elim (in_reverse x args [] (at_index x (reverse args) h.0 k)) [ inl o ↦ o | inr o ↦ absurd o ]
    at false k = absurd k

-- it stands in what is put in for a metavariable of these
abbrev pub ComesFrom : List SchemeTree → (x : ℕ) → (ℕ → Type 0) → Type 0
ComesFrom ss x Stood = (y : ℕ) × Stood y × OccursIn x (scheme_for ss y)

mutual
  pub from_applied : (ss : List SchemeTree) (ks : List ℕ) (d x : ℕ) (s : SchemeTree) → OccursIn x (applied ss ks d s) → ComesFrom ss x (λ y. OccursIn y s)
  from_applied ss ks d x (meta n vs) h = elim (from_filled x (argument_or_local d (applied_values ss ks d vs)) (scheme_for ss n) h) [
    | inl k ↦ (n, inl refl, k)
    | inr k ↦ let o = from_applied_values ss ks d x vs (in_arguments x d (applied_values ss ks d vs) k) in (o.0, inr o.1, o.2)
  ]
  from_applied ss ks d x (known k) h = absurd h
  from_applied ss ks d x (local i) h = absurd h
  from_applied ss ks d x (con p xs) h = from_applied_parts ss ks d x xs h

  from_applied_values : (ss : List SchemeTree) (ks : List ℕ) (d x : ℕ) (vs : Values) → StandsIn x (applied_values ss ks d vs) →
      ComesFrom ss x (λ y. OccursInValues y vs)
  from_applied_values ss ks d x no_values h = absurd h
  from_applied_values ss ks d x (value s vs) (inl h) = let o = from_applied ss ks d x s h in (o.0, inl o.1, o.2)
  from_applied_values ss ks d x (value s vs) (inr h) = let o = from_applied_values ss ks d x vs h in (o.0, inr o.1, o.2)

  from_applied_parts : (ss : List SchemeTree) (ks : List ℕ) (d x : ℕ) (xs : Parts) → OccursInParts x (applied_parts ss ks d xs) →
      ComesFrom ss x (λ y. OccursInParts y xs)
  from_applied_parts ss ks d x no_parts h = absurd h
  from_applied_parts ss ks d x (part b s xs) (inl h) = let o = from_applied ss ks (d + b) x s h in (o.0, inl o.1, o.2)
  from_applied_parts ss ks d x (part b s xs) (inr h) = let o = from_applied_parts ss ks d x xs h in (o.0, inr o.1, o.2)

pub from_mapped : (ss : List SchemeTree) (ks : List ℕ) (x : ℕ) (args : List SchemeTree) → StandsIn x (map (applied ss ks 0) args) → ComesFrom ss x (λ y. StandsIn y args)
from_mapped ss ks x [] h = absurd h
from_mapped ss ks x (s ∷ args) (inl h) = let o = from_applied ss ks 0 x s h in (o.0, inl o.1, o.2)
from_mapped ss ks x (s ∷ args) (inr h) = let o = from_mapped ss ks x args h in (o.0, inr o.1, o.2)

from_sides : (ss : List SchemeTree) (ks : List ℕ) (x : ℕ) (es : List SchemeEquation) → StandsIn x (sides (map (applied_equation ss ks) es)) →
    ComesFrom ss x (λ y. StandsIn y (sides es))
from_sides ss ks x [] h = absurd h
from_sides ss ks x (e ∷ es) (inl h) = let o = from_applied ss ks (length e.locals) x e.left h in (o.0, inl o.1, o.2)
from_sides ss ks x (e ∷ es) (inr (inl h)) = let o = from_applied ss ks (length e.locals) x e.right h in (o.0, inr (inl o.1), o.2)
from_sides ss ks x (e ∷ es) (inr (inr h)) = let o = from_sides ss ks x es h in (o.0, inr (inr o.1), o.2)

from_entries : (ss : List SchemeTree) (ks : List ℕ) (x : ℕ) (decls : List KnownVariable) → StandsIn x (entry_schemes (map (applied_known ss ks) decls)) →
    ComesFrom ss x (λ y. StandsIn y (entry_schemes decls))
from_entries ss ks x [] h = absurd h
from_entries ss ks x (decl ∷ decls) h =
    elim (in_either x (map (applied ss ks 0) decl.entry.args) (entry_schemes (map (applied_known ss ks) decls)) h) [
      | inl k ↦ let o = from_mapped ss ks x decl.entry.args k in (o.0, in_first o.0 decl.entry.args (entry_schemes decls) o.1, o.2)
      | inr k ↦ let o = from_entries ss ks x decls k in (o.0, in_second o.0 decl.entry.args (entry_schemes decls) o.1, o.2)
    ]

pub from_step : (step : Step) (st : State) (x : ℕ) → StandsIn x (schemes_of (after_step step st)) → ComesFrom step.metas x (λ y. StandsIn y (schemes_of st))
from_step step st x h =
    elim (in_either x (sides (map (applied_equation step.metas step.knowns) st.equations)) (entry_schemes (map (applied_known step.metas step.knowns) (names_of st).knowns)) h) [
      | inl k ↦ let o = from_sides step.metas step.knowns x st.equations k in
          (o.0, in_first o.0 (sides st.equations) (entry_schemes (names_of st).knowns) o.1, o.2)
      | inr k ↦ let o = from_entries step.metas step.knowns x (names_of st).knowns k in
          (o.0, in_second o.0 (sides st.equations) (entry_schemes (names_of st).knowns) o.1, o.2)
    ]

-- the tests tell where a metavariable stands

pub or_cases : (a b : Bool) → IsTrue (a || b) → IsTrue a ⊎ IsTrue b
or_cases true b h = inl refl
or_cases false b h = inr h

pub or_first : (a b : Bool) → IsTrue a → IsTrue (a || b)
or_first true b h = refl
or_first false b h = cc

pub or_second : (a b : Bool) → IsTrue b → IsTrue (a || b)
or_second true b h = refl
or_second false b h = h

same_number : (n m : ℕ) → IsTrue (n == m) → n ≡ m
same_number n m h = grind (arith, nat_tests)

number_same : (n m : ℕ) → n ≡ m → IsTrue (n == m)
number_same n m h = grind (arith, nat_tests)

mutual
  meta_occurs : (m : ℕ) (s : SchemeTree) → IsTrue (meta_stands m s) → OccursIn m s
  meta_occurs m (meta n vs) h = elim (or_cases (n == m) (meta_stands_in_values m vs) h) [ inl k ↦ inl (same_number n m k) | inr k ↦ inr (meta_occurs_values m vs k) ]
  meta_occurs m (known k) h = let e : false ≡ true = h in cc
  meta_occurs m (local i) h = let e : false ≡ true = h in cc
  meta_occurs m (con p xs) h = meta_occurs_parts m xs h

  meta_occurs_values : (m : ℕ) (vs : Values) → IsTrue (meta_stands_in_values m vs) → OccursInValues m vs
  meta_occurs_values m no_values h = let e : false ≡ true = h in cc
  meta_occurs_values m (value s vs) h = elim (or_cases (meta_stands m s) (meta_stands_in_values m vs) h) [ inl k ↦ inl (meta_occurs m s k) | inr k ↦ inr (meta_occurs_values m vs k) ]

  meta_occurs_parts : (m : ℕ) (xs : Parts) → IsTrue (meta_stands_in_parts m xs) → OccursInParts m xs
  meta_occurs_parts m no_parts h = let e : false ≡ true = h in cc
  meta_occurs_parts m (part n s xs) h = elim (or_cases (meta_stands m s) (meta_stands_in_parts m xs) h) [ inl k ↦ inl (meta_occurs m s k) | inr k ↦ inr (meta_occurs_parts m xs k) ]

mutual
  occurs_meta : (m : ℕ) (s : SchemeTree) → OccursIn m s → IsTrue (meta_stands m s)
  occurs_meta m (meta n vs) (inl h) = or_first (n == m) (meta_stands_in_values m vs) (number_same n m h)
  occurs_meta m (meta n vs) (inr h) = or_second (n == m) (meta_stands_in_values m vs) (occurs_meta_values m vs h)
  occurs_meta m (known k) h = absurd h
  occurs_meta m (local i) h = absurd h
  occurs_meta m (con p xs) h = occurs_meta_parts m xs h

  occurs_meta_values : (m : ℕ) (vs : Values) → OccursInValues m vs → IsTrue (meta_stands_in_values m vs)
  occurs_meta_values m no_values h = absurd h
  occurs_meta_values m (value s vs) (inl h) = or_first (meta_stands m s) (meta_stands_in_values m vs) (occurs_meta m s h)
  occurs_meta_values m (value s vs) (inr h) = or_second (meta_stands m s) (meta_stands_in_values m vs) (occurs_meta_values m vs h)

  occurs_meta_parts : (m : ℕ) (xs : Parts) → OccursInParts m xs → IsTrue (meta_stands_in_parts m xs)
  occurs_meta_parts m no_parts h = absurd h
  occurs_meta_parts m (part n s xs) (inl h) = or_first (meta_stands m s) (meta_stands_in_parts m xs) (occurs_meta m s h)
  occurs_meta_parts m (part n s xs) (inr h) = or_second (meta_stands m s) (meta_stands_in_parts m xs) (occurs_meta_parts m xs h)

pub stands_tested : (m : ℕ) (ss : List SchemeTree) → IsTrue (any_scheme (meta_stands m) ss) → StandsIn m ss
stands_tested m [] h = let e : false ≡ true = h in cc
stands_tested m (s ∷ ss) h = elim (or_cases (meta_stands m s) (any_scheme (meta_stands m) ss) h) [ inl k ↦ inl (meta_occurs m s k) | inr k ↦ inr (stands_tested m ss k) ]

pub tested_stands : (m : ℕ) (ss : List SchemeTree) → StandsIn m ss → IsTrue (any_scheme (meta_stands m) ss)
tested_stands m [] h = absurd h
tested_stands m (s ∷ ss) (inl h) = or_first (meta_stands m s) (any_scheme (meta_stands m) ss) (occurs_meta m s h)
tested_stands m (s ∷ ss) (inr h) = or_second (meta_stands m s) (any_scheme (meta_stands m) ss) (tested_stands m ss h)
