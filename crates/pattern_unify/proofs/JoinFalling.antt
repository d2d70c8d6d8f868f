-- A join takes a known variable away, and a delete or a decompose makes the equations smaller: what stands where, and the measure.
use Rattle.std.proofs.Common.{◌≡◌, ◌⊎◌, ◌+◌, ◌-◌, ◌<◌, ◌≤◌, ℕ, zero, suc, Bool, true, false, if◌then◌else◌, nat_lt, ◌==◌, List, [], ◌∷◌, ◌++◌, length, map, reverse, option_map, slice_get, unwrap_or, inl, inr, refl, sym, ◌∙◌, subst, arith}
use mathlib.Core.List.{reverse_aux}
use Rattle.std.proofs.lemmas.Bool.Decides.{nat_tests}
use Rattle.binding_terms.specs.Numbered.{AnyByRecursion}
use Rattle.binding_terms.proofs.Lists.{any_back, any_front, any_split}
use Rattle.binding_terms.specs.Signature.{Signature, Place}
use Rattle.scheme_terms.specs.SchemeTree.{SchemeTree, meta, known, local, con, Values, no_values, value, Parts, no_parts, part, values, shifted, shifted_values, shifted_parts, filled, filled_values, filled_parts, under, OccursIn, OccursInValues, OccursInParts, KnownIn, KnownInValues, KnownInParts}
use Rattle.scheme_terms.specs.Forms.{Names, KnownVariable}
use Rattle.scheme_terms.specs.Substituting.{applied, applied_values, applied_parts, argument_or_local, scheme_for, known_for, metas_from, parameters, params}
use Rattle.scheme_terms.specs.declared.scheme.MetaDecl.{MetaDecl}
use Rattle.pattern_unify.specs.Equations.{SchemeEquation}
use Rattle.pattern_unify.specs.State.{State, names_of, applied_equation, applied_known, after_step, with_equations, knowns_but, joins_to}
use Rattle.pattern_unify.specs.Move.{part_equations, argument_equations, entry_equations, entry_args}
use Rattle.pattern_unify.specs.Measure.{sides, entry_schemes, schemes_of, scheme_size, parts_size, equations_size}
use Rattle.pattern_unify.proofs.Standing.{StandsIn, from_step}

-- the sides of the equations between others

pub sides_either : (P : SchemeTree → Type 0) (es fs : List SchemeEquation) → AnyByRecursion P (sides (es ++ fs)) → AnyByRecursion P (sides es) ⊎ AnyByRecursion P (sides fs)
sides_either P [] fs h = inr h
sides_either P (e ∷ es) fs (inl h) = inl (inl h)
sides_either P (e ∷ es) fs (inr (inl h)) = inl (inr (inl h))
sides_either P (e ∷ es) fs (inr (inr h)) = elim (sides_either P es fs h) [ inl k ↦ inl (inr (inr k)) | inr k ↦ inr k ]

pub sides_first : (P : SchemeTree → Type 0) (es fs : List SchemeEquation) → AnyByRecursion P (sides es) → AnyByRecursion P (sides (es ++ fs))
sides_first P [] fs h = absurd h
sides_first P (e ∷ es) fs (inl h) = inl h
sides_first P (e ∷ es) fs (inr (inl h)) = inr (inl h)
sides_first P (e ∷ es) fs (inr (inr h)) = inr (inr (sides_first P es fs h))

pub sides_second : (P : SchemeTree → Type 0) (es fs : List SchemeEquation) → AnyByRecursion P (sides fs) → AnyByRecursion P (sides (es ++ fs))
sides_second P [] fs h = h
sides_second P (e ∷ es) fs h = inr (inr (sides_second P es fs h))

-- What is so of some scheme after new equations stand in the place of one was so before it, where it was so of the equation or an entry if it is so of
-- the new ones.
pub any_replaced : (P : SchemeTree → Type 0) (st : State) (before : List SchemeEquation) (e : SchemeEquation) (rest new : List SchemeEquation) →
    st.equations ≡ before ++ e ∷ rest →
    (AnyByRecursion P (sides new) → (P e.left ⊎ P e.right) ⊎ AnyByRecursion P (entry_schemes (names_of st).knowns)) →
    AnyByRecursion P (schemes_of (with_equations (before ++ (new ++ rest)) st)) → AnyByRecursion P (schemes_of st)
any_replaced P st before e rest new at told h =
    elim (any_split P (sides (before ++ (new ++ rest))) (entry_schemes (names_of st).knowns) h) [
      | inr k ↦ any_back P (sides st.equations) (entry_schemes (names_of st).knowns) k
      | inl k ↦ elim (sides_either P before (new ++ rest) k) [
        | inl o ↦ equations (sides_first P before (e ∷ rest) o)
        | inr o ↦ elim (sides_either P new rest o) [
          | inr q ↦ equations (sides_second P before (e ∷ rest) (inr (inr q)))
          | inl q ↦ elim (told q) [
            | inl side ↦ equations (sides_second P before (e ∷ rest) (elim side [ inl l ↦ inl l | inr r ↦ inr (inl r) ]))
            | inr entry ↦ any_back P (sides st.equations) (entry_schemes (names_of st).knowns) entry
          ]
        ]
      ]
    ]
  where
    equations : AnyByRecursion P (sides (before ++ e ∷ rest)) → AnyByRecursion P (schemes_of st)
    equations k = any_front P (sides st.equations) (entry_schemes (names_of st).knowns) (subst (λ es. AnyByRecursion P (sides es)) (sym at) k)

-- what stands in the equations of arguments stands in one of the productions' schemes

occurs_in_parts : (x : ℕ) (ls bs : List ℕ) (ss : List Place) (xs ys : Parts) → AnyByRecursion (OccursIn x) (sides (part_equations ls bs ss xs ys)) →
    OccursInParts x xs ⊎ OccursInParts x ys
occurs_in_parts x ls bs [] xs ys h = absurd h
occurs_in_parts x ls bs (s ∷ ss) no_parts ys h = absurd h
occurs_in_parts x ls bs (s ∷ ss) (part m a xs) no_parts h = absurd h
occurs_in_parts x ls bs (s ∷ ss) (part m a xs) (part n b ys) (inl h) = inl (inl h)
occurs_in_parts x ls bs (s ∷ ss) (part m a xs) (part n b ys) (inr (inl h)) = inr (inl h)
occurs_in_parts x ls bs (s ∷ ss) (part m a xs) (part n b ys) (inr (inr h)) =
    elim (occurs_in_parts x ls bs ss xs ys h) [ inl k ↦ inl (inr k) | inr k ↦ inr (inr k) ]

known_in_parts : (x : ℕ) (ls bs : List ℕ) (ss : List Place) (xs ys : Parts) → AnyByRecursion (KnownIn x) (sides (part_equations ls bs ss xs ys)) →
    KnownInParts x xs ⊎ KnownInParts x ys
known_in_parts x ls bs [] xs ys h = absurd h
known_in_parts x ls bs (s ∷ ss) no_parts ys h = absurd h
known_in_parts x ls bs (s ∷ ss) (part m a xs) no_parts h = absurd h
known_in_parts x ls bs (s ∷ ss) (part m a xs) (part n b ys) (inl h) = inl (inl h)
known_in_parts x ls bs (s ∷ ss) (part m a xs) (part n b ys) (inr (inl h)) = inr (inl h)
known_in_parts x ls bs (s ∷ ss) (part m a xs) (part n b ys) (inr (inr h)) =
    elim (known_in_parts x ls bs ss xs ys h) [ inl k ↦ inl (inr k) | inr k ↦ inr (inr k) ]

pub occurs_decomposed : (sig : Signature) (x : ℕ) (e : SchemeEquation) (p : ℕ) (xs ys : Parts) → e.left ≡ con p xs → e.right ≡ con p ys →
    AnyByRecursion (OccursIn x) (sides (argument_equations sig e p xs ys)) → OccursIn x e.left ⊎ OccursIn x e.right
occurs_decomposed sig x e p xs ys l r h = elim (occurs_in_parts x e.locals _ _ xs ys h) [
  | inl k ↦ inl (subst (OccursIn x) (sym l) k)
  | inr k ↦ inr (subst (OccursIn x) (sym r) k)
]

pub known_decomposed : (sig : Signature) (x : ℕ) (e : SchemeEquation) (p : ℕ) (xs ys : Parts) → e.left ≡ con p xs → e.right ≡ con p ys →
    AnyByRecursion (KnownIn x) (sides (argument_equations sig e p xs ys)) → KnownIn x e.left ⊎ KnownIn x e.right
known_decomposed sig x e p xs ys l r h = elim (known_in_parts x e.locals _ _ xs ys h) [
  | inl k ↦ inl (subst (KnownIn x) (sym l) k)
  | inr k ↦ inr (subst (KnownIn x) (sym r) k)
]

-- the sizes

pub size_append : (es fs : List SchemeEquation) → equations_size (es ++ fs) ≡ equations_size es + equations_size fs
size_append [] fs = let e : equations_size fs ≡ 0 + equations_size fs = omega arith in e
size_append (e ∷ es) fs = let rest = size_append es fs in omega (arith, rest)

pub parts_less : (ls bs : List ℕ) (ss : List Place) (xs ys : Parts) → equations_size (part_equations ls bs ss xs ys) ≤ parts_size xs + parts_size ys
parts_less ls bs [] xs ys = omega arith
parts_less ls bs (s ∷ ss) no_parts ys = omega arith
parts_less ls bs (s ∷ ss) (part m a xs) no_parts = omega arith
parts_less ls bs (s ∷ ss) (part m a xs) (part n b ys) = let rest = parts_less ls bs ss xs ys in omega (arith, rest)

pub size_positive : (s : SchemeTree) → 1 ≤ scheme_size s
size_positive (meta m vs) = omega arith
size_positive (known k) = omega arith
size_positive (local i) = omega arith
size_positive (con p xs) = omega arith

-- what stands in the equations of two entries stands in the entries

entries_either : (P : SchemeTree → Type 0) (ss tt : List SchemeTree) → AnyByRecursion P (sides (entry_equations ss tt)) → AnyByRecursion P ss ⊎ AnyByRecursion P tt
entries_either P [] tt h = absurd h
entries_either P (s ∷ ss) [] h = absurd h
entries_either P (s ∷ ss) (t ∷ tt) (inl h) = inl (inl h)
entries_either P (s ∷ ss) (t ∷ tt) (inr (inl h)) = inr (inl h)
entries_either P (s ∷ ss) (t ∷ tt) (inr (inr h)) = elim (entries_either P ss tt h) [ inl k ↦ inl (inr k) | inr k ↦ inr (inr k) ]

in_entry : (P : SchemeTree → Type 0) (decls : List KnownVariable) (k : ℕ) →
    AnyByRecursion P (unwrap_or (option_map (λ decl. decl.entry.args) (slice_get decls k)) []) → AnyByRecursion P (entry_schemes decls)
in_entry P [] k h = absurd h
in_entry P (decl ∷ decls) zero h = any_front P decl.entry.args (entry_schemes decls) h
in_entry P (decl ∷ decls) (suc k) h = any_back P decl.entry.args (entry_schemes decls) (in_entry P decls k h)

pub any_in_entries : (P : SchemeTree → Type 0) (names : Names) (low high : ℕ) →
    AnyByRecursion P (sides (entry_equations (entry_args names low) (entry_args names high))) → AnyByRecursion P (entry_schemes names.knowns)
any_in_entries P names low high h = elim (entries_either P (entry_args names low) (entry_args names high) h) [
  | inl k ↦ in_entry P names.knowns low k
  | inr k ↦ in_entry P names.knowns high k
]

-- each metavariable for itself

no_meta_in_parameters : (x n : ℕ) → OccursInValues x (values (parameters n)) → ⊥
no_meta_in_parameters x zero h = h
no_meta_in_parameters x (suc n) (inl h) = h
no_meta_in_parameters x (suc n) (inr h) = no_meta_in_parameters x n h

no_known_in_parameters : (x n : ℕ) → KnownInValues x (values (parameters n)) → ⊥
no_known_in_parameters x zero h = h
no_known_in_parameters x (suc n) (inl h) = h
no_known_in_parameters x (suc n) (inr h) = no_known_in_parameters x n h

pub from_itself : (x n k : ℕ) (decls : List MetaDecl) → OccursIn x (scheme_for (metas_from n decls) k) → n + k ≡ x
from_itself x n k [] h = absurd h
from_itself x n zero (decl ∷ decls) (inl same) = let e : n + 0 ≡ x = omega (arith, same) in e
from_itself x n zero (decl ∷ decls) (inr h) = absurd (no_meta_in_parameters x (params decl) h)
from_itself x n (suc k) (decl ∷ decls) h = let e = from_itself x (suc n) k decls h in omega (arith, e)

pub no_known_itself : (x n k : ℕ) (decls : List MetaDecl) → KnownIn x (scheme_for (metas_from n decls) k) → ⊥
no_known_itself x n k [] h = h
no_known_itself x n zero (decl ∷ decls) h = no_known_in_parameters x (params decl) h
no_known_itself x n (suc k) (decl ∷ decls) h = no_known_itself x (suc n) k decls h

-- a join leaves the metavariables where they stood
pub joined_metas : (st : State) (high low x : ℕ) → StandsIn x (schemes_of (after_step (joins_to high low (names_of st)) st)) → StandsIn x (schemes_of st)
joined_metas st high low x h =
    let o = from_step (joins_to high low (names_of st)) st x h in
    let same : o.0 ≡ x = (let q : o.0 ≡ 0 + o.0 = omega arith in q) ∙ from_itself x 0 o.0 (names_of st).metas o.2 in
    subst (λ y. StandsIn y (schemes_of st)) same o.1

-- known variables in raised and filled schemes

mutual
  known_shifted : (x cut n : ℕ) (s : SchemeTree) → KnownIn x (shifted cut n s) → KnownIn x s
  known_shifted x cut n (meta m vs) h = known_shifted_values x cut n vs h
  known_shifted x cut n (known k) h = h
  known_shifted x cut n (local i) h = h
  known_shifted x cut n (con p xs) h = known_shifted_parts x cut n xs h

  known_shifted_values : (x cut n : ℕ) (vs : Values) → KnownInValues x (shifted_values cut n vs) → KnownInValues x vs
  known_shifted_values x cut n no_values h = h
  known_shifted_values x cut n (value s vs) (inl h) = inl (known_shifted x cut n s h)
  known_shifted_values x cut n (value s vs) (inr h) = inr (known_shifted_values x cut n vs h)

  known_shifted_parts : (x cut n : ℕ) (xs : Parts) → KnownInParts x (shifted_parts cut n xs) → KnownInParts x xs
  known_shifted_parts x cut n no_parts h = h
  known_shifted_parts x cut n (part b s xs) (inl h) = inl (known_shifted x (cut + b) n s h)
  known_shifted_parts x cut n (part b s xs) (inr h) = inr (known_shifted_parts x cut n xs h)

abbrev pub IsKnownPut : ℕ → (ℕ → SchemeTree) → Type 0
IsKnownPut x f = (i : ℕ) × KnownIn x (f i)

known_below : (x n : ℕ) (f : ℕ → SchemeTree) → IsKnownPut x (under n f) → IsKnownPut x f
known_below x n f h = at (nat_lt h.0 n) h.1
  where
    at : (b : Bool) → KnownIn x (if b then local h.0 else shifted 0 n (f (h.0 - n))) → IsKnownPut x f
    at true k = absurd k
    at false k = (h.0 - n, known_shifted x 0 n (f (h.0 - n)) k)

mutual
  pub known_filled : (x : ℕ) (f : ℕ → SchemeTree) (s : SchemeTree) → KnownIn x (filled f s) → KnownIn x s ⊎ IsKnownPut x f
  known_filled x f (meta m vs) h = known_filled_values x f vs h
  known_filled x f (known k) h = inl h
  known_filled x f (local i) h = inr (i, h)
  known_filled x f (con p xs) h = known_filled_parts x f xs h

  known_filled_values : (x : ℕ) (f : ℕ → SchemeTree) (vs : Values) → KnownInValues x (filled_values f vs) → KnownInValues x vs ⊎ IsKnownPut x f
  known_filled_values x f no_values h = inl h
  known_filled_values x f (value s vs) (inl h) = elim (known_filled x f s h) [ inl k ↦ inl (inl k) | inr k ↦ inr k ]
  known_filled_values x f (value s vs) (inr h) = elim (known_filled_values x f vs h) [ inl k ↦ inl (inr k) | inr k ↦ inr k ]

  known_filled_parts : (x : ℕ) (f : ℕ → SchemeTree) (xs : Parts) → KnownInParts x (filled_parts f xs) → KnownInParts x xs ⊎ IsKnownPut x f
  known_filled_parts x f no_parts h = inl h
  known_filled_parts x f (part b s xs) (inl h) = elim (known_filled x (under b f) s h) [ inl k ↦ inl (inl k) | inr k ↦ inr (known_below x b f k) ]
  known_filled_parts x f (part b s xs) (inr h) = elim (known_filled_parts x f xs h) [ inl k ↦ inl (inr k) | inr k ↦ inr k ]

known_reverse : (x : ℕ) (ss rest : List SchemeTree) → AnyByRecursion (KnownIn x) (reverse_aux ss rest) → AnyByRecursion (KnownIn x) ss ⊎ AnyByRecursion (KnownIn x) rest
known_reverse x [] rest h = inr h
known_reverse x (s ∷ ss) rest h = elim (known_reverse x ss (s ∷ rest) h) [
  | inl k ↦ inl (inr k)
  | inr k ↦ elim k [ inl o ↦ inl (inl o) | inr o ↦ inr o ]
]

known_at_index : (x : ℕ) (ss : List SchemeTree) (i : ℕ) → KnownIn x (unwrap_or (slice_get ss i) (local 0)) → AnyByRecursion (KnownIn x) ss
known_at_index x [] i h = h
known_at_index x (s ∷ ss) zero h = inl h
known_at_index x (s ∷ ss) (suc i) h = inr (known_at_index x ss i h)

pub known_in_arguments : (x d : ℕ) (args : List SchemeTree) → IsKnownPut x (argument_or_local d args) → AnyByRecursion (KnownIn x) args
known_in_arguments x d args h = at (nat_lt h.0 (length args)) h.1
  where
    at : (b : Bool) → KnownIn x (if b then unwrap_or (slice_get (reverse args) h.0) (local 0) else local (h.0 - length args + d)) → AnyByRecursion (KnownIn x) args
    at true k = elim (known_reverse x args [] (known_at_index x (reverse args) h.0 k)) [ inl o ↦ o | inr o ↦ absurd o ]
    at false k = absurd k

-- where the schemes for metavariables hold no known variable, each is what became of one that stood there
abbrev BecameFrom : List ℕ → (x : ℕ) → (ℕ → Type 0) → Type 0
BecameFrom ks x Stood = (y : ℕ) × Stood y × (known_for ks y ≡ x)

mutual
  known_applied : (ss : List SchemeTree) (ks : List ℕ) (d x : ℕ) → ((y : ℕ) → KnownIn x (scheme_for ss y) → ⊥) → (s : SchemeTree) → KnownIn x (applied ss ks d s) →
      BecameFrom ks x (λ y. KnownIn y s)
  known_applied ss ks d x clean (meta n vs) h = elim (known_filled x (argument_or_local d (applied_values ss ks d vs)) (scheme_for ss n) h) [
    | inl k ↦ absurd (clean n k)
    | inr k ↦ known_applied_values ss ks d x clean vs (known_in_arguments x d (applied_values ss ks d vs) k)
  ]
  known_applied ss ks d x clean (known k) h = (k, refl, h)
  known_applied ss ks d x clean (local i) h = absurd h
  known_applied ss ks d x clean (con p xs) h = known_applied_parts ss ks d x clean xs h

  known_applied_values : (ss : List SchemeTree) (ks : List ℕ) (d x : ℕ) → ((y : ℕ) → KnownIn x (scheme_for ss y) → ⊥) → (vs : Values) →
      AnyByRecursion (KnownIn x) (applied_values ss ks d vs) → BecameFrom ks x (λ y. KnownInValues y vs)
  known_applied_values ss ks d x clean no_values h = absurd h
  known_applied_values ss ks d x clean (value s vs) (inl h) = let o = known_applied ss ks d x clean s h in (o.0, inl o.1, o.2)
  known_applied_values ss ks d x clean (value s vs) (inr h) = let o = known_applied_values ss ks d x clean vs h in (o.0, inr o.1, o.2)

  known_applied_parts : (ss : List SchemeTree) (ks : List ℕ) (d x : ℕ) → ((y : ℕ) → KnownIn x (scheme_for ss y) → ⊥) → (xs : Parts) →
      KnownInParts x (applied_parts ss ks d xs) → BecameFrom ks x (λ y. KnownInParts y xs)
  known_applied_parts ss ks d x clean no_parts h = absurd h
  known_applied_parts ss ks d x clean (part b s xs) (inl h) = let o = known_applied ss ks (d + b) x clean s h in (o.0, inl o.1, o.2)
  known_applied_parts ss ks d x clean (part b s xs) (inr h) = let o = known_applied_parts ss ks d x clean xs h in (o.0, inr o.1, o.2)

abbrev pub KnownStandsIn : ℕ → List SchemeTree → Type 0
KnownStandsIn x ss = AnyByRecursion (KnownIn x) ss

known_mapped : (ss : List SchemeTree) (ks : List ℕ) (x : ℕ) → ((y : ℕ) → KnownIn x (scheme_for ss y) → ⊥) → (args : List SchemeTree) →
    KnownStandsIn x (map (applied ss ks 0) args) → BecameFrom ks x (λ y. KnownStandsIn y args)
known_mapped ss ks x clean [] h = absurd h
known_mapped ss ks x clean (s ∷ args) (inl h) = let o = known_applied ss ks 0 x clean s h in (o.0, inl o.1, o.2)
known_mapped ss ks x clean (s ∷ args) (inr h) = let o = known_mapped ss ks x clean args h in (o.0, inr o.1, o.2)

pub known_sides : (ss : List SchemeTree) (ks : List ℕ) (x : ℕ) → ((y : ℕ) → KnownIn x (scheme_for ss y) → ⊥) → (es : List SchemeEquation) →
    KnownStandsIn x (sides (map (applied_equation ss ks) es)) → BecameFrom ks x (λ y. KnownStandsIn y (sides es))
known_sides ss ks x clean [] h = absurd h
known_sides ss ks x clean (e ∷ es) (inl h) = let o = known_applied ss ks (length e.locals) x clean e.left h in (o.0, inl o.1, o.2)
known_sides ss ks x clean (e ∷ es) (inr (inl h)) = let o = known_applied ss ks (length e.locals) x clean e.right h in (o.0, inr (inl o.1), o.2)
known_sides ss ks x clean (e ∷ es) (inr (inr h)) = let o = known_sides ss ks x clean es h in (o.0, inr (inr o.1), o.2)

pub known_entries : (ss : List SchemeTree) (ks : List ℕ) (x : ℕ) → ((y : ℕ) → KnownIn x (scheme_for ss y) → ⊥) → (decls : List KnownVariable) →
    KnownStandsIn x (entry_schemes (map (applied_known ss ks) decls)) → BecameFrom ks x (λ y. KnownStandsIn y (entry_schemes decls))
known_entries ss ks x clean [] h = absurd h
known_entries ss ks x clean (decl ∷ decls) h =
    elim (any_split (KnownIn x) (map (applied ss ks 0) decl.entry.args) (entry_schemes (map (applied_known ss ks) decls)) h) [
      | inl k ↦ let o = known_mapped ss ks x clean decl.entry.args k in (o.0, any_front (KnownIn o.0) decl.entry.args (entry_schemes decls) o.1, o.2)
      | inr k ↦ let o = known_entries ss ks x clean decls k in (o.0, any_back (KnownIn o.0) decl.entry.args (entry_schemes decls) o.1, o.2)
    ]

-- each known variable for itself but one

number_true : (n m : ℕ) → (n == m) ≡ true → n ≡ m
number_true n m h = grind (arith, nat_tests)

number_false : (n m : ℕ) → (n == m) ≡ false → n ≡ m → ⊥
number_false n m h e = grind (arith, nat_tests)

-- it is itself and not the one that is gone, or past all, or that one has become it
abbrev pub IsKeptKnown : (x y gone kept : ℕ) → Type 0
IsKeptKnown x y gone kept = ((x ≡ y) × (y ≡ gone → ⊥)) ⊎ ((y ≡ gone) × (x ≡ kept))

pub known_value : (gone kept n k : ℕ) (decls : List KnownVariable) → k < length decls → IsKeptKnown (unwrap_or (slice_get (knowns_but gone kept n decls) k) (n + k)) (n + k) gone kept
known_value gone kept n k [] below = absurd (omega (arith, below))
known_value gone kept n zero (decl ∷ decls) below = subst (λ y. IsKeptKnown (if n == gone then kept else n) y gone kept) (let e : n ≡ n + 0 = omega arith in e) (at (n == gone) refl)
  where
    at : (b : Bool) → (n == gone) ≡ b → IsKeptKnown (if b then kept else n) n gone kept
    at true test = inr (number_true n gone test, refl)
    at false test = inl (refl, number_false n gone test)
known_value gone kept n (suc k) (decl ∷ decls) below =
    subst (λ y. IsKeptKnown (unwrap_or (slice_get (knowns_but gone kept (suc n) decls) k) y) y gone kept)
    (let e : suc n + k ≡ n + suc k = omega arith in e) (known_value gone kept (suc n) k decls (omega (arith, below)))
