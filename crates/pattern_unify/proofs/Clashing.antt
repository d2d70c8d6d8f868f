-- Where there is a clash no substitution makes the sides the same.
use Rattle.std.proofs.Common.{◌≡◌, ◌⊎◌, ◌+◌, ◌-◌, ◌<◌, ◌≤◌, ℕ, zero, suc, Bool, true, false, if◌then◌else◌, nat_lt, List, [], ◌∷◌, ◌++◌, length, map, reverse, Option, Some, None, MatchOption, slice_get, slice_index, unwrap_or, inl, inr, refl, ap, sym, ◌∙◌, subst, arith}
use mathlib.Core.List.{reverse_aux}
use Rattle.std.specs.List.{AllByRecursion, AllZip}
use Rattle.std.proofs.lemmas.Bool.{cases_lt}
use Rattle.std.proofs.lemmas.Bool.Decides.{nat_tests}
use Rattle.std.proofs.lemmas.List.{length-map, length-reverse, length-append}
use Rattle.binding_terms.specs.Signature.{Signature, Place}
use Rattle.binding_terms.specs.Scope.{bound}
use Rattle.scheme_terms.specs.SchemeTree.{SchemeTree, meta, known, local, con, Values, no_values, value, Parts, no_parts, part, shifted, shifted_values, shifted_parts, filled, filled_values, filled_parts, under, AreDistinctLocals}
use Rattle.scheme_terms.specs.Forms.{Names, KnownVariable, Substitution}
use Rattle.scheme_terms.specs.Context.{variables}
use Rattle.scheme_terms.specs.SchemeScope.{IsScheme, AreValues, AreSchemeParts, params_scope}
use Rattle.scheme_terms.specs.Substituting.{applied, applied_values, applied_parts, applied_entry, argument_or_local, scheme_for, known_for, LocalsBelow, ValuesBelow, PartsBelow, IsKnownValue, IsSubstitution}
use Rattle.scheme_terms.specs.declared.scheme.MetaDecl.{MetaDecl}
use Rattle.pattern_unify.specs.Patterns.{IsAmong, IsRigidIn, IsRigidInParts, IsRigidBelow, HasRigidOther, PartsHaveRigidOther, HasLocalsAmong, HaveLocalsAmong, PartsHaveLocalsAmong}
use Rattle.pattern_unify.specs.Moves.{AreOfOneProduction, IsOutOfReach, AreOtherHeads}
use Rattle.pattern_unify.specs.Measure.{scheme_size, values_size, parts_size}
use Rattle.pattern_unify.proofs.JoinFalling.{size_positive}
use Rattle.pattern_unify.proofs.Fewer.{meta_declared, meta_typed, parts_typed}

-- sizes of raised and filled schemes

mutual
  size_shifted : (cut n : ℕ) (s : SchemeTree) → scheme_size (shifted cut n s) ≡ scheme_size s
  size_shifted cut n (meta m vs) = ap suc (values_size_shifted cut n vs)
  size_shifted cut n (known k) = refl
  size_shifted cut n (local i) = refl
  size_shifted cut n (con p xs) = ap suc (parts_size_shifted cut n xs)

  values_size_shifted : (cut n : ℕ) (vs : Values) → values_size (shifted_values cut n vs) ≡ values_size vs
  values_size_shifted cut n no_values = refl
  values_size_shifted cut n (value s vs) = let a = size_shifted cut n s in let b = values_size_shifted cut n vs in omega (arith, a, b)

  parts_size_shifted : (cut n : ℕ) (xs : Parts) → parts_size (shifted_parts cut n xs) ≡ parts_size xs
  parts_size_shifted cut n no_parts = refl
  parts_size_shifted cut n (part b s xs) = let a = size_shifted (cut + b) n s in let c = parts_size_shifted cut n xs in omega (arith, a, c)

mutual
  size_grows : (f : ℕ → SchemeTree) (s : SchemeTree) → scheme_size s ≤ scheme_size (filled f s)
  size_grows f (meta m vs) = let a = values_size_grows f vs in omega (arith, a)
  size_grows f (known k) = omega arith
  size_grows f (local i) = size_positive (f i)
  size_grows f (con p xs) = let a = parts_size_grows f xs in omega (arith, a)

  values_size_grows : (f : ℕ → SchemeTree) (vs : Values) → values_size vs ≤ values_size (filled_values f vs)
  values_size_grows f no_values = omega arith
  values_size_grows f (value s vs) = let a = size_grows f s in let b = values_size_grows f vs in omega (arith, a, b)

  parts_size_grows : (f : ℕ → SchemeTree) (xs : Parts) → parts_size xs ≤ parts_size (filled_parts f xs)
  parts_size_grows f no_parts = omega arith
  parts_size_grows f (part b s xs) = let a = size_grows (under b f) s in let c = parts_size_grows f xs in omega (arith, a, c)

abbrev AreSmall : (ℕ → SchemeTree) → Type 0
AreSmall f = (i : ℕ) → scheme_size (f i) ≡ 1

under_small : (n : ℕ) (f : ℕ → SchemeTree) → AreSmall f → AreSmall (under n f)
under_small n f h i = at (nat_lt i n)
  where
    at : (b : Bool) → scheme_size (if b then local i else shifted 0 n (f (i - n))) ≡ 1
    at true = refl
    at false = size_shifted 0 n (f (i - n)) ∙ h (i - n)

mutual
  size_same : (f : ℕ → SchemeTree) → AreSmall f → (s : SchemeTree) → scheme_size (filled f s) ≡ scheme_size s
  size_same f h (meta m vs) = ap suc (values_size_same f h vs)
  size_same f h (known k) = refl
  size_same f h (local i) = h i
  size_same f h (con p xs) = ap suc (parts_size_same f h xs)

  values_size_same : (f : ℕ → SchemeTree) → AreSmall f → (vs : Values) → values_size (filled_values f vs) ≡ values_size vs
  values_size_same f h no_values = refl
  values_size_same f h (value s vs) = let a = size_same f h s in let b = values_size_same f h vs in omega (arith, a, b)

  parts_size_same : (f : ℕ → SchemeTree) → AreSmall f → (xs : Parts) → parts_size (filled_parts f xs) ≡ parts_size xs
  parts_size_same f h no_parts = refl
  parts_size_same f h (part b s xs) = let a = size_same (under b f) (under_small b f h) s in let c = parts_size_same f h xs in omega (arith, a, c)

-- the arguments of a pattern are its locals

abbrev IsLocalOf : Values → SchemeTree → Type 0
IsLocalOf vs s = (j : ℕ) × (s ≡ local j) × IsAmong j vs

more_among : (t : SchemeTree) (vs : Values) (ss : List SchemeTree) → AllByRecursion (IsLocalOf vs) ss → AllByRecursion (IsLocalOf (value t vs)) ss
more_among t vs [] h = tt
more_among t vs (s ∷ ss) h = ((h.0.0, h.0.1, inr h.0.2), more_among t vs ss h.1)

arguments_among : (ss : List SchemeTree) (ks : List ℕ) (d : ℕ) (vs : Values) → AreDistinctLocals vs → AllByRecursion (IsLocalOf vs) (applied_values ss ks d vs)
arguments_among ss ks d no_values h = tt
arguments_among ss ks d (value (local i) vs) h = ((i, refl, inl refl), more_among (local i) vs (applied_values ss ks d vs) (arguments_among ss ks d vs h.1))
arguments_among ss ks d (value (meta m us) vs) h = absurd h
arguments_among ss ks d (value (known k) vs) h = absurd h
arguments_among ss ks d (value (con p xs) vs) h = absurd h

all_reversed : (P : SchemeTree → Type 0) (ss rest : List SchemeTree) → AllByRecursion P ss → AllByRecursion P rest → AllByRecursion P (reverse_aux ss rest)
all_reversed P [] rest h k = k
all_reversed P (s ∷ ss) rest h k = all_reversed P ss (s ∷ rest) h.1 (h.0, k)

small_at : (vs : Values) (ss : List SchemeTree) (i : ℕ) → AllByRecursion (IsLocalOf vs) ss → scheme_size (unwrap_or (slice_get ss i) (local 0)) ≡ 1
small_at vs [] i h = refl
small_at vs (s ∷ ss) zero h = ap scheme_size h.0.1
small_at vs (s ∷ ss) (suc i) h = small_at vs ss i h.1

arguments_small : (d : ℕ) (vs : Values) (args : List SchemeTree) → AllByRecursion (IsLocalOf vs) args → AreSmall (argument_or_local d args)
arguments_small d vs args h i = at (nat_lt i (length args))
  where
    at : (b : Bool) → scheme_size (if b then unwrap_or (slice_get (reverse args) i) (local 0) else local (i - length args + d)) ≡ 1
    at true = small_at vs (reverse args) i (all_reversed (IsLocalOf vs) args [] h tt)
    at false = refl

pattern_size : (ss : List SchemeTree) (ks : List ℕ) (d m : ℕ) (vs : Values) → AreDistinctLocals vs →
    scheme_size (applied ss ks d (meta m vs)) ≡ scheme_size (scheme_for ss m)
pattern_size ss ks d m vs h =
    size_same (argument_or_local d (applied_values ss ks d vs)) (arguments_small d vs (applied_values ss ks d vs) (arguments_among ss ks d vs h)) (scheme_for ss m)

-- what stands rigidly below a production is smaller

mutual
  rigid_size : (ss : List SchemeTree) (ks : List ℕ) (d m : ℕ) (s : SchemeTree) → IsRigidIn m s → scheme_size (scheme_for ss m) ≤ scheme_size (applied ss ks d s)
  rigid_size ss ks d m (meta n vs) h =
      let a = size_grows (argument_or_local d (applied_values ss ks d vs)) (scheme_for ss n) in
      let b : scheme_size (scheme_for ss n) ≡ scheme_size (scheme_for ss m) = ap (λ x. scheme_size (scheme_for ss x)) h in
      omega (arith, a, b)
  rigid_size ss ks d m (known k) h = absurd h
  rigid_size ss ks d m (local i) h = absurd h
  rigid_size ss ks d m (con p xs) h = let a = rigid_parts_size ss ks d m xs h in omega (arith, a)

  rigid_parts_size : (ss : List SchemeTree) (ks : List ℕ) (d m : ℕ) (xs : Parts) → IsRigidInParts m xs → scheme_size (scheme_for ss m) ≤ parts_size (applied_parts ss ks d xs)
  rigid_parts_size ss ks d m no_parts h = absurd h
  rigid_parts_size ss ks d m (part b s xs) (inl h) = let a = rigid_size ss ks (d + b) m s h in omega (arith, a)
  rigid_parts_size ss ks d m (part b s xs) (inr h) = let a = rigid_parts_size ss ks d m xs h in omega (arith, a)

below_size : (ss : List SchemeTree) (ks : List ℕ) (d m : ℕ) (t : SchemeTree) → IsRigidBelow m t → scheme_size (scheme_for ss m) < scheme_size (applied ss ks d t)
below_size ss ks d m (meta n vs) h = absurd h
below_size ss ks d m (known k) h = absurd h
below_size ss ks d m (local i) h = absurd h
below_size ss ks d m (con p xs) h = let a = rigid_parts_size ss ks d m xs h in omega (arith, a)

-- a rigid local stays

mutual
  other_stays : (ss : List SchemeTree) (ks : List ℕ) (vs : Values) (d e : ℕ) (t : SchemeTree) → HasRigidOther vs e t → HasRigidOther vs e (applied ss ks d t)
  other_stays ss ks vs d e (meta m ws) h = absurd h
  other_stays ss ks vs d e (known k) h = absurd h
  other_stays ss ks vs d e (local i) h = h
  other_stays ss ks vs d e (con p xs) h = parts_other_stays ss ks vs d e xs h

  parts_other_stays : (ss : List SchemeTree) (ks : List ℕ) (vs : Values) (d e : ℕ) (xs : Parts) → PartsHaveRigidOther vs e xs → PartsHaveRigidOther vs e (applied_parts ss ks d xs)
  parts_other_stays ss ks vs d e no_parts h = h
  parts_other_stays ss ks vs d e (part b s xs) (inl h) = inl (other_stays ss ks vs (d + b) (e + b) s h)
  parts_other_stays ss ks vs d e (part b s xs) (inr h) = inr (parts_other_stays ss ks vs d e xs h)

mutual
  no_other : (vs : Values) (e : ℕ) (s : SchemeTree) → HasLocalsAmong vs e s → HasRigidOther vs e s → ⊥
  no_other vs e (meta m ws) among h = h
  no_other vs e (known k) among h = h
  no_other vs e (local i) (inl below) h = let above = h.0 in absurd (omega (arith, below, above))
  no_other vs e (local i) (inr among) h = h.1 among
  no_other vs e (con p xs) among h = parts_no_other vs e xs among h

  parts_no_other : (vs : Values) (e : ℕ) (xs : Parts) → PartsHaveLocalsAmong vs e xs → PartsHaveRigidOther vs e xs → ⊥
  parts_no_other vs e no_parts among h = h
  parts_no_other vs e (part b s xs) among (inl h) = no_other vs (e + b) s among.0 h
  parts_no_other vs e (part b s xs) among (inr h) = parts_no_other vs e xs among.1 h

abbrev count : {A : Type 0} → Option A → ℕ
count None = 0
count (Some x) = 1

abbrev the_decl : MetaDecl → Option MetaDecl → MetaDecl
the_decl decl found = unwrap_or found decl

-- the locals of a scheme in scope are the scope's

in_scope : (ls : List ℕ) (i c : ℕ) → slice_get ls i ≡ Some c → i < length ls
in_scope [] i c h = let e : ◌≡◌ {A = ℕ} 0 1 = ap count h in absurd (omega (arith, e))
in_scope (l ∷ ls) zero c h = omega arith
in_scope (l ∷ ls) (suc i) c h = let rest = in_scope ls i c h in omega (arith, rest)

length_bound : (bs ns ls : List ℕ) → length (bound bs ns ++ ls) ≡ length ls + length ns
length_bound bs ns ls =
    let a = length-append (bound bs ns) ls in
    let b = length-reverse (map (slice_index bs) ns) in
    let c = length-map ns (slice_index bs) in
    omega (arith, a, b, c)

mutual
  pub scheme_below : (sig : Signature) (names : Names) (ls : List ℕ) (c : ℕ) (s : SchemeTree) → IsScheme sig names ls c s → LocalsBelow (length ls) s
  scheme_below sig names ls c (meta m vs) typed =
      let found = meta_declared sig names ls c m vs typed in
      values_below sig names ls (map (λ p. p.0) found.0.params) vs (meta_typed sig names ls c m vs found.0 typed found.1)
  scheme_below sig names ls c (known k) typed = tt
  scheme_below sig names ls c (local i) typed = in_scope ls i c typed
  scheme_below sig names ls c (con p xs) typed =
      let q = parts_typed sig names ls c p xs typed in parts_below sig names ls q.0 q.1 xs q.2

  values_below : (sig : Signature) (names : Names) (ls cs : List ℕ) (vs : Values) → AreValues sig names ls cs vs → ValuesBelow (length ls) vs
  values_below sig names ls cs no_values typed = tt
  values_below sig names ls [] (value s vs) typed = absurd typed
  values_below sig names ls (c ∷ cs) (value s vs) typed = (scheme_below sig names ls c s typed.0, values_below sig names ls cs vs typed.1)

  parts_below : (sig : Signature) (names : Names) (ls bs : List ℕ) (ss : List Place) (xs : Parts) → AreSchemeParts sig names ls bs ss xs → PartsBelow (length ls) xs
  parts_below sig names ls bs ss no_parts typed = tt
  parts_below sig names ls bs [] (part b s xs) typed = absurd typed
  parts_below sig names ls bs (slot ∷ ss) (part b s xs) typed = (
    subst (λ n. LocalsBelow n s) (length_bound bs slot.binds ls ∙ ap (λ k. length ls + k) (sym typed.0))
        (scheme_below sig names (bound bs slot.binds ++ ls) slot.cat s typed.1),
    parts_below sig names ls bs ss xs typed.2,
  )

-- a value of a pattern's metavariable brings no local that is not the pattern's

abbrev AreAmong : Values → (binders count : ℕ) → (ℕ → SchemeTree) → Type 0
AreAmong vs e n f = (i : ℕ) → i < n → (j : ℕ) × (f i ≡ local j) × ((j < e) ⊎ IsAmong (j - e) vs)

under_among : (vs : Values) (e n b : ℕ) (f : ℕ → SchemeTree) → AreAmong vs e n f → AreAmong vs (e + b) (n + b) (under b f)
under_among vs e n b f h i below = elim (cases_lt i b) [
  | inl within ↦ (i, near within, inl (omega (arith, within)))
  | inr beyond ↦
      let o = h (i - b) (omega (arith, below, beyond)) in (
        o.0 + b,
        far beyond ∙ (ap (shifted 0 b) o.1 ∙ raise o.0),
        elim o.2 [
          | inl less ↦ inl (omega (arith, less))
          | inr among ↦ inr (subst (λ j. IsAmong j vs) (let q : o.0 - e ≡ o.0 + b - (e + b) = omega arith in q) among)
        ],
      )
]
  where
    near : i < b → under b f i ≡ local i
    near within = grind (arith, nat_tests)

    far : b ≤ i → under b f i ≡ shifted 0 b (f (i - b))
    far beyond = grind (arith, nat_tests)

    raise : (j : ℕ) → shifted 0 b (local j) ≡ local (j + b)
    raise j = grind (arith, nat_tests)

mutual
  filled_among : (vs : Values) (e n : ℕ) (f : ℕ → SchemeTree) → AreAmong vs e n f → (s : SchemeTree) → LocalsBelow n s → HasLocalsAmong vs e (filled f s)
  filled_among vs e n f h (meta m ws) below = filled_values_among vs e n f h ws below
  filled_among vs e n f h (known k) below = tt
  filled_among vs e n f h (local i) below = let o = h i below in subst (HasLocalsAmong vs e) (sym o.1) o.2
  filled_among vs e n f h (con p xs) below = filled_parts_among vs e n f h xs below

  filled_values_among : (vs : Values) (e n : ℕ) (f : ℕ → SchemeTree) → AreAmong vs e n f → (ws : Values) → ValuesBelow n ws → HaveLocalsAmong vs e (filled_values f ws)
  filled_values_among vs e n f h no_values below = tt
  filled_values_among vs e n f h (value s ws) below = (filled_among vs e n f h s below.0, filled_values_among vs e n f h ws below.1)

  filled_parts_among : (vs : Values) (e n : ℕ) (f : ℕ → SchemeTree) → AreAmong vs e n f → (xs : Parts) → PartsBelow n xs → PartsHaveLocalsAmong vs e (filled_parts f xs)
  filled_parts_among vs e n f h no_parts below = tt
  filled_parts_among vs e n f h (part b s xs) below =
      (filled_among vs (e + b) (n + b) (under b f) (under_among vs e n b f h) s below.0, filled_parts_among vs e n f h xs below.1)

local_at : (vs : Values) (ss : List SchemeTree) (i : ℕ) → AllByRecursion (IsLocalOf vs) ss → i < length ss → IsLocalOf vs (unwrap_or (slice_get ss i) (local 0))
local_at vs [] i h below = absurd (omega (arith, below))
local_at vs (s ∷ ss) zero h below = h.0
local_at vs (s ∷ ss) (suc i) h below = local_at vs ss i h.1 (omega (arith, below))

arguments_are_among : (d : ℕ) (vs : Values) (args : List SchemeTree) → AllByRecursion (IsLocalOf vs) args → AreAmong vs 0 (length args) (argument_or_local d args)
arguments_are_among d vs args h i below =
    let size = length-reverse args in
    let o = local_at vs (reverse args) i (all_reversed (IsLocalOf vs) args [] h tt) (omega (arith, size, below)) in
    (o.0, inside ∙ o.1, inr (subst (λ j. IsAmong j vs) (let q : o.0 ≡ o.0 - 0 = omega arith in q) o.2))
  where
    inside : argument_or_local d args i ≡ unwrap_or (slice_get (reverse args) i) (local 0)
    inside = grind (arith, nat_tests)

length_applied : (ss : List SchemeTree) (ks : List ℕ) (d : ℕ) (sig : Signature) (names : Names) (ls cs : List ℕ) (vs : Values) → AreValues sig names ls cs vs →
    length (applied_values ss ks d vs) ≡ length cs
length_applied ss ks d sig names ls [] no_values typed = refl
length_applied ss ks d sig names ls [] (value s vs) typed = absurd typed
length_applied ss ks d sig names ls (c ∷ cs) no_values typed = absurd typed
length_applied ss ks d sig names ls (c ∷ cs) (value s vs) typed = ap suc (length_applied ss ks d sig names ls cs vs typed.1)

-- a value at its place

zip_at : (P : MetaDecl → SchemeTree → Type 0) (decls : List MetaDecl) (ss : List SchemeTree) (m : ℕ) (decl : MetaDecl) → AllZip P decls ss → slice_get decls m ≡ Some decl →
    P decl (scheme_for ss m)
zip_at P [] ss m decl h at = let e : ◌≡◌ {A = ℕ} 0 1 = ap count at in absurd (omega (arith, e))
zip_at P (d ∷ decls) [] m decl h at = absurd h
zip_at P (d ∷ decls) (s ∷ ss) zero decl h at = subst (λ x. P x s) (ap (the_decl d) at) h.0
zip_at P (d ∷ decls) (s ∷ ss) (suc m) decl h at = zip_at P decls ss m decl h.1 at

known_zip_at : (P : KnownVariable → ℕ → Type 0) (decls : List KnownVariable) (ks : List ℕ) (k d : ℕ) → AllZip P decls ks → k < length decls →
    (decl : KnownVariable) × (slice_get decls k ≡ Some decl) × P decl (unwrap_or (slice_get ks k) d)
known_zip_at P [] ks k d h below = absurd (omega (arith, below))
known_zip_at P (decl ∷ decls) [] k d h below = absurd h
known_zip_at P (decl ∷ decls) (x ∷ ks) zero d h below = (decl, refl, h.0)
known_zip_at P (decl ∷ decls) (x ∷ ks) (suc k) d h below = known_zip_at P decls ks k d h.1 (omega (arith, below))

-- a pattern and a scheme that it cannot reach

out_of_reach : (sig : Signature) (names : Names) (by : Substitution) (ls : List ℕ) (c m : ℕ) (vs : Values) (t : SchemeTree) → IsSubstitution sig names by →
    IsScheme sig names ls c (meta m vs) → IsOutOfReach (meta m vs) t → applied by.metas by.knowns (length ls) (meta m vs) ≡ applied by.metas by.knowns (length ls) t → ⊥
out_of_reach sig names by ls c m vs t schemes typed h same = elim h.1 [
  | inl below ↦
      let a = pattern_size by.metas by.knowns (length ls) m vs h.0 in
      let b = below_size by.metas by.knowns (length ls) m t below in
      let e : scheme_size (applied by.metas by.knowns (length ls) (meta m vs)) ≡ scheme_size (applied by.metas by.knowns (length ls) t) = ap scheme_size same in
      absurd (omega (arith, a, b, e))
  | inr other ↦ no_other vs 0 (applied by.metas by.knowns (length ls) t) (subst (HasLocalsAmong vs 0) same among) (other_stays by.metas by.knowns vs (length ls) 0 t other)
]
  where
    among : HasLocalsAmong vs 0 (applied by.metas by.knowns (length ls) (meta m vs))
    among =
        let decl = (meta_declared sig names ls c m vs typed).0 in
        let at = (meta_declared sig names ls c m vs typed).1 in
        let args = length_applied by.metas by.knowns (length ls) sig names ls (map (λ p. p.0) decl.params) vs (meta_typed sig names ls c m vs decl typed at) in
        let scope = length-reverse (map (λ p. p.0) decl.params) in
        let below = scheme_below sig by.into (params_scope decl) decl.cat.0 (scheme_for by.metas m)
        (zip_at (λ decl s. IsScheme sig by.into (params_scope decl) decl.cat.0 s) names.metas by.metas m decl schemes.metas at) in
        filled_among vs 0 (length (applied_values by.metas by.knowns (length ls) vs)) (argument_or_local (length ls) (applied_values by.metas by.knowns (length ls) vs))
        (arguments_are_among (length ls) vs (applied_values by.metas by.knowns (length ls) vs) (arguments_among by.metas by.knowns (length ls) vs h.0))
        (scheme_for by.metas m)
        (subst (λ n. LocalsBelow n (scheme_for by.metas m)) (scope ∙ sym args) below)

-- two heads that differ

abbrev kind : SchemeTree → ℕ
kind (meta m vs) = 0
kind (known k) = 1
kind (local i) = 2
kind (con p xs) = 3

abbrev number_of : SchemeTree → ℕ
number_of (meta m vs) = m
number_of (known k) = k
number_of (local i) = i
number_of (con p xs) = p

one_production : (sig : Signature) (names : Names) (by : Substitution) (k l : ℕ) → IsSubstitution sig names by → k < length names.knowns → l < length names.knowns →
    known_for by.knowns k ≡ known_for by.knowns l → AreOfOneProduction names k l
one_production sig names by k l schemes below_k below_l same =
    let a = known_zip_at (IsKnownValue by) names.knowns by.knowns k k schemes.knowns below_k in
    let b = known_zip_at (IsKnownValue by) names.knowns by.knowns l l schemes.knowns below_l in
    let prods : a.0.entry.prod ≡ b.0.entry.prod = both a.0 b.0 (slice_get by.into.knowns (known_for by.knowns l))
    (subst (λ x. MatchOption (slice_get by.into.knowns x) ⊥ (λ other. other.entry ≡ applied_entry by 0 a.0.entry)) same a.2) b.2 in
    subst (λ o. MatchOption o ⊥ (λ x. MatchOption (slice_get names.knowns l) ⊥ (λ y. x.entry.prod ≡ y.entry.prod))) (sym a.1)
    (subst (λ o. MatchOption o ⊥ (λ y. a.0.entry.prod ≡ y.entry.prod)) (sym b.1) prods)
  where
    both : (x y : KnownVariable) (o : Option KnownVariable) → MatchOption o ⊥ (λ other. other.entry ≡ applied_entry by 0 x.entry) →
        MatchOption o ⊥ (λ other. other.entry ≡ applied_entry by 0 y.entry) → x.entry.prod ≡ y.entry.prod
    both x y None p q = absurd p
    both x y (Some other) p q = sym (ap (λ e. e.prod) p) ∙ ap (λ e. e.prod) q

pub known_below : (sig : Signature) (names : Names) (ls : List ℕ) (c k : ℕ) → IsScheme sig names ls c (known k) → k < length names.knowns
known_below sig names ls c k typed = at names.knowns k typed
  where
    at : (decls : List KnownVariable) (k : ℕ) → MatchOption (slice_get decls k) ⊥ (λ decl. variables sig decl.entry.prod ≡ c ∷ []) → k < length decls
    at [] k h = absurd h
    at (d ∷ decls) zero h = omega arith
    at (d ∷ decls) (suc k) h = let rest = at decls k h in omega (arith, rest)

other_heads : (sig : Signature) (names : Names) (by : Substitution) (ls : List ℕ) (c : ℕ) (s t : SchemeTree) → IsSubstitution sig names by → IsScheme sig names ls c s →
    IsScheme sig names ls c t → AreOtherHeads names s t → applied by.metas by.knowns (length ls) s ≡ applied by.metas by.knowns (length ls) t → ⊥
other_heads sig names by ls c (con p xs) (con q ys) schemes ts typed_t h same = h (ap number_of same)
other_heads sig names by ls c (con p xs) (local i) schemes ts typed_t h same = let e : ◌≡◌ {A = ℕ} 3 2 = ap kind same in absurd (omega (arith, e))
other_heads sig names by ls c (con p xs) (known k) schemes ts typed_t h same = let e : ◌≡◌ {A = ℕ} 3 1 = ap kind same in absurd (omega (arith, e))
other_heads sig names by ls c (con p xs) (meta m vs) schemes ts typed_t h same = h
other_heads sig names by ls c (local i) (local j) schemes ts typed_t h same = h (ap number_of same)
other_heads sig names by ls c (local i) (known k) schemes ts typed_t h same = let e : ◌≡◌ {A = ℕ} 2 1 = ap kind same in absurd (omega (arith, e))
other_heads sig names by ls c (local i) (con p xs) schemes ts typed_t h same = h
other_heads sig names by ls c (local i) (meta m vs) schemes ts typed_t h same = h
other_heads sig names by ls c (known k) (known l) schemes ts typed_t h same =
    h.1 (one_production sig names by k l schemes (known_below sig names ls c k ts) (known_below sig names ls c l typed_t) (ap number_of same))
other_heads sig names by ls c (known k) (local i) schemes ts typed_t h same = h
other_heads sig names by ls c (known k) (con p xs) schemes ts typed_t h same = h
other_heads sig names by ls c (known k) (meta m vs) schemes ts typed_t h same = h
other_heads sig names by ls c (meta m vs) t schemes ts typed_t h same = h

-- no substitution makes two schemes the same to which the row of clashes applies
pub clash_has_no_substitution : (sig : Signature) (names : Names) (by : Substitution) (ls : List ℕ) (c : ℕ) (s t : SchemeTree) → IsSubstitution sig names by →
    IsScheme sig names ls c s → IsScheme sig names ls c t → AreOtherHeads names s t ⊎ IsOutOfReach s t →
    applied by.metas by.knowns (length ls) s ≡ applied by.metas by.knowns (length ls) t → ⊥
clash_has_no_substitution sig names by ls c s t schemes ts typed_t (inl h) same = other_heads sig names by ls c s t schemes ts typed_t h same
clash_has_no_substitution sig names by ls c (meta m vs) t schemes ts typed_t (inr h) same = out_of_reach sig names by ls c m vs t schemes ts h same
clash_has_no_substitution sig names by ls c (known k) t schemes ts typed_t (inr h) same = h
clash_has_no_substitution sig names by ls c (local i) t schemes ts typed_t (inr h) same = h
clash_has_no_substitution sig names by ls c (con p xs) t schemes ts typed_t (inr h) same = h
