-- Where there is a clash no ground instance makes the sides the same, and so there is no common instance.
use Rattle.std.proofs.Common.{◌≡◌, ◌⊎◌, ◌+◌, ◌-◌, ◌<◌, ◌≤◌, ℕ, zero, suc, Bool, true, false, if◌then◌else◌, nat_lt, List, [], ◌∷◌, ◌++◌, length, reverse, Option, Some, None, MatchOption, slice_get, unwrap_or, inl, inr, refl, ap, sym, ◌∙◌, subst, arith}
use mathlib.Core.List.{reverse_aux}
use Rattle.std.specs.List.{AllByRecursion, AllZip}
use Rattle.std.proofs.lemmas.Bool.{cases_lt}
use Rattle.std.proofs.lemmas.Bool.Decides.{nat_tests}
use Rattle.std.proofs.lemmas.List.{length-reverse}
use Rattle.binding_terms.specs.Tree as terms
use Rattle.binding_terms.specs.Tree.{Tree, nodes, arg_nodes}
use Rattle.binding_terms.specs.Substitution as fillings
use Rattle.binding_terms.specs.Signature.{Signature}
use Rattle.scheme_terms.specs.SchemeTree.{SchemeTree, meta, known, local, con, Values, no_values, value, Parts, no_parts, part, AreDistinctLocals}
use Rattle.scheme_terms.specs.Forms.{Names, KnownVariable, Substitution, Instance, GroundEntry}
use Rattle.scheme_terms.specs.SchemeScope.{IsScheme}
use Rattle.scheme_terms.specs.Substituting.{LocalsBelow, PartsBelow}
use Rattle.scheme_terms.specs.Instance.{instance_of, instances_of, parts_instance, argument_or_root, value_of, place_of, root_variable, IsKnownPlace, IsEntryOf, FitsScope}
use Rattle.pattern_unify.specs.Equations.{SchemeEquation, AreSides}
use Rattle.pattern_unify.specs.CommonInstance.{MakesEqual, IsSameInstance, IsCommonInstance}
use Rattle.pattern_unify.specs.Patterns.{IsAmong, IsRigidIn, IsRigidInParts, IsRigidBelow, HasRigidOther, PartsHaveRigidOther}
use Rattle.pattern_unify.specs.State.{State, names_of}
use Rattle.pattern_unify.specs.Moves.{Row, clash, Direction, left_first, right_first, AreOfOneProduction, IsOutOfReach, AreOtherHeads, Applies}
use Rattle.pattern_unify.specs.Move.{Next, goes_on, has_none, Move, deletes, decomposes, clashes, joins, meets, prunes, binds}
use Rattle.pattern_unify.specs.Laws.{ClashHasNone}
use Rattle.pattern_unify.proofs.Clashing.{clash_has_no_substitution, scheme_below, known_below}
use Rattle.binding_terms.proofs.Lists.{all_middle}

-- sizes of raised and filled terms

mutual
  nodes_shifted : (cut by : ℕ) (t : Tree) → nodes (terms.shifted cut by t) ≡ nodes t
  nodes_shifted cut by (terms.var i) = refl
  nodes_shifted cut by (terms.con p xs) = ap (λ n. n + 1) (arg_nodes_shifted cut by xs)

  arg_nodes_shifted : (cut by : ℕ) (xs : terms.Args) → arg_nodes (terms.shifted_args cut by xs) ≡ arg_nodes xs
  arg_nodes_shifted cut by terms.no_args = refl
  arg_nodes_shifted cut by (terms.arg n t xs) = let a = nodes_shifted (cut + n) by t in let b = arg_nodes_shifted cut by xs in omega (arith, a, b)

nodes_positive : (t : Tree) → 1 ≤ nodes t
nodes_positive (terms.var i) = omega arith
nodes_positive (terms.con p xs) = omega arith

mutual
  nodes_grow : (f : ℕ → Tree) (t : Tree) → nodes t ≤ nodes (fillings.filled f t)
  nodes_grow f (terms.var i) = nodes_positive (f i)
  nodes_grow f (terms.con p xs) = let a = arg_nodes_grow f xs in omega (arith, a)

  arg_nodes_grow : (f : ℕ → Tree) (xs : terms.Args) → arg_nodes xs ≤ arg_nodes (fillings.filled_args f xs)
  arg_nodes_grow f terms.no_args = omega arith
  arg_nodes_grow f (terms.arg n t xs) = let a = nodes_grow (fillings.under n f) t in let b = arg_nodes_grow f xs in omega (arith, a, b)

abbrev AreSmall : (ℕ → Tree) → Type 0
AreSmall f = (i : ℕ) → nodes (f i) ≡ 1

under_small : (n : ℕ) (f : ℕ → Tree) → AreSmall f → AreSmall (fillings.under n f)
under_small n f h i = at (nat_lt i n)
  where
    at : (b : Bool) → nodes (if b then terms.var i else terms.shifted 0 n (f (i - n))) ≡ 1
    at true = refl
    at false = nodes_shifted 0 n (f (i - n)) ∙ h (i - n)

mutual
  nodes_same : (f : ℕ → Tree) → AreSmall f → (t : Tree) → nodes (fillings.filled f t) ≡ nodes t
  nodes_same f h (terms.var i) = h i
  nodes_same f h (terms.con p xs) = ap (λ n. n + 1) (arg_nodes_same f h xs)

  arg_nodes_same : (f : ℕ → Tree) → AreSmall f → (xs : terms.Args) → arg_nodes (fillings.filled_args f xs) ≡ arg_nodes xs
  arg_nodes_same f h terms.no_args = refl
  arg_nodes_same f h (terms.arg n t xs) =
      let a = nodes_same (fillings.under n f) (under_small n f h) t in let b = arg_nodes_same f h xs in omega (arith, a, b)

-- each variable of the term, below so many binders, is bound there, among the pattern's, or one of the root's, which stand outside so many locals
abbrev IsVariableAmong : Values → (locals binders : ℕ) → ℕ → Type 0
IsVariableAmong vs d e i = (i < e) ⊎ (IsAmong (i - e) vs ⊎ (d ≤ i - e))

abbrev mutual
  TreeAmong : Values → (locals binders : ℕ) → Tree → Type 0
  TreeAmong vs d e (terms.var i) = IsVariableAmong vs d e i
  TreeAmong vs d e (terms.con p xs) = ArgsAmong vs d e xs

  ArgsAmong : Values → (locals binders : ℕ) → terms.Args → Type 0
  ArgsAmong vs d e terms.no_args = Unit {0}
  ArgsAmong vs d e (terms.arg n t xs) = TreeAmong vs d (e + n) t × ArgsAmong vs d e xs

-- one of its variables is none of these
abbrev mutual
  TreeOther : Values → (locals binders : ℕ) → Tree → Type 0
  TreeOther vs d e (terms.var i) = (e ≤ i) × (i - e < d) × (IsAmong (i - e) vs → ⊥)
  TreeOther vs d e (terms.con p xs) = ArgsOther vs d e xs

  ArgsOther : Values → (locals binders : ℕ) → terms.Args → Type 0
  ArgsOther vs d e terms.no_args = ⊥
  ArgsOther vs d e (terms.arg n t xs) = TreeOther vs d (e + n) t ⊎ ArgsOther vs d e xs

mutual
  no_other : (vs : Values) (d e : ℕ) (t : Tree) → TreeAmong vs d e t → TreeOther vs d e t → ⊥
  no_other vs d e (terms.var i) (inl below) h = let a = h.0 in absurd (omega (arith, below, a))
  no_other vs d e (terms.var i) (inr (inl among)) h = h.2 among
  no_other vs d e (terms.var i) (inr (inr far)) h = let a = h.1 in absurd (omega (arith, far, a))
  no_other vs d e (terms.con p xs) among h = args_no_other vs d e xs among h

  args_no_other : (vs : Values) (d e : ℕ) (xs : terms.Args) → ArgsAmong vs d e xs → ArgsOther vs d e xs → ⊥
  args_no_other vs d e terms.no_args among h = h
  args_no_other vs d e (terms.arg n t xs) among (inl h) = no_other vs d (e + n) t among.0 h
  args_no_other vs d e (terms.arg n t xs) among (inr h) = args_no_other vs d e xs among.1 h

mutual
  other_stays : (inst : Instance) (vs : Values) (n d e : ℕ) (s : SchemeTree) → LocalsBelow (d + e) s → HasRigidOther vs e s → TreeOther vs d e (instance_of inst n s)
  other_stays inst vs n d e (meta m ws) below h = absurd h
  other_stays inst vs n d e (known k) below h = absurd h
  other_stays inst vs n d e (local i) below h = let a = h.0 in (h.0, omega (arith, a, below), h.1)
  other_stays inst vs n d e (con p xs) below h = parts_other_stay inst vs n d e xs below h

  parts_other_stay : (inst : Instance) (vs : Values) (n d e : ℕ) (xs : Parts) → PartsBelow (d + e) xs → PartsHaveRigidOther vs e xs → ArgsOther vs d e (parts_instance inst n xs)
  parts_other_stay inst vs n d e no_parts below h = h
  parts_other_stay inst vs n d e (part b s xs) below (inl h) =
      inl (other_stays inst vs (n + b) d (e + b) s (subst (λ k. LocalsBelow k s) (let q : d + e + b ≡ d + (e + b) = omega arith in q) below.0) h)
  parts_other_stay inst vs n d e (part b s xs) below (inr h) = inr (parts_other_stay inst vs n d e xs below.1 h)

-- what stands for the variables of a value

abbrev AreAmong : Values → (locals binders : ℕ) → (ℕ → Tree) → Type 0
AreAmong vs d e f = (i : ℕ) → (j : ℕ) × (f i ≡ terms.var j) × IsVariableAmong vs d e j

raised_among : (vs : Values) (d e b j : ℕ) → IsVariableAmong vs d e j → IsVariableAmong vs d (e + b) (j + b)
raised_among vs d e b j (inl below) = inl (omega (arith, below))
raised_among vs d e b j (inr (inl among)) = inr (inl (subst (λ k. IsAmong k vs) (let q : j - e ≡ j + b - (e + b) = omega arith in q) among))
raised_among vs d e b j (inr (inr far)) = inr (inr (omega (arith, far)))

under_among : (vs : Values) (d e b : ℕ) (f : ℕ → Tree) → AreAmong vs d e f → AreAmong vs d (e + b) (fillings.under b f)
under_among vs d e b f h i = elim (cases_lt i b) [
  | inl within ↦ (i, near within, inl (omega (arith, within)))
  | inr beyond ↦ let o = h (i - b) in (o.0 + b, far beyond ∙ (ap (terms.shifted 0 b) o.1 ∙ raise o.0), raised_among vs d e b o.0 o.2)
]
  where
    near : i < b → fillings.under b f i ≡ terms.var i
    near within = grind (arith, nat_tests)

    far : b ≤ i → fillings.under b f i ≡ terms.shifted 0 b (f (i - b))
    far beyond = grind (arith, nat_tests)

    raise : (j : ℕ) → terms.shifted 0 b (terms.var j) ≡ terms.var (j + b)
    raise j = grind (arith, nat_tests)

mutual
  filled_among : (vs : Values) (d e : ℕ) (f : ℕ → Tree) → AreAmong vs d e f → (t : Tree) → TreeAmong vs d e (fillings.filled f t)
  filled_among vs d e f h (terms.var i) = let o = h i in subst (TreeAmong vs d e) (sym o.1) o.2
  filled_among vs d e f h (terms.con p xs) = filled_args_among vs d e f h xs

  filled_args_among : (vs : Values) (d e : ℕ) (f : ℕ → Tree) → AreAmong vs d e f → (xs : terms.Args) → ArgsAmong vs d e (fillings.filled_args f xs)
  filled_args_among vs d e f h terms.no_args = tt
  filled_args_among vs d e f h (terms.arg n t xs) =
      (filled_among vs d (e + n) (fillings.under n f) (under_among vs d e n f h) t, filled_args_among vs d e f h xs)

-- the arguments of a pattern are its locals' variables

abbrev IsVariableOf : Values → Tree → Type 0
IsVariableOf vs t = (j : ℕ) × (t ≡ terms.var j) × IsAmong j vs

more_among : (s : SchemeTree) (vs : Values) (ts : List Tree) → AllByRecursion (IsVariableOf vs) ts → AllByRecursion (IsVariableOf (value s vs)) ts
more_among s vs [] h = tt
more_among s vs (t ∷ ts) h = ((h.0.0, h.0.1, inr h.0.2), more_among s vs ts h.1)

arguments_among : (inst : Instance) (d : ℕ) (vs : Values) → AreDistinctLocals vs → AllByRecursion (IsVariableOf vs) (instances_of inst d vs)
arguments_among inst d no_values h = tt
arguments_among inst d (value (local i) vs) h = ((i, refl, inl refl), more_among (local i) vs (instances_of inst d vs) (arguments_among inst d vs h.1))
arguments_among inst d (value (meta m us) vs) h = absurd h
arguments_among inst d (value (known k) vs) h = absurd h
arguments_among inst d (value (con p xs) vs) h = absurd h

all_reversed : (P : Tree → Type 0) (ts rest : List Tree) → AllByRecursion P ts → AllByRecursion P rest → AllByRecursion P (reverse_aux ts rest)
all_reversed P [] rest h k = k
all_reversed P (t ∷ ts) rest h k = all_reversed P ts (t ∷ rest) h.1 (h.0, k)

variable_at : (vs : Values) (ts : List Tree) (i : ℕ) → AllByRecursion (IsVariableOf vs) ts → i < length ts → IsVariableOf vs (unwrap_or (slice_get ts i) (terms.var 0))
variable_at vs [] i h below = absurd (omega (arith, below))
variable_at vs (t ∷ ts) zero h below = h.0
variable_at vs (t ∷ ts) (suc i) h below = variable_at vs ts i h.1 (omega (arith, below))

pattern_variables : (d : ℕ) (vs : Values) (ts : List Tree) → AllByRecursion (IsVariableOf vs) ts → AreAmong vs d 0 (argument_or_root d ts)
pattern_variables d vs ts h i = elim (cases_lt i (length ts)) [
  | inl within ↦
      let size = length-reverse ts in
      let o = variable_at vs (reverse ts) i (all_reversed (IsVariableOf vs) ts [] h tt) (omega (arith, size, within)) in
      (o.0, near within ∙ o.1, inr (inl (subst (λ j. IsAmong j vs) (let q : o.0 ≡ o.0 - 0 = omega arith in q) o.2)))
  | inr beyond ↦ (i - length ts + d, far beyond, inr (inr (omega arith)))
]
  where
    near : i < length ts → argument_or_root d ts i ≡ unwrap_or (slice_get (reverse ts) i) (terms.var 0)
    near within = grind (arith, nat_tests)

    far : length ts ≤ i → argument_or_root d ts i ≡ terms.var (i - length ts + d)
    far beyond = grind (arith, nat_tests)

pattern_small : (d : ℕ) (vs : Values) (ts : List Tree) → AllByRecursion (IsVariableOf vs) ts → AreSmall (argument_or_root d ts)
pattern_small d vs ts h i = ap nodes (pattern_variables d vs ts h i).1

-- what stands rigidly below a production is smaller

mutual
  rigid_size : (inst : Instance) (d m : ℕ) (s : SchemeTree) → IsRigidIn m s → nodes (value_of inst m) ≤ nodes (instance_of inst d s)
  rigid_size inst d m (meta n vs) h =
      let a = nodes_grow (argument_or_root d (instances_of inst d vs)) (value_of inst n) in
      let b : nodes (value_of inst n) ≡ nodes (value_of inst m) = ap (λ x. nodes (value_of inst x)) h in
      omega (arith, a, b)
  rigid_size inst d m (known k) h = absurd h
  rigid_size inst d m (local i) h = absurd h
  rigid_size inst d m (con p xs) h = let a = rigid_parts_size inst d m xs h in omega (arith, a)

  rigid_parts_size : (inst : Instance) (d m : ℕ) (xs : Parts) → IsRigidInParts m xs → nodes (value_of inst m) ≤ arg_nodes (parts_instance inst d xs)
  rigid_parts_size inst d m no_parts h = absurd h
  rigid_parts_size inst d m (part b s xs) (inl h) = let a = rigid_size inst (d + b) m s h in omega (arith, a)
  rigid_parts_size inst d m (part b s xs) (inr h) = let a = rigid_parts_size inst d m xs h in omega (arith, a)

below_size : (inst : Instance) (d m : ℕ) (t : SchemeTree) → IsRigidBelow m t → nodes (value_of inst m) < nodes (instance_of inst d t)
below_size inst d m (meta n vs) h = absurd h
below_size inst d m (known k) h = absurd h
below_size inst d m (local i) h = absurd h
below_size inst d m (con p xs) h = let a = rigid_parts_size inst d m xs h in omega (arith, a)

out_of_reach : (sig : Signature) (names : Names) (inst : Instance) (ls : List ℕ) (c m : ℕ) (vs : Values) (t : SchemeTree) → IsScheme sig names ls c t →
    IsOutOfReach (meta m vs) t → instance_of inst (length ls) (meta m vs) ≡ instance_of inst (length ls) t → ⊥
out_of_reach sig names inst ls c m vs t typed h same = elim h.1 [
  | inl below ↦
      let a = nodes_same (argument_or_root (length ls) (instances_of inst (length ls) vs))
      (pattern_small (length ls) vs (instances_of inst (length ls) vs) (arguments_among inst (length ls) vs h.0)) (value_of inst m) in
      let b = below_size inst (length ls) m t below in
      let e : nodes (instance_of inst (length ls) (meta m vs)) ≡ nodes (instance_of inst (length ls) t) = ap nodes same in
      absurd (omega (arith, a, b, e))
  | inr other ↦ no_other vs (length ls) 0 (instance_of inst (length ls) t)
      (subst (TreeAmong vs (length ls) 0) same
      (filled_among vs (length ls) 0 (argument_or_root (length ls) (instances_of inst (length ls) vs))
      (pattern_variables (length ls) vs (instances_of inst (length ls) vs) (arguments_among inst (length ls) vs h.0)) (value_of inst m)))
      (other_stays inst vs (length ls) (length ls) 0 t (subst (λ k. LocalsBelow k t) (let q : length ls ≡ length ls + 0 = omega arith in q) (scheme_below sig names ls c t typed)) other)
]

-- two heads that differ

abbrev tree_kind : Tree → ℕ
tree_kind (terms.var i) = 0
tree_kind (terms.con p xs) = 1

abbrev tree_number : Tree → ℕ
tree_number (terms.var i) = i
tree_number (terms.con p xs) = p

abbrev count : {A : Type 0} → Option A → ℕ
count None = 0
count (Some x) = 1

-- a known variable has a place of the root whose entry is of its production
record HasPlace (names : Names) (inst : Instance) (k : ℕ) : Type 0 where
  decl : KnownVariable
  declared : slice_get names.knowns k ≡ Some decl
  e : GroundEntry
  entry_at : slice_get inst.root.entries (place_of inst k) ≡ Some e
  prod : e.prod ≡ decl.entry.prod

place_at : (inst : Instance) (decls : List KnownVariable) (places : List (Option ℕ)) (k : ℕ) → AllZip (IsKnownPlace inst) decls places → k < length decls →
    (decl : KnownVariable) × (slice_get decls k ≡ Some decl) × IsKnownPlace inst decl (unwrap_or (slice_get places k) None)
place_at inst [] places k h below = absurd (omega (arith, below))
place_at inst (decl ∷ decls) [] k h below = absurd h
place_at inst (decl ∷ decls) (p ∷ places) zero h below = (decl, refl, h.0)
place_at inst (decl ∷ decls) (p ∷ places) (suc k) h below = place_at inst decls places k h.1 (omega (arith, below))

has_place : (sig : Signature) (names : Names) (inst : Instance) (k : ℕ) → FitsScope sig names inst → k < length names.knowns → HasPlace names inst k
has_place sig names inst k fits below =
    let found = place_at inst names.knowns inst.knowns k fits.knowns below in
    at found.0 found.1 (unwrap_or (slice_get inst.knowns k) None) refl found.2
  where
    entry_of : (decl : KnownVariable) → slice_get names.knowns k ≡ Some decl → (p : ℕ) → p ≡ place_of inst k → (o : Option GroundEntry) → slice_get inst.root.entries p ≡ o →
        MatchOption o ⊥ (IsEntryOf inst p decl.entry) → HasPlace names inst k
    entry_of decl declared p same None e h = absurd h
    entry_of decl declared p same (Some g) e h =
        record { decl = decl; declared = declared; e = g; entry_at = ap (slice_get inst.root.entries) (sym same) ∙ e; prod = h.0 }

    at : (decl : KnownVariable) → slice_get names.knowns k ≡ Some decl → (o : Option ℕ) → unwrap_or (slice_get inst.knowns k) None ≡ o → IsKnownPlace inst decl o →
        HasPlace names inst k
    at decl declared None e h = absurd h
    at decl declared (Some p) e h = entry_of decl declared p (ap (λ o. unwrap_or o 0) (sym e)) (slice_get inst.root.entries p) refl h

entry_below : (es : List GroundEntry) (p : ℕ) (e : GroundEntry) → slice_get es p ≡ Some e → p < length es
entry_below [] p e h = let q : ◌≡◌ {A = ℕ} 0 1 = ap count h in absurd (omega (arith, q))
entry_below (x ∷ es) zero e h = omega arith
entry_below (x ∷ es) (suc p) e h = let rest = entry_below es p e h in omega (arith, rest)

abbrev the_entry : GroundEntry → Option GroundEntry → GroundEntry
the_entry e found = unwrap_or found e

one_production : (sig : Signature) (names : Names) (inst : Instance) (d k l : ℕ) → FitsScope sig names inst → k < length names.knowns → l < length names.knowns →
    root_variable inst d (place_of inst k) ≡ root_variable inst d (place_of inst l) → AreOfOneProduction names k l
one_production sig names inst d k l fits below_k below_l same =
    let a = has_place sig names inst k fits below_k in
    let b = has_place sig names inst l fits below_l in
    let pa = entry_below inst.root.entries (place_of inst k) a.e a.entry_at in
    let pb = entry_below inst.root.entries (place_of inst l) b.e b.entry_at in
    let index : length inst.root.entries - suc (place_of inst k) + d ≡ length inst.root.entries - suc (place_of inst l) + d = ap tree_number same in
    let places : place_of inst k ≡ place_of inst l = omega (arith, pa, pb, index) in
    let entries : a.e ≡ b.e = ap (the_entry a.e) (sym a.entry_at ∙ (ap (slice_get inst.root.entries) places ∙ b.entry_at)) in
    let prods : a.decl.entry.prod ≡ b.decl.entry.prod = sym a.prod ∙ (ap (λ e. e.prod) entries ∙ b.prod) in
    subst (λ o. MatchOption o ⊥ (λ x. MatchOption (slice_get names.knowns l) ⊥ (λ y. x.entry.prod ≡ y.entry.prod))) (sym a.declared)
    (subst (λ o. MatchOption o ⊥ (λ y. a.decl.entry.prod ≡ y.entry.prod)) (sym b.declared) prods)

other_heads : (sig : Signature) (names : Names) (inst : Instance) (ls : List ℕ) (c : ℕ) (s t : SchemeTree) → FitsScope sig names inst → IsScheme sig names ls c s →
    IsScheme sig names ls c t → AreOtherHeads names s t → instance_of inst (length ls) s ≡ instance_of inst (length ls) t → ⊥
other_heads sig names inst ls c (con p xs) (con q ys) fits typed_s typed_t h same = h (ap tree_number same)
other_heads sig names inst ls c (con p xs) (local i) fits typed_s typed_t h same = let e : ◌≡◌ {A = ℕ} 1 0 = ap tree_kind same in absurd (omega (arith, e))
other_heads sig names inst ls c (con p xs) (known k) fits typed_s typed_t h same = let e : ◌≡◌ {A = ℕ} 1 0 = ap tree_kind same in absurd (omega (arith, e))
other_heads sig names inst ls c (con p xs) (meta m vs) fits typed_s typed_t h same = h
other_heads sig names inst ls c (local i) (local j) fits typed_s typed_t h same = h (ap tree_number same)
other_heads sig names inst ls c (local i) (known k) fits typed_s typed_t h same =
    let below = scheme_below sig names ls c (local i) typed_s in
    let index : i ≡ length inst.root.entries - suc (place_of inst k) + length ls = ap tree_number same in
    absurd (omega (arith, below, index))
other_heads sig names inst ls c (local i) (con p xs) fits typed_s typed_t h same = h
other_heads sig names inst ls c (local i) (meta m vs) fits typed_s typed_t h same = h
other_heads sig names inst ls c (known k) (known l) fits typed_s typed_t h same =
    h.1 (one_production sig names inst (length ls) k l fits (known_below sig names ls c k typed_s) (known_below sig names ls c l typed_t) same)
other_heads sig names inst ls c (known k) (local i) fits typed_s typed_t h same = h
other_heads sig names inst ls c (known k) (con p xs) fits typed_s typed_t h same = h
other_heads sig names inst ls c (known k) (meta m vs) fits typed_s typed_t h same = h
other_heads sig names inst ls c (meta m vs) t fits typed_s typed_t h same = h

pub clash_has_no_ground_instance : (sig : Signature) (names : Names) (inst : Instance) (ls : List ℕ) (c : ℕ) (s t : SchemeTree) → FitsScope sig names inst →
    IsScheme sig names ls c s → IsScheme sig names ls c t → AreOtherHeads names s t ⊎ IsOutOfReach s t →
    instance_of inst (length ls) s ≡ instance_of inst (length ls) t → ⊥
clash_has_no_ground_instance sig names inst ls c s t fits typed_s typed_t (inl h) same = other_heads sig names inst ls c s t fits typed_s typed_t h same
clash_has_no_ground_instance sig names inst ls c (meta m vs) t fits typed_s typed_t (inr h) same = out_of_reach sig names inst ls c m vs t typed_t h same
clash_has_no_ground_instance sig names inst ls c (known k) t fits typed_s typed_t (inr h) same = h
clash_has_no_ground_instance sig names inst ls c (local i) t fits typed_s typed_t (inr h) same = h
clash_has_no_ground_instance sig names inst ls c (con p xs) t fits typed_s typed_t (inr h) same = h

-- a clash has no common instance

all_between : (P : SchemeEquation → Type 0) (before : List SchemeEquation) (e : SchemeEquation) (rest : List SchemeEquation) → AllByRecursion P (before ++ e ∷ rest) → P e
all_between P [] e rest h = h.0
all_between P (b ∷ before) e rest h = all_between P before e rest h.1

abbrev goes : Next → ℕ
goes (goes_on next) = 1
goes has_none = 0

clashing : (sig : Signature) (st : State) (before : List SchemeEquation) (e : SchemeEquation) (rest : List SchemeEquation) (direction : Direction) (row : Row) →
    Move sig st before e rest direction has_none row → Applies (names_of st) clash direction e
clashing sig st before e rest direction row (deletes a h) = absurd (omega (arith, ap goes h))
clashing sig st before e rest direction row (decomposes p xs ys l r h) = absurd (omega (arith, ap goes h))
clashing sig st before e rest direction row (clashes a h) = a
clashing sig st before e rest direction row (joins low high less k a h) = absurd (omega (arith, ap goes h))
clashing sig st before e rest direction row (meets m vs ws decl l r declared a h) = absurd (omega (arith, ap goes h))
clashing sig st before e rest direction row (prunes m n vs keeps decl l a found declared h) = absurd (omega (arith, ap goes h))
clashing sig st before e rest direction row (binds m vs l a h) = absurd (omega (arith, ap goes h))

no_substitution : (sig : Signature) (names : Names) (direction : Direction) (e : SchemeEquation) → AreSides sig names e → Applies names clash direction e → (by : Substitution) →
    IsCommonInstance sig names (e ∷ []) by → ⊥
no_substitution sig names left_first e typed h by common =
    clash_has_no_substitution sig names by e.locals typed.0 e.left e.right common.schemes typed.1 typed.2 h common.equal.0
no_substitution sig names right_first e typed h by common =
    clash_has_no_substitution sig names by e.locals typed.0 e.right e.left common.schemes typed.2 typed.1 h (sym common.equal.0)

no_ground_instance : (sig : Signature) (names : Names) (direction : Direction) (e : SchemeEquation) → AreSides sig names e → Applies names clash direction e → (inst : Instance) →
    FitsScope sig names inst → IsSameInstance inst e → ⊥
no_ground_instance sig names left_first e typed h inst fits same =
    clash_has_no_ground_instance sig names inst e.locals typed.0 e.left e.right fits typed.1 typed.2 h same
no_ground_instance sig names right_first e typed h inst fits same =
    clash_has_no_ground_instance sig names inst e.locals typed.0 e.right e.left fits typed.2 typed.1 h (sym same)

pub clash_has_none : ClashHasNone
clash_has_none sig names st fits state turn common =
    let typed = all_middle (AreSides sig (names_of st)) turn.before turn.rest turn.e (subst (AllByRecursion (AreSides sig (names_of st))) turn.at state.sides) in
    let clash_here = clashing sig st turn.before turn.e turn.rest turn.direction turn.row turn.moves in
    elim common [
      | inl k ↦ no_substitution sig (names_of st) turn.direction turn.e typed clash_here k.0
          (record {
            scope = k.1.scope;
            schemes = k.1.schemes;
            equal = (all_between (MakesEqual k.0.metas k.0.knowns) turn.before turn.e turn.rest (subst (AllByRecursion (MakesEqual k.0.metas k.0.knowns)) turn.at k.1.equal), tt);
          })
      | inr k ↦ no_ground_instance sig (names_of st) turn.direction turn.e typed clash_here k.0 k.1.scope
          (all_between (IsSameInstance k.0) turn.before turn.e turn.rest (subst (AllByRecursion (IsSameInstance k.0)) turn.at k.1.equal))
    ]
