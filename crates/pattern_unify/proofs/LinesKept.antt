-- Each name that stands somewhere in a state has a line: a value that the run has found with a strict occurrence of it.
use Rattle.std.proofs.Common.{◌≡◌, ◌⊎◌, inl, inr, ℕ, zero, suc, ◌+◌, Bool, true, false, ◌==◌, if◌then◌else◌, List, [], ◌∷◌, ◌++◌, length, map, Some, slice_get, refl, ap, sym, ◌∙◌, subst, arith}
use Rattle.std.specs.List.{AllByRecursion, AllZip}
use Rattle.binding_terms.specs.Numbered.{AnyByRecursion}
use Rattle.binding_terms.specs.Signature.{Signature}
use Rattle.binding_terms.proofs.Lists.{any_split, any_front, any_back, match_some}
use Rattle.scheme_terms.specs.SchemeTree.{SchemeTree, meta, known, local, con, Values, no_values, value, values, listed, Parts, no_parts, part, OccursIn, OccursInValues, OccursInParts, KnownIn, KnownInValues, KnownInParts, StrictIn, StrictInParts}
use Rattle.scheme_terms.specs.Forms.{Names, KnownVariable}
use Rattle.scheme_terms.specs.SchemeScope.{params_scope}
use Rattle.scheme_terms.specs.Substituting.{scheme_for, known_for, argument_or_local, applied, applied_values, applied_parts, params, parameters, IsSaturated, PartsAreSaturated}
use Rattle.scheme_terms.specs.declared.scheme.MetaDecl.{MetaDecl}
use Rattle.scheme_terms.proofs.SchemeFacts.{scheme_saturated}
use Rattle.pattern_unify.specs.Equations.{SchemeEquation}
use Rattle.pattern_unify.specs.State.{State, Step, names_of, after_step, with_equations, applied_equation, applied_known, metas_but}
use Rattle.pattern_unify.specs.Measure.{sides, entry_schemes, schemes_of}
use Rattle.pattern_unify.specs.Laws.{IsState}
use Rattle.pattern_unify.proofs.Standing.{StandsIn, ComesFrom, in_first, in_second, in_either, from_mapped, from_step}
use Rattle.pattern_unify.proofs.Falling.{IsKeptOrPut, from_but}
use Rattle.pattern_unify.proofs.JoinFalling.{KnownStandsIn, known_filled, known_in_arguments, any_replaced}
use Rattle.pattern_unify.proofs.MovedNames.{meta_but_other, metas_but_there, all_marked, all_kept}
use Rattle.pattern_unify.proofs.SubstitutionMoves.{value_is}
use Rattle.pattern_unify.proofs.TypedSuits.{IsTyped}
use Rattle.pattern_unify.proofs.StrictKept.{strict_kept_in}

-- what the run has found, the sides of the equations, and the arguments of entries
abbrev pub all_schemes : State → List SchemeTree
all_schemes st = st.so_far.metas ++ schemes_of st

pub record HasLines (st : State) : Type 0 where
  pub metas : (n : ℕ) → StandsIn n (all_schemes st) → AnyByRecursion (StrictIn n) st.so_far.metas
  pub knowns : (k : ℕ) → KnownStandsIn k (all_schemes st) → AnyByRecursion (λ j. j ≡ k) st.so_far.knowns

-- where a metavariable that stands after a step comes from
from_all : (step : Step) (st : State) (x : ℕ) → StandsIn x (all_schemes (after_step step st)) → ComesFrom step.metas x (λ y. StandsIn y (all_schemes st))
from_all step st x h = elim (in_either x (map (applied step.metas step.knowns 0) st.so_far.metas) (schemes_of (after_step step st)) h) [
  | inl k ↦ let o = from_mapped step.metas step.knowns x st.so_far.metas k in (o.0, in_first o.0 st.so_far.metas (schemes_of st) o.1, o.2)
  | inr k ↦ let o = from_step step st x k in (o.0, in_second o.0 st.so_far.metas (schemes_of st) o.1, o.2)
]

-- where a known variable comes from: it became of one that stood there, or it stands in what is put in for a metavariable that stood there
abbrev KnownComes : List SchemeTree → List ℕ → (x : ℕ) → (ℕ → Type 0) → (ℕ → Type 0) → Type 0
KnownComes ss ks x Known Meta = ((y : ℕ) × Known y × (known_for ks y ≡ x)) ⊎ ((y : ℕ) × Meta y × KnownIn x (scheme_for ss y))

widened : (ss : List SchemeTree) (ks : List ℕ) (x : ℕ) (K M L N : ℕ → Type 0) → ((y : ℕ) → K y → L y) → ((y : ℕ) → M y → N y) → KnownComes ss ks x K M → KnownComes ss ks x L N
widened ss ks x K M L N f g (inl o) = inl (o.0, f o.0 o.1, o.2)
widened ss ks x K M L N f g (inr o) = inr (o.0, g o.0 o.1, o.2)

module _ (ss : List SchemeTree) (ks : List ℕ) (x : ℕ) where
  mutual
    known_from : (d : ℕ) (s : SchemeTree) → KnownIn x (applied ss ks d s) → KnownComes ss ks x (λ y. KnownIn y s) (λ y. OccursIn y s)
    known_from d (meta n vs) h = elim (known_filled x (argument_or_local d (applied_values ss ks d vs)) (scheme_for ss n) h) [
      | inl k ↦ inr (n, inl refl, k)
      | inr k ↦ widened ss ks x (λ y. KnownInValues y vs) (λ y. OccursInValues y vs) (λ y. KnownIn y (meta n vs)) (λ y. OccursIn y (meta n vs)) (λ y o. o) (λ y o. inr o)
          (known_from_values d vs (known_in_arguments x d (applied_values ss ks d vs) k))
    ]
    known_from d (known k) h = inl (k, refl, h)
    known_from d (local i) h = absurd h
    known_from d (con p xs) h = known_from_parts d xs h

    known_from_values : (d : ℕ) (vs : Values) → AnyByRecursion (KnownIn x) (applied_values ss ks d vs) → KnownComes ss ks x (λ y. KnownInValues y vs) (λ y. OccursInValues y vs)
    known_from_values d no_values h = absurd h
    known_from_values d (value s vs) (inl h) =
        widened ss ks x (λ y. KnownIn y s) (λ y. OccursIn y s) (λ y. KnownInValues y (value s vs)) (λ y. OccursInValues y (value s vs)) (λ y o. inl o) (λ y o. inl o) (known_from d s h)
    known_from_values d (value s vs) (inr h) =
        widened ss ks x (λ y. KnownInValues y vs) (λ y. OccursInValues y vs) (λ y. KnownInValues y (value s vs)) (λ y. OccursInValues y (value s vs)) (λ y o. inr o) (λ y o. inr o)
        (known_from_values d vs h)

    known_from_parts : (d : ℕ) (xs : Parts) → KnownInParts x (applied_parts ss ks d xs) → KnownComes ss ks x (λ y. KnownInParts y xs) (λ y. OccursInParts y xs)
    known_from_parts d no_parts h = absurd h
    known_from_parts d (part b s xs) (inl h) =
        widened ss ks x (λ y. KnownIn y s) (λ y. OccursIn y s) (λ y. KnownInParts y (part b s xs)) (λ y. OccursInParts y (part b s xs)) (λ y o. inl o) (λ y o. inl o)
        (known_from (d + b) s h)
    known_from_parts d (part b s xs) (inr h) =
        widened ss ks x (λ y. KnownInParts y xs) (λ y. OccursInParts y xs) (λ y. KnownInParts y (part b s xs)) (λ y. OccursInParts y (part b s xs)) (λ y o. inr o) (λ y o. inr o)
        (known_from_parts d xs h)

  abbrev Comes : List SchemeTree → Type 0
  Comes ts = KnownComes ss ks x (λ y. KnownStandsIn y ts) (λ y. StandsIn y ts)

  comes_first : (ts us : List SchemeTree) → Comes ts → Comes (ts ++ us)
  comes_first ts us =
      widened ss ks x (λ y. KnownStandsIn y ts) (λ y. StandsIn y ts) (λ y. KnownStandsIn y (ts ++ us)) (λ y. StandsIn y (ts ++ us))
      (λ y o. any_front (KnownIn y) ts us o) (λ y o. any_front (OccursIn y) ts us o)

  comes_second : (ts us : List SchemeTree) → Comes us → Comes (ts ++ us)
  comes_second ts us =
      widened ss ks x (λ y. KnownStandsIn y us) (λ y. StandsIn y us) (λ y. KnownStandsIn y (ts ++ us)) (λ y. StandsIn y (ts ++ us))
      (λ y o. any_back (KnownIn y) ts us o) (λ y o. any_back (OccursIn y) ts us o)

  comes_one : (t : SchemeTree) (ts : List SchemeTree) → KnownComes ss ks x (λ y. KnownIn y t) (λ y. OccursIn y t) → Comes (t ∷ ts)
  comes_one t ts =
      widened ss ks x (λ y. KnownIn y t) (λ y. OccursIn y t) (λ y. KnownStandsIn y (t ∷ ts)) (λ y. StandsIn y (t ∷ ts)) (λ y o. inl o) (λ y o. inl o)

  comes_rest : (t : SchemeTree) (ts : List SchemeTree) → Comes ts → Comes (t ∷ ts)
  comes_rest t ts = widened ss ks x (λ y. KnownStandsIn y ts) (λ y. StandsIn y ts) (λ y. KnownStandsIn y (t ∷ ts)) (λ y. StandsIn y (t ∷ ts)) (λ y o. inr o) (λ y o. inr o)

  known_mapped : (ts : List SchemeTree) → KnownStandsIn x (map (applied ss ks 0) ts) → Comes ts
  known_mapped [] h = absurd h
  known_mapped (t ∷ ts) (inl h) = comes_one t ts (known_from 0 t h)
  known_mapped (t ∷ ts) (inr h) = comes_rest t ts (known_mapped ts h)

  known_sides_from : (es : List SchemeEquation) → KnownStandsIn x (sides (map (applied_equation ss ks) es)) → Comes (sides es)
  known_sides_from [] h = absurd h
  known_sides_from (e ∷ es) (inl h) = comes_one e.left (e.right ∷ sides es) (known_from (length e.locals) e.left h)
  known_sides_from (e ∷ es) (inr (inl h)) = comes_rest e.left (e.right ∷ sides es) (comes_one e.right (sides es) (known_from (length e.locals) e.right h))
  known_sides_from (e ∷ es) (inr (inr h)) = comes_rest e.left (e.right ∷ sides es) (comes_rest e.right (sides es) (known_sides_from es h))

  known_entries_from : (decls : List KnownVariable) → KnownStandsIn x (entry_schemes (map (applied_known ss ks) decls)) → Comes (entry_schemes decls)
  known_entries_from [] h = absurd h
  known_entries_from (decl ∷ decls) h = elim (any_split (KnownIn x) (map (applied ss ks 0) decl.entry.args) (entry_schemes (map (applied_known ss ks) decls)) h) [
    | inl k ↦ comes_first decl.entry.args (entry_schemes decls) (known_mapped decl.entry.args k)
    | inr k ↦ comes_second decl.entry.args (entry_schemes decls) (known_entries_from decls k)
  ]

known_all : (step : Step) (st : State) (x : ℕ) → KnownStandsIn x (all_schemes (after_step step st)) →
    KnownComes step.metas step.knowns x (λ y. KnownStandsIn y (all_schemes st)) (λ y. StandsIn y (all_schemes st))
known_all step st x h = elim (any_split (KnownIn x) (map (applied step.metas step.knowns 0) st.so_far.metas) (schemes_of (after_step step st)) h) [
  | inl k ↦ comes_first step.metas step.knowns x st.so_far.metas (schemes_of st) (known_mapped step.metas step.knowns x st.so_far.metas k)
  | inr k ↦ comes_second step.metas step.knowns x st.so_far.metas (schemes_of st)
      (elim (any_split (KnownIn x) (sides (map (applied_equation step.metas step.knowns) st.equations)) (entry_schemes (map (applied_known step.metas step.knowns) (names_of st).knowns)) k) [
        | inl o ↦ comes_first step.metas step.knowns x (sides st.equations) (entry_schemes (names_of st).knowns) (known_sides_from step.metas step.knowns x st.equations o)
        | inr o ↦ comes_second step.metas step.knowns x (sides st.equations) (entry_schemes (names_of st).knowns) (known_entries_from step.metas step.knowns x (names_of st).knowns o)
      ])
]

-- known variables in what is put in for metavariables
no_known_in_parameters : (x n : ℕ) → KnownInValues x (values (parameters n)) → ⊥
no_known_in_parameters x zero h = h
no_known_in_parameters x (suc n) (inl h) = h
no_known_in_parameters x (suc n) (inr h) = no_known_in_parameters x n h

known_one : (x k : ℕ) (s : SchemeTree) (decl : MetaDecl) (b : Bool) → KnownIn x (if b then s else meta k (values (parameters (params decl)))) → KnownIn x s
known_one x k s decl true h = h
known_one x k s decl false h = absurd (no_known_in_parameters x (params decl) h)

known_put : (x m : ℕ) (s : SchemeTree) (n k : ℕ) (decls : List MetaDecl) → KnownIn x (scheme_for (metas_but m s n decls) k) → KnownIn x s
known_put x m s n k [] h = absurd h
known_put x m s n zero (decl ∷ decls) h = known_one x n s decl (n == m) h
known_put x m s n (suc k) (decl ∷ decls) h = known_put x m s (suc n) k decls h

-- a number that is found becomes another
pub number_mapped : (f : ℕ → ℕ) (ks : List ℕ) (y x : ℕ) → AnyByRecursion (λ j. j ≡ y) ks → f y ≡ x → AnyByRecursion (λ j. j ≡ x) (map f ks)
number_mapped f [] y x h e = absurd h
number_mapped f (k ∷ ks) y x (inl h) e = inl (ap f h ∙ e)
number_mapped f (k ∷ ks) y x (inr h) e = inr (number_mapped f ks y x h e)

-- a strict occurrence is of a metavariable that is declared
module _ (metas : List MetaDecl) (n : ℕ) where
  mutual
    strict_declared : (s : SchemeTree) → IsSaturated metas s → StrictIn n s → (decl : MetaDecl) × (slice_get metas n ≡ Some decl)
    strict_declared (meta k vs) sat h = let found = match_some (slice_get metas k) (λ decl. length (listed vs) ≡ params decl) sat.0 in
        (found.0, ap (slice_get metas) (sym h.0) ∙ found.1)
    strict_declared (known k) sat h = absurd h
    strict_declared (local i) sat h = absurd h
    strict_declared (con p xs) sat h = strict_declared_parts xs sat h

    strict_declared_parts : (xs : Parts) → PartsAreSaturated metas xs → StrictInParts n xs → (decl : MetaDecl) × (slice_get metas n ≡ Some decl)
    strict_declared_parts no_parts sat h = absurd h
    strict_declared_parts (part b s xs) sat (inl h) = strict_declared s sat.0 h
    strict_declared_parts (part b s xs) sat (inr h) = strict_declared_parts xs sat.1 h

  pub line_declared : (ts : List SchemeTree) → AllByRecursion (IsSaturated metas) ts → AnyByRecursion (StrictIn n) ts → (decl : MetaDecl) × (slice_get metas n ≡ Some decl)
  line_declared [] sat h = absurd h
  line_declared (t ∷ ts) sat (inl h) = strict_declared t sat.0 h
  line_declared (t ∷ ts) sat (inr h) = line_declared ts sat.1 h

all_saturated : (sig : Signature) (names : Names) (decls : List MetaDecl) (ss : List SchemeTree) → AllZip (IsTyped sig names) decls ss → AllByRecursion (IsSaturated names.metas) ss
all_saturated sig names [] [] h = tt
all_saturated sig names [] (s ∷ ss) h = absurd h
all_saturated sig names (d ∷ decls) [] h = absurd h
all_saturated sig names (d ∷ decls) (s ∷ ss) h = (scheme_saturated sig names (params_scope d) d.cat.0 s h.0, all_saturated sig names decls ss h.1)

module _ (sig : Signature) (names : Names) (st : State) (state : IsState sig names st) (lines : HasLines st) where
  pub saturated : AllByRecursion (IsSaturated (names_of st).metas) st.so_far.metas
  saturated = all_saturated sig (names_of st) names.metas st.so_far.metas state.values

  -- other equations, in which nothing new stands
  pub lines_replaced : (before : List SchemeEquation) (e : SchemeEquation) (rest new : List SchemeEquation) → st.equations ≡ before ++ e ∷ rest →
      ((x : ℕ) → StandsIn x (sides new) → (OccursIn x e.left ⊎ OccursIn x e.right) ⊎ StandsIn x (entry_schemes (names_of st).knowns)) →
      ((x : ℕ) → KnownStandsIn x (sides new) → (KnownIn x e.left ⊎ KnownIn x e.right) ⊎ KnownStandsIn x (entry_schemes (names_of st).knowns)) →
      HasLines (with_equations (before ++ (new ++ rest)) st)
  lines_replaced before e rest new at metas knowns = record {
    metas = λ n h. lines.metas n (elim (any_split (OccursIn n) st.so_far.metas (schemes_of (with_equations (before ++ (new ++ rest)) st)) h) [
      | inl k ↦ any_front (OccursIn n) st.so_far.metas (schemes_of st) k
      | inr k ↦ any_back (OccursIn n) st.so_far.metas (schemes_of st) (any_replaced (OccursIn n) st before e rest new at (metas n) k)
    ]);
    knowns = λ n h. lines.knowns n (elim (any_split (KnownIn n) st.so_far.metas (schemes_of (with_equations (before ++ (new ++ rest)) st)) h) [
      | inl k ↦ any_front (KnownIn n) st.so_far.metas (schemes_of st) k
      | inr k ↦ any_back (KnownIn n) st.so_far.metas (schemes_of st) (any_replaced (KnownIn n) st before e rest new at (knowns n) k)
    ]);
  }

  -- a step that puts names in for themselves but one
  module _ (step : Step) (m : ℕ) (s : SchemeTree) (metas : step.metas ≡ metas_but m s 0 (names_of st).metas) where
    pub other_kept : (x : ℕ) → (x ≡ m → ⊥) → AnyByRecursion (StrictIn x) st.so_far.metas → AnyByRecursion (StrictIn x) (map (applied step.metas step.knowns 0) st.so_far.metas)
    other_kept x other h =
        let found = line_declared (names_of st).metas x st.so_far.metas saturated h in
        strict_kept_in step.metas step.knowns (names_of st).metas x x found.0 (all_marked (params found.0)) found.1
        (ap (λ ss. scheme_for ss x) metas
        ∙ value_is (metas_but m s 0 (names_of st).metas) x (meta x (values (parameters (params found.0))))
        (metas_but_there m s (names_of st).metas x found.0 found.1 ∙ ap Some (meta_but_other m s x found.0 other))
        ∙ ap (λ xs. meta x (values xs)) (sym (all_kept (params found.0)))) st.so_far.metas saturated h

    pub lines_after : ((x : ℕ) → OccursIn x s → StandsIn m (all_schemes st) → AnyByRecursion (StrictIn x) (map (applied step.metas step.knowns 0) st.so_far.metas)) →
        ((x : ℕ) → KnownIn x s → AnyByRecursion (λ j. j ≡ x) (map (known_for step.knowns) st.so_far.knowns)) → HasLines (after_step step st)
    lines_after put_metas put_knowns = record { metas = each; knowns = each_known }
      where
        cases : (x y : ℕ) → StandsIn y (all_schemes st) → IsKeptOrPut x y m s → AnyByRecursion (StrictIn x) (map (applied step.metas step.knowns 0) st.so_far.metas)
        cases x y stood (inl k) = other_kept x k.1 (lines.metas x (subst (λ z. StandsIn z (all_schemes st)) k.0 stood))
        cases x y stood (inr k) = put_metas x k.1 (subst (λ z. StandsIn z (all_schemes st)) k.0 stood)

        each : (x : ℕ) → StandsIn x (all_schemes (after_step step st)) → AnyByRecursion (StrictIn x) (map (applied step.metas step.knowns 0) st.so_far.metas)
        each x h =
            let o = from_all step st x h in
            cases x o.0 o.1 (subst (λ y. IsKeptOrPut x y m s) (let q : 0 + o.0 ≡ o.0 = omega arith in q)
            (from_but x m s 0 o.0 (names_of st).metas (subst (λ ss. OccursIn x (scheme_for ss o.0)) metas o.2)))

        each_known : (x : ℕ) → KnownStandsIn x (all_schemes (after_step step st)) → AnyByRecursion (λ j. j ≡ x) (map (known_for step.knowns) st.so_far.knowns)
        each_known x h = elim (known_all step st x h) [
          | inl o ↦ number_mapped (known_for step.knowns) st.so_far.knowns o.0 x (lines.knowns o.0 o.1) o.2
          | inr o ↦ put_knowns x (known_put x m s 0 o.0 (names_of st).metas (subst (λ ss. KnownIn x (scheme_for ss o.0)) metas o.2))
        ]
