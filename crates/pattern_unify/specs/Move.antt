-- What each move makes of a state. To be held against docs/notation.md, 'Unification' (the results of the table, and what a decompose and a join leave).
use Rattle.std.specs.Prelude.{◌≡◌, ◌<◌, ◌⊎◌, ℕ, Bool, List, [], ◌∷◌, ◌++◌, Some, slice_get, option_map, unwrap_or}
use Rattle.binding_terms.specs.Signature.{Signature, Place, slots, binders}
use Rattle.binding_terms.specs.Scope.{bound}
use Rattle.scheme_terms.specs.SchemeTree.{SchemeTree, meta, known, con, Values, Parts, part}
use Rattle.scheme_terms.specs.Forms.{Names}
use Rattle.scheme_terms.specs.declared.scheme.MetaDecl.{MetaDecl}
use Rattle.pattern_unify.specs.Equations.{SchemeEquation}
use Rattle.pattern_unify.specs.Patterns.{over_parameters, common_arguments}
use Rattle.pattern_unify.specs.Pruning.{FirstPrunable}
use Rattle.pattern_unify.specs.State.{State, names_of, after_step, with_equations, becomes, becomes_new, joins_to}
use Rattle.pattern_unify.specs.Moves.{Row, delete, decompose, clash, join, meet, prune, bind, Direction, named_first, named_second, Applies}

-- the equations of arguments in their order, each under its binders
abbrev pub part_equations : (locals binders : List ℕ) → List Place → (left right : Parts) → List SchemeEquation
part_equations ls bs (s ∷ ss) (part m x xs) (part n y ys) =
    record { locals = bound bs s.binds ++ ls; left = x; right = y } ∷ part_equations ls bs ss xs ys
part_equations ls bs _ _ _ = []

abbrev pub production_binders : Signature → ℕ → List ℕ
production_binders sig p = unwrap_or (option_map (λ prod. binders prod.items) (slice_get sig.prods p)) []

abbrev pub production_slots : Signature → ℕ → List Place
production_slots sig p = unwrap_or (option_map (λ prod. slots prod.items) (slice_get sig.prods p)) []

-- the equations of the arguments of a production, the left side's on the left
abbrev pub argument_equations : Signature → SchemeEquation → (prod : ℕ) → (left right : Parts) → List SchemeEquation
argument_equations sig e p xs ys = part_equations e.locals (production_binders sig p) (production_slots sig p) xs ys

-- the equations of the arguments of two entries, which stand under no local
abbrev pub entry_equations : (left right : List SchemeTree) → List SchemeEquation
entry_equations (s ∷ ss) (t ∷ ts) = record { locals = []; left = s; right = t } ∷ entry_equations ss ts
entry_equations _ _ = []

-- the arguments of a known variable's entry
abbrev pub entry_args : Names → ℕ → List SchemeTree
entry_args names k = unwrap_or (option_map (λ decl. decl.entry.args) (slice_get names.knowns k)) []

-- what a move leads to: another state, or the answer that there is no common instance
pub data Next : Type 0 where
  goes_on : State → Next
  has_none : Next

-- A move on the equation that stands between these equations, in one of its directions: a constructor for each row of the table.
pub data Move (sig : Signature) (st : State) (before : List SchemeEquation) (e : SchemeEquation) (rest : List SchemeEquation)
    (direction : Direction) (next : Next) : Row → Type 0 where
  deletes : Applies (names_of st) delete direction e → next ≡ goes_on (with_equations (before ++ rest) st) →
      Move sig st before e rest direction next delete
  decomposes : (p : ℕ) (xs ys : Parts) → e.left ≡ con p xs → e.right ≡ con p ys →
      next ≡ goes_on (with_equations (before ++ (argument_equations sig e p xs ys ++ rest)) st) →
      Move sig st before e rest direction next decompose
  clashes : Applies (names_of st) clash direction e → next ≡ has_none → Move sig st before e rest direction next clash
  joins : (low high : ℕ) → low < high →
      ((e.left ≡ known low) × (e.right ≡ known high)) ⊎ ((e.left ≡ known high) × (e.right ≡ known low)) →
      Applies (names_of st) join direction e →
      next ≡ goes_on (after_step (joins_to high low (names_of st))
      (with_equations (before ++ (entry_equations (entry_args (names_of st) low) (entry_args (names_of st) high) ++ rest)) st)) →
      Move sig st before e rest direction next join
  meets : (m : ℕ) (vs ws : Values) (decl : MetaDecl) → named_first direction e ≡ meta m vs → named_second direction e ≡ meta m ws →
      slice_get (names_of st).metas m ≡ Some decl → Applies (names_of st) meet direction e →
      next ≡ goes_on (after_step (becomes_new m decl (common_arguments vs ws) (names_of st)) st) →
      Move sig st before e rest direction next meet
  prunes : (m n : ℕ) (vs : Values) (keeps : List Bool) (decl : MetaDecl) → named_first direction e ≡ meta m vs →
      Applies (names_of st) prune direction e → FirstPrunable m vs 0 (named_second direction e) n keeps →
      slice_get (names_of st).metas n ≡ Some decl →
      next ≡ goes_on (after_step (becomes_new n decl keeps (names_of st)) st) →
      Move sig st before e rest direction next prune
  binds : (m : ℕ) (vs : Values) → named_first direction e ≡ meta m vs → Applies (names_of st) bind direction e →
      next ≡ goes_on (after_step (becomes m (over_parameters vs (named_second direction e)) (names_of st)) st) →
      Move sig st before e rest direction next bind
