-- What the functions inside the crate make of a state.
use Rattle.std.specs.Prelude.{◌≡◌, ◌≢◌, ◌<◌, ◌⊎◌, ℕ, Bool, List, length, Some, slice_get}
use Rattle.std.specs.List.{AllByRecursion}
use Rattle.binding_terms.specs.Signature.{Signature}
use Rattle.scheme_terms.specs.SchemeTree.{SchemeTree, meta, known, con, Values, Parts, AreDistinctLocals}
use Rattle.scheme_terms.specs.Forms.{Names, Substitution}
use Rattle.scheme_terms.specs.Substituting.{LocalsBelow}
use Rattle.scheme_terms.specs.declared.scheme.MetaDecl.{MetaDecl}
use Rattle.pattern_unify.specs.Equations.{SchemeEquation, AreSides}
use Rattle.pattern_unify.specs.Patterns.{common_arguments, over_parameters}
use Rattle.pattern_unify.specs.Pruning.{HasPrunable, FirstPrunable}
use Rattle.pattern_unify.specs.State.{State, names_of, substitution_of, becomes, becomes_new}
use Rattle.pattern_unify.specs.Move.{goes_on, argument_equations}
use Rattle.pattern_unify.specs.Run.{Turn}

-- a turn leads from the one state to the other
abbrev pub GoesTo : Signature → State → State → Type 0
GoesTo sig st new = Turn sig st (goes_on new)

-- the sides of each equation are schemes of one category of some signature
abbrev pub HaveSides : State → Type 0
HaveSides st = (sig : Signature) × AllByRecursion (AreSides sig (names_of st)) st.equations

-- the equations of the arguments
pub record IsDecomposed (sig : Signature) (e : SchemeEquation) (all : List SchemeEquation) : Type 0 where
  pub p : ℕ
  pub xs : Parts
  pub ys : Parts
  pub left : e.left ≡ con p xs
  pub right : e.right ≡ con p ys
  pub same : all ≡ argument_equations sig e p xs ys

-- both are known variables, and not the same
abbrev pub AreTwoKnowns : SchemeTree → SchemeTree → Type 0
AreTwoKnowns (known k) (known l) = k ≢ l
AreTwoKnowns _ _ = ⊥

-- the known variables of the equation
abbrev pub AreLowAndHigh : SchemeEquation → (low high : ℕ) → Type 0
AreLowAndHigh e low high =
    (low < high) × (((e.left ≡ known low) × (e.right ≡ known high)) ⊎ ((e.left ≡ known high) × (e.right ≡ known low)))

-- two patterns of a metavariable of the scope
abbrev pub Meets : Names → SchemeTree → SchemeTree → Type 0
Meets names (meta m vs) (meta n ws) = (m ≡ n) × (m < length names.metas)
Meets names _ _ = ⊥

-- the metavariable becomes a new one with the marked parameters
pub record IsRenewed (names : Names) (m : ℕ) (keeps : List Bool) (by : Substitution) : Type 0 where
  pub decl : MetaDecl
  pub declared : slice_get names.metas m ≡ Some decl
  pub same : by ≡ substitution_of names (becomes_new m decl keeps names)

-- what a meet puts in
pub record IsMeet (names : Names) (s t : SchemeTree) (by : Substitution) : Type 0 where
  pub m : ℕ
  pub vs : Values
  pub ws : Values
  pub first : s ≡ meta m vs
  pub second : t ≡ meta m ws
  pub made : IsRenewed names m (common_arguments vs ws) by

-- a metavariable, and a scheme with a pattern to prune; each such pattern's metavariable is of the scope
abbrev pub Prunes : Names → SchemeTree → SchemeTree → Type 0
Prunes names (meta m vs) t =
    HasPrunable m vs 0 t × ((n : ℕ) (keeps : List Bool) → FirstPrunable m vs 0 t n keeps → n < length names.metas)
Prunes names _ t = ⊥

-- what a prune puts in
pub record IsPrune (names : Names) (s t : SchemeTree) (by : Substitution) : Type 0 where
  pub m : ℕ
  pub n : ℕ
  pub vs : Values
  pub keeps : List Bool
  pub first : s ≡ meta m vs
  pub pruned : FirstPrunable m vs 0 t n keeps
  pub made : IsRenewed names n keeps by

-- a pattern, and a scheme under so many locals
abbrev pub Binds : (locals : ℕ) → SchemeTree → SchemeTree → Type 0
Binds d (meta m vs) t = AreDistinctLocals vs × LocalsBelow d t
Binds d _ t = ⊥

-- what a bind puts in
pub record IsBind (names : Names) (s t : SchemeTree) (by : Substitution) : Type 0 where
  pub m : ℕ
  pub vs : Values
  pub first : s ≡ meta m vs
  pub same : by ≡ substitution_of names (becomes m (over_parameters vs t) names)
