-- That the moves keep the common instances, and that a solved run is most general. To be held against docs/notation.md, 'Unification'.
use Rattle.std.specs.Prelude.{◌≡◌, ◌↔◌, List}
use Rattle.std.specs.List.{AllByRecursion}
use Rattle.binding_terms.specs.Signature.{Signature, Fits}
use Rattle.scheme_terms.specs.SchemeTree.{SchemeTree, meta, known, local, con, Parts, no_parts, part, AreDistinctLocals}
use Rattle.scheme_terms.specs.Forms.{Names, Substitution, Instance}
use Rattle.scheme_terms.specs.SchemeScope.{IsRoot}
use Rattle.scheme_terms.specs.Substituting.{composed, followed}
use Rattle.pattern_unify.specs.Equations.{SchemeEquation, AreToUnify}
use Rattle.pattern_unify.specs.CommonInstance.{IsCommonInstance, IsCommonGroundInstance}
use Rattle.pattern_unify.specs.MostGeneral.{IsMostGeneral, IsMostGeneralUpToReach}
use Rattle.pattern_unify.specs.State.{State, names_of, start}
use Rattle.pattern_unify.specs.Move.{goes_on}
use Rattle.pattern_unify.specs.Run.{Turn, solved, Runs, IsWithinFragment}
use Rattle.pattern_unify.specs.LeftNames.{left_names}
use Rattle.pattern_unify.specs.Laws.{IsState}

-- the substitution is what the run has found so far, with a common instance of the equations that are left after it
pub record IsOfState (sig : Signature) (st : State) (by : Substitution) : Type 0 where
  pub after : Substitution
  pub common : IsCommonInstance sig (names_of st) st.equations after
  pub same : composed st.so_far after ≡ by

-- the same of a ground instance
pub record IsGroundOfState (sig : Signature) (names : Names) (st : State) (inst : Instance) : Type 0 where
  pub after : Instance
  pub common : IsCommonGroundInstance sig (names_of st) st.equations after
  pub same : followed names.metas st.so_far after ≡ inst

-- at the start these are the common instances of the equations
abbrev pub StartHasCommonInstances : Type 0
StartHasCommonInstances =
    (sig : Signature) (names : Names) (eqs : List SchemeEquation) (by : Substitution) → Fits sig → AreToUnify sig names eqs →
    IsCommonInstance sig names eqs by ↔ IsOfState sig (start names eqs) by

-- a turn keeps the common instances
abbrev pub TurnKeepsCommonInstances : Type 0
TurnKeepsCommonInstances =
    (sig : Signature) (names : Names) (st next : State) (by : Substitution) → Fits sig → IsState sig names st → Turn sig st (goes_on next) →
    IsOfState sig st by ↔ IsOfState sig next by

-- a turn keeps the common ground instances, where the root is of a category of contexts or there is none
abbrev pub TurnKeepsGroundInstances : Type 0
TurnKeepsGroundInstances =
    (sig : Signature) (names : Names) (st next : State) (inst : Instance) → Fits sig → IsRoot sig names.root → IsState sig names st →
    Turn sig st (goes_on next) → IsGroundOfState sig names st inst ↔ IsGroundOfState sig names next inst

-- what a solved run has found is, over the names that are left, numbered anew, a most general common instance
abbrev pub SolvedIsMostGeneral : Type 0
SolvedIsMostGeneral =
    (sig : Signature) (names : Names) (eqs : List SchemeEquation) (st : State) → Fits sig → AreToUnify sig names eqs →
    Runs sig (start names eqs) (solved st) → IsMostGeneral sig names eqs (composed st.so_far (left_names st))

-- what is most general is so up to reach
abbrev pub MostGeneralIsUpToReach : Type 0
MostGeneralIsUpToReach =
    (sig : Signature) (names : Names) (eqs : List SchemeEquation) (by : Substitution) → IsMostGeneral sig names eqs by → IsMostGeneralUpToReach sig names eqs by

-- every metavariable of the scheme is applied to distinct locals
abbrev mutual
  pub IsOfPatterns : SchemeTree → Type 0
  IsOfPatterns (meta m vs) = AreDistinctLocals vs
  IsOfPatterns (known k) = Unit {0}
  IsOfPatterns (local i) = Unit {0}
  IsOfPatterns (con p xs) = PartsAreOfPatterns xs

  pub PartsAreOfPatterns : Parts → Type 0
  PartsAreOfPatterns no_parts = Unit {0}
  PartsAreOfPatterns (part n s xs) = IsOfPatterns s × PartsAreOfPatterns xs

-- equations of patterns, with entries of patterns, are within the fragment
abbrev pub PatternsAreWithin : Type 0
PatternsAreWithin =
    (sig : Signature) (names : Names) (eqs : List SchemeEquation) → Fits sig → AreToUnify sig names eqs →
    AllByRecursion (λ e. IsOfPatterns e.left × IsOfPatterns e.right) eqs →
    AllByRecursion (λ decl. AllByRecursion IsOfPatterns decl.entry.args) names.knowns → IsWithinFragment sig names eqs
