-- Most general common instances of equations. To be held against docs/notation.md, 'Unification'.
use Rattle.std.specs.Prelude.{◌≡◌, List}
use Rattle.std.specs.List.{AllByRecursion}
use Rattle.binding_terms.specs.Signature.{Signature, Reaches}
use Rattle.scheme_terms.specs.Forms.{Names, Substitution, Instance}
use Rattle.scheme_terms.specs.Instance.{FitsScope}
use Rattle.scheme_terms.specs.Substituting.{composed, followed, IsSubstitution}
use Rattle.scheme_terms.specs.declared.scheme.MetaDecl.{MetaDecl}
use Rattle.pattern_unify.specs.Equations.{SchemeEquation}
use Rattle.pattern_unify.specs.CommonInstance.{IsCommonInstance, IsCommonGroundInstance}

-- the one substitution is the other with a third after it
pub record IsThrough (sig : Signature) (by other after : Substitution) : Type 0 where
  pub schemes : IsSubstitution sig by.into after
  pub same : composed by after ≡ other

-- the one substitution is the other with a third after it, and that third is the only one
pub record IsThroughOnce (sig : Signature) (by other : Substitution) : Type 0 where
  pub after : Substitution
  pub through : IsThrough sig by other after
  pub only : (second : Substitution) → IsThrough sig by other second → second ≡ after

-- the ground instance is the substitution followed by a ground instance of the substitution's own scope
pub record IsGroundThrough (sig : Signature) (names : Names) (by : Substitution) (inst after : Instance) : Type 0 where
  pub scope : FitsScope sig by.into after
  pub same : followed names.metas by after ≡ inst

-- the ground instance is the substitution followed by a ground instance, and that one is the only one
pub record IsGroundThroughOnce (sig : Signature) (names : Names) (by : Substitution) (inst : Instance) : Type 0 where
  pub after : Instance
  pub through : IsGroundThrough sig names by inst after
  pub only : (second : Instance) → IsGroundThrough sig names by inst second → second ≡ after

-- the metavariable has only parameters whose categories its own category reaches
abbrev pub HasReachedParams : Signature → MetaDecl → Type 0
HasReachedParams sig decl = AllByRecursion (λ v. Reaches sig decl.cat.0 v.0) decl.params

-- each metavariable of the scope is so
abbrev pub HaveReachedParams : Signature → Names → Type 0
HaveReachedParams sig names = AllByRecursion (HasReachedParams sig) names.metas

-- A most general common instance: each common instance, a substitution or a ground one, is one after it in exactly one way.
pub record IsMostGeneral (sig : Signature) (names : Names) (eqs : List SchemeEquation) (by : Substitution) : Type 0 where
  pub common : IsCommonInstance sig names eqs by
  pub every : (other : Substitution) → IsCommonInstance sig names eqs other → IsThroughOnce sig by other
  pub ground_one : (inst : Instance) → IsCommonGroundInstance sig names eqs inst → IsGroundThroughOnce sig names by inst

-- The same where of the substitutions those alone count that go into scopes whose metavariables have only parameters that their category reaches. So a
-- name that leaves another parameter out is as general as one that has it.
pub record IsMostGeneralUpToReach (sig : Signature) (names : Names) (eqs : List SchemeEquation) (by : Substitution) : Type 0 where
  pub common : IsCommonInstance sig names eqs by
  pub every : (other : Substitution) → HaveReachedParams sig other.into → IsCommonInstance sig names eqs other → IsThroughOnce sig by other
  pub ground_one : (inst : Instance) → IsCommonGroundInstance sig names eqs inst → IsGroundThroughOnce sig names by inst
