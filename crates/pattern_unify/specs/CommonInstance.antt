-- Common instances of equations. To be held against docs/notation.md, 'Unification'.
use Rattle.std.specs.Prelude.{◌≡◌, ◌⊎◌, ℕ, List, length}
use Rattle.std.specs.List.{AllByRecursion}
use Rattle.binding_terms.specs.Signature.{Signature}
use Rattle.scheme_terms.specs.SchemeTree.{SchemeTree}
use Rattle.scheme_terms.specs.Forms.{Names, Substitution, Instance}
use Rattle.scheme_terms.specs.Instance.{instance_of, FitsScope}
use Rattle.scheme_terms.specs.SchemeScope.{KnownsFit}
use Rattle.scheme_terms.specs.Substituting.{applied, IsSubstitution}
use Rattle.pattern_unify.specs.Equations.{SchemeEquation}

-- the schemes and numbers, put in for names, make the two sides of the equation the same
abbrev pub MakesEqual : List SchemeTree → List ℕ → SchemeEquation → Type 0
MakesEqual ss ks e = applied ss ks (length e.locals) e.left ≡ applied ss ks (length e.locals) e.right

-- A substitution of the scope, by schemes of any scope, that makes the sides of each equation the same.
pub record IsCommonInstance (sig : Signature) (names : Names) (eqs : List SchemeEquation) (by : Substitution) : Type 0 where
  pub scope : KnownsFit sig by.into
  pub schemes : IsSubstitution sig names by
  pub equal : AllByRecursion (MakesEqual by.metas by.knowns) eqs

-- the two sides of the equation have the same ground instance
abbrev pub IsSameInstance : Instance → SchemeEquation → Type 0
IsSameInstance inst e = instance_of inst (length e.locals) e.left ≡ instance_of inst (length e.locals) e.right

-- A ground instance of the scope under which the sides of each equation are the same.
pub record IsCommonGroundInstance (sig : Signature) (names : Names) (eqs : List SchemeEquation) (inst : Instance) : Type 0 where
  pub scope : FitsScope sig names inst
  pub equal : AllByRecursion (IsSameInstance inst) eqs

-- the equations have a common instance, a substitution or a ground instance
abbrev pub HaveCommonInstance : Signature → Names → List SchemeEquation → Type 0
HaveCommonInstance sig names eqs =
    ((by : Substitution) × IsCommonInstance sig names eqs by) ⊎ ((inst : Instance) × IsCommonGroundInstance sig names eqs inst)
