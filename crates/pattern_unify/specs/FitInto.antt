-- The substitution of one scope by schemes of another that makes each left side its right side.
use Rattle.std.specs.Prelude.{◌≡◌, ℕ, List, length, Option, Some, None}
use Rattle.std.specs.List.{AllByRecursion}
use Rattle.binding_terms.specs.Numbered.{AnyByRecursion, AllNumbered}
use Rattle.binding_terms.specs.Signature.{Signature}
use Rattle.scheme_terms.specs.SchemeTree.{SchemeTree, StrictIn}
use Rattle.scheme_terms.specs.Forms.{Names, Substitution}
use Rattle.scheme_terms.specs.SchemeScope.{IsScheme}
use Rattle.scheme_terms.specs.Substituting.{applied, knowns_from, IsSubstitution}
use Rattle.pattern_unify.specs.Equations.{SchemeEquation}

-- the left side is a scheme of the one scope, the right side of the other, and both are of one category
abbrev pub AreSidesInto : Signature → (from into : Names) → SchemeEquation → Type 0
AreSidesInto sig from into e = (c : ℕ) × IsScheme sig from e.locals c e.left × IsScheme sig into e.locals c e.right

-- The sides go together, and each metavariable of the one scope has a strict occurrence in a left side.
pub record AreToFitInto (sig : Signature) (from into : Names) (eqs : List SchemeEquation) : Type 0 where
  pub sides : AllByRecursion (AreSidesInto sig from into) eqs
  pub strict : AllNumbered (λ m decl. AnyByRecursion (λ e. StrictIn m e.left) eqs) 0 from.metas

-- the left side becomes the right side
abbrev pub Becomes : List SchemeTree → List ℕ → SchemeEquation → Type 0
Becomes ss ks e = applied ss ks (length e.locals) e.left ≡ e.right

-- A substitution of the one scope by schemes of the other that makes each left side its right side. Metavariables alone change: a known variable of the one
-- scope goes to that of the other with its number.
pub record IsFitInto (sig : Signature) (from into : Names) (eqs : List SchemeEquation) (by : Substitution) : Type 0 where
  pub into_is : by.into ≡ into
  pub kept : IsSubstitution sig from by
  pub knowns : by.knowns ≡ knowns_from 0 from.knowns
  pub equal : AllByRecursion (Becomes by.metas by.knowns) eqs

-- the one such substitution, or none where there is none
abbrev pub IsOnlyFitInto : Signature → (from into : Names) → List SchemeEquation → Option Substitution → Type 0
IsOnlyFitInto sig from into eqs None = (by : Substitution) → IsFitInto sig from into eqs by → ⊥
IsOnlyFitInto sig from into eqs (Some by) =
    IsFitInto sig from into eqs by × ((other : Substitution) → IsFitInto sig from into eqs other → other ≡ by)
