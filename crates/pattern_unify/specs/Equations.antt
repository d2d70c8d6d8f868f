-- Equations between schemes, as plain records.
use Rattle.std.specs.Prelude.{ℕ, List, map, reverse}
use Rattle.std.specs.List.{AllByRecursion}
use Rattle.binding_terms.specs.Signature.{Signature}
use Rattle.scheme_terms.specs.SchemeTree.{SchemeTree}
use Rattle.scheme_terms.specs.Forms.{Names}
use Rattle.scheme_terms.specs.SchemeScope.{IsScheme, KnownsFit}
use Rattle.scheme_terms.specs.View.{scheme}
use Rattle.pattern_unify.specs.declared.equation.Equation.{Equation}

-- two schemes under locals of these categories, the innermost first
pub record SchemeEquation : Type 0 where
  pub locals : List ℕ
  pub left : SchemeTree
  pub right : SchemeTree

abbrev pub equation : Equation → SchemeEquation
equation e = record { locals = reverse (map (λ c. c.0) e.scope); left = scheme e.left; right = scheme e.right }

-- the sides are schemes of one category under the equation's locals
abbrev pub AreSides : Signature → Names → SchemeEquation → Type 0
AreSides sig names e = (c : ℕ) × IsScheme sig names e.locals c e.left × IsScheme sig names e.locals c e.right

-- the sides of each equation are schemes of one category, over a scope whose known variables fit it
pub record AreToUnify (sig : Signature) (names : Names) (eqs : List SchemeEquation) : Type 0 where
  pub knowns : KnownsFit sig names
  pub sides : AllByRecursion (AreSides sig names) eqs
