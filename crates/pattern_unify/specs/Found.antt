-- The next move of a run, as the functions inside the crate tell it.
use Rattle.std.specs.Prelude.{◌≡◌, ℕ, List, ◌∷◌, ◌++◌, length, Option, Some, None}
use Rattle.std.specs.List.{AllByRecursion}
use Rattle.scheme_terms.specs.Forms.{Names}
use Rattle.pattern_unify.specs.Equations.{SchemeEquation}
use Rattle.pattern_unify.specs.Moves.{Row, Direction, Rests}
use Rattle.pattern_unify.specs.Run.{IsFirstMove}
use Rattle.pattern_unify.specs.Chosen.{the_row, the_way}
use Rattle.pattern_unify.specs.declared.turns.Found.{Found}

pub record NextMove : Type 0 where
  pub place : ℕ
  pub row : Row
  pub way : Direction

abbrev pub found : Found → NextMove
found f = record { place = f.place; row = the_row f.row; way = the_way f.way }

-- the equation at the place is the first one to which a move applies, and this is the first move for it
pub record IsNextMove (names : Names) (eqs : List SchemeEquation) (next : NextMove) : Type 0 where
  pub before : List SchemeEquation
  pub e : SchemeEquation
  pub rest : List SchemeEquation
  pub at : eqs ≡ before ++ e ∷ rest
  pub count : length before ≡ next.place
  pub rests : AllByRecursion (Rests names) before
  pub first : IsFirstMove names e next.row next.way

abbrev pub IsFound : Names → List SchemeEquation → Option NextMove → Type 0
IsFound names eqs None = AllByRecursion (Rests names) eqs
IsFound names eqs (Some next) = IsNextMove names eqs next
