-- The move that is found for an equation, as the functions inside the crate tell it.
use Rattle.std.specs.Prelude.{Option, Some, None}
use Rattle.scheme_terms.specs.Forms.{Names}
use Rattle.pattern_unify.specs.Equations.{SchemeEquation}
use Rattle.pattern_unify.specs.Moves as moves
use Rattle.pattern_unify.specs.Moves.{delete, decompose, clash, join, meet, prune, bind, Direction, left_first, right_first, Rests}
use Rattle.pattern_unify.specs.Run.{IsFirstMove}
use Rattle.pattern_unify.specs.declared.moves.Row.{Row}
use Rattle.pattern_unify.specs.declared.moves.Row.TheVariants.{Delete, Decompose, Clash, Join, Meet, Prune, Bind}
use Rattle.pattern_unify.specs.declared.moves.Way.{Way}
use Rattle.pattern_unify.specs.declared.moves.Way.TheVariants.{LeftFirst, RightFirst}

abbrev pub the_row : Row → moves.Row
the_row Delete = delete
the_row Decompose = decompose
the_row Clash = clash
the_row Join = join
the_row Meet = meet
the_row Prune = prune
the_row Bind = bind

abbrev pub the_way : Way → Direction
the_way LeftFirst = left_first
the_way RightFirst = right_first

abbrev pub chosen : Row × Way → moves.Row × Direction
chosen c = (the_row c.0, the_way c.1)

-- the first move of the table that applies to the equation, or none where none applies
abbrev pub IsFirst : Names → SchemeEquation → Option (moves.Row × Direction) → Type 0
IsFirst names e None = Rests names e
IsFirst names e (Some c) = IsFirstMove names e c.0 c.1
