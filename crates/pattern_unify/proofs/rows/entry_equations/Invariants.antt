use Rattle.std.proofs.Common.{◌≡◌, ◌++◌, map, drop}
use Rattle.scheme_terms.specs.View.{scheme}
use Rattle.pattern_unify.specs.Equations.{equation}
use Rattle.pattern_unify.specs.Move.{entry_equations}
use Rattle.pattern_unify.proofs.rows.entry_equations.Given as goal

abbrev pub invariant-loop-i : goal.invariant-loop-i
invariant-loop-i l =
    map equation l.all ++ entry_equations (map scheme (drop l.i l.lefts)) (map scheme (drop l.i l.rights)) ≡ entry_equations (map scheme l.lefts) (map scheme l.rights)
