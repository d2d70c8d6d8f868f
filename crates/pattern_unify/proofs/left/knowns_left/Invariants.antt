use Rattle.std.proofs.Common.{◌≡◌, ◌++◌, map, drop}
use Rattle.scheme_terms.specs.View.{known_variable}
use Rattle.pattern_unify.specs.LeftNames.{is_known_left, knowns_left, rank}
use Rattle.pattern_unify.specs.Stepped.{state}
use Rattle.pattern_unify.proofs.left.knowns_left.Given as goal

abbrev pub invariant-loop-place : goal.invariant-loop-place
invariant-loop-place l =
    (l.count ≡ rank (is_known_left (state l.st)) 0 l.place)
    × (l.all ++ knowns_left (is_known_left (state l.st)) l.place (map known_variable (drop l.place l.decls))
    ≡ knowns_left (is_known_left (state l.st)) 0 (map known_variable l.decls))
