use Rattle.std.proofs.Common.{◌≡◌, ◌++◌, map, drop}
use Rattle.scheme_terms.specs.View.{known_variable, substitution}
use Rattle.pattern_unify.specs.State.{applied_known}
use Rattle.pattern_unify.specs.LeftNames.{is_known_left, picked}
use Rattle.pattern_unify.specs.Stepped.{state}
use Rattle.pattern_unify.proofs.left.left_knowns.Given as goal

abbrev pub invariant-loop-place : goal.invariant-loop-place
invariant-loop-place l =
    map known_variable l.all
    ++ picked (is_known_left (state l.st)) l.place (map (applied_known (substitution l.by).metas (substitution l.by).knowns) (map known_variable (drop l.place l.decls)))
    ≡ picked (is_known_left (state l.st)) 0 (map (applied_known (substitution l.by).metas (substitution l.by).knowns) (map known_variable l.decls))
