use Rattle.std.proofs.Common.{◌≡◌, ◌++◌, map, drop}
use Rattle.scheme_terms.specs.View.{known_variable}
use Rattle.pattern_unify.specs.State.{knowns_but}
use Rattle.pattern_unify.proofs.state.knowns_but.Given as goal

abbrev pub invariant-loop-place : goal.invariant-loop-place
invariant-loop-place l = l.all ++ knowns_but l.changed l.to l.place (map known_variable (drop l.place l.decls)) ≡ knowns_but l.changed l.to 0 (map known_variable l.decls)
