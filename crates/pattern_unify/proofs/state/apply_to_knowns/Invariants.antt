use Rattle.std.proofs.Common.{◌≡◌, map, take}
use Rattle.scheme_terms.specs.View.{substitution, known_variable}
use Rattle.pattern_unify.specs.State.{applied_known}
use Rattle.pattern_unify.proofs.state.apply_to_knowns.Given as goal

abbrev pub invariant-loop-decl : goal.invariant-loop-decl
invariant-loop-decl l = map known_variable l.all ≡ map (applied_known (substitution l.by).metas (substitution l.by).knowns) (map known_variable (take l.decl-index l.decls))
