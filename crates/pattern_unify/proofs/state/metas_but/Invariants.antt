use Rattle.std.proofs.Common.{◌≡◌, ◌++◌, map, drop}
use Rattle.scheme_terms.specs.View.{scheme}
use Rattle.pattern_unify.specs.State.{metas_but}
use Rattle.pattern_unify.proofs.state.metas_but.Given as goal

abbrev pub invariant-loop-place : goal.invariant-loop-place
invariant-loop-place l = map scheme l.all ++ metas_but l.changed.0 (scheme l.value) l.place (drop l.place l.decls) ≡ metas_but l.changed.0 (scheme l.value) 0 l.decls
