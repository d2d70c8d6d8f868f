use Rattle.std.proofs.Common.{◌≡◌, map, take}
use Rattle.scheme_terms.specs.View.{substitution}
use Rattle.pattern_unify.specs.Equations.{equation}
use Rattle.pattern_unify.specs.State.{applied_equation}
use Rattle.pattern_unify.proofs.state.apply_to_equations.Given as goal

abbrev pub invariant-loop-one : goal.invariant-loop-one
invariant-loop-one l = map equation l.all ≡ map (applied_equation (substitution l.by).metas (substitution l.by).knowns) (map equation (take l.one-index l.eqs))
