use Rattle.std.proofs.Common.{◌↔◌, map, drop}
use Rattle.std.specs.List.{AllByRecursion}
use Rattle.scheme_terms.specs.View.{substitution}
use Rattle.pattern_unify.specs.Equations.{equation}
use Rattle.pattern_unify.specs.FitInto.{Becomes}
use Rattle.pattern_unify.proofs.fitting.all_become.Given as goal

-- all become the same exactly where those do that are left
abbrev pub invariant-loop-equation : goal.invariant-loop-equation
invariant-loop-equation l =
    AllByRecursion (Becomes (substitution l.by).metas (substitution l.by).knowns) (map equation (drop l.equation-index l.eqs))
    ↔ AllByRecursion (Becomes (substitution l.by).metas (substitution l.by).knowns) (map equation l.eqs)
