use Rattle.std.proofs.Common.{◌≡◌, ◌++◌, map, drop}
use Rattle.scheme_terms.specs.View.{scheme}
use Rattle.pattern_unify.specs.Equations.{equation}
use Rattle.core_proofs.specs.FormEquations.{paired}
use Rattle.core_proofs.proofs.rule_step.add_paired.Given as goal

abbrev pub invariant-loop-i : goal.invariant-loop-i
invariant-loop-i l =
    map equation l.equations.items ++ paired (map scheme (drop l.i l.patterns)) (map scheme (drop l.i l.targets))
    ≡ map equation l.initial.equations.items ++ paired (map scheme l.patterns) (map scheme l.targets)
