use Rattle.std.proofs.Common.{◌≡◌, map, drop, Some}
use Rattle.pattern_unify.specs.Equations.{equation}
use Rattle.rule_schemes.specs.View.{judgment_scheme}
use Rattle.core_proofs.specs.FormEquations.{both, all_equations}
use Rattle.core_proofs.proofs.rule_step.equations_of.Given as goal

abbrev pub invariant-loop-i : goal.invariant-loop-i
invariant-loop-i l =
    both (Some (map equation l.equations.items)) (all_equations (map judgment_scheme (drop l.i l.patterns)) (map (λ t. judgment_scheme t.now) (drop l.i l.targets)))
    ≡ all_equations (map judgment_scheme l.patterns) (map (λ t. judgment_scheme t.now) l.targets)
