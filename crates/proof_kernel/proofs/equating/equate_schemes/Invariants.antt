use Rattle.std.proofs.Common.{◌≡◌, ◌++◌, map, drop, reverse}
use Rattle.scheme_terms.specs.View.{scheme}
use Rattle.pattern_unify.specs.Equations.{equation}
use Rattle.proof_kernel.specs.Equating.{equated}
use Rattle.proof_kernel.proofs.equating.equate_schemes.Given as goal

abbrev pub invariant-loop-i : goal.invariant-loop-i
invariant-loop-i l =
    map equation l.equations.items ++ equated (reverse (map (λ c. c.0) l.locals)) (map scheme (drop l.i l.patterns)) (map scheme (drop l.i l.targets))
    ≡ map equation l.initial.equations.items ++ equated (reverse (map (λ c. c.0) l.locals)) (map scheme l.patterns) (map scheme l.targets)
