use Rattle.std.proofs.Common.{◌≡◌, ◌↔◌, ◌++◌, map, drop, reverse}
use Rattle.std.specs.List.{AllZip}
use Rattle.scheme_terms.specs.View.{scheme_context}
use Rattle.pattern_unify.specs.Equations.{equation}
use Rattle.rule_schemes.specs.View.{judgment_scheme}
use Rattle.proof_kernel.specs.Equating.{IsLikeIn, all_equations}
use Rattle.proof_kernel.proofs.equating.add_forms.Given as goal

abbrev pub invariant-loop-i : goal.invariant-loop-i
invariant-loop-i l = record {
  like : AllZip (IsLikeIn (scheme_context l.ctx)) (map judgment_scheme l.patterns) (map (λ t. judgment_scheme t.now) l.targets)
      ↔ AllZip (IsLikeIn (scheme_context l.ctx)) (map judgment_scheme (drop l.i l.patterns)) (map (λ t. judgment_scheme t.now) (drop l.i l.targets));
  put : map equation l.equations.items
      ++ all_equations l.sig (reverse (map (λ c. c.0) l.around)) (scheme_context l.ctx) (map judgment_scheme (drop l.i l.patterns)) (map (λ t. judgment_scheme t.now) (drop l.i l.targets))
      ≡ map equation l.fn.equations.items
      ++ all_equations l.sig (reverse (map (λ c. c.0) l.around)) (scheme_context l.ctx) (map judgment_scheme l.patterns) (map (λ t. judgment_scheme t.now) l.targets);
}
