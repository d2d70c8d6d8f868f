use Rattle.std.proofs.Common.{◌↔◌, map, drop}
use Rattle.binding_terms.specs.Numbered.{AnyByRecursion}
use Rattle.rule_schemes.specs.Touching.{IsMarkedIn}
use Rattle.rule_schemes.specs.View.{judgment_scheme}
use Rattle.rule_schemes.proofs.keeping.is_below_some.Given as goal

abbrev pub invariant-loop-premise : goal.invariant-loop-premise
invariant-loop-premise l =
    AnyByRecursion (λ p. IsMarkedIn l.rows p.judgment l.below.0) (map judgment_scheme (drop l.premise-index l.premises))
    ↔ AnyByRecursion (λ p. IsMarkedIn l.rows p.judgment l.below.0) (map judgment_scheme l.premises)
