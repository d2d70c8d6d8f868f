use Rattle.std.proofs.Common.{◌↔◌, map, drop}
use Rattle.binding_terms.specs.Numbered.{AnyByRecursion}
use Rattle.rule_schemes.specs.Touching.{RulesTouch}
use Rattle.rule_schemes.specs.View.{judgment_scheme, rule}
use Rattle.rule_schemes.proofs.touching.premises_touch.Given as goal

abbrev pub invariant-loop-premise : goal.invariant-loop-premise
invariant-loop-premise l =
    AnyByRecursion (λ p. RulesTouch l.sig (map rule l.rules) l.rows l.context.0 p.judgment) (map judgment_scheme (drop l.premise-index l.premises))
    ↔ AnyByRecursion (λ p. RulesTouch l.sig (map rule l.rules) l.rows l.context.0 p.judgment) (map judgment_scheme l.premises)
