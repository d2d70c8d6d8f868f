use Rattle.std.proofs.Common.{◌↔◌, map, drop}
use Rattle.rule_schemes.specs.Touching.{RulesTouch}
use Rattle.rule_schemes.specs.View.{rule}
use Rattle.rule_schemes.proofs.touching.rules_touch.Given as goal

abbrev pub invariant-loop-rule : goal.invariant-loop-rule
invariant-loop-rule l =
    RulesTouch l.sig (map rule (drop l.rule-index l.rules)) l.rows l.context.0 l.judgment.0
    ↔ RulesTouch l.sig (map rule l.rules) l.rows l.context.0 l.judgment.0
