use Rattle.std.proofs.Common.{◌↔◌, map, drop}
use Rattle.binding_terms.specs.Numbered.{AnyByRecursion}
use Rattle.rule_schemes.specs.Statement.{OccursInJudgment}
use Rattle.rule_schemes.specs.View.{judgment_scheme}
use Rattle.rule_schemes.proofs.strict_statement.occurs_in_outputs.Given as goal

abbrev pub invariant-loop-output : goal.invariant-loop-output
invariant-loop-output l =
    AnyByRecursion (OccursInJudgment l.m.0) (map judgment_scheme (drop l.output-index l.outputs)) ↔ AnyByRecursion (OccursInJudgment l.m.0) (map judgment_scheme l.outputs)
