use Rattle.std.proofs.Common.{◌↔◌, drop, map}
use Rattle.binding_terms.specs.Numbered.{AnyByRecursion}
use Rattle.rule_schemes.specs.Rules.{StrictInJudgment}
use Rattle.rule_schemes.specs.View.{judgment_scheme}
use Rattle.rule_schemes.proofs.strict.strict_in_judgments.Given as goal

abbrev pub invariant-loop-j : goal.invariant-loop-j
invariant-loop-j l = AnyByRecursion (StrictInJudgment l.m.0) (map judgment_scheme (drop l.j-index l.js)) ↔ AnyByRecursion (StrictInJudgment l.m.0) (map judgment_scheme l.js)
