use Rattle.std.proofs.Common.{◌↔◌, drop}
use Rattle.std.specs.List.{AllByRecursion}
use Rattle.rule_schemes.specs.Rules.{IsJudgment}
use Rattle.rule_schemes.specs.Derivation.{judgment}
use Rattle.rule_schemes.specs.View.{theory}
use Rattle.derivation_check.proofs.node.carry_judgments.Given as goal

abbrev pub invariant-loop-tree : goal.invariant-loop-tree
invariant-loop-tree l =
    AllByRecursion (λ d. IsJudgment (theory l.sys) (judgment d)) l.trees ↔ AllByRecursion (λ d. IsJudgment (theory l.sys) (judgment d)) (drop l.tree-index l.trees)
