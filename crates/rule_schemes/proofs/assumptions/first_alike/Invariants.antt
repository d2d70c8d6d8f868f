use Rattle.std.proofs.Common.{map, drop}
use Rattle.std.specs.List.{AllByRecursion}
use Rattle.rule_schemes.specs.Refused.{AssumeAlike}
use Rattle.rule_schemes.specs.View.{rule}
use Rattle.rule_schemes.proofs.assumptions.first_alike.Given as goal

abbrev pub invariant-loop-i : goal.invariant-loop-i
invariant-loop-i l =
    AllByRecursion (λ s. AssumeAlike s (rule l.r) → ⊥) (map rule (drop l.i l.rules)) → AllByRecursion (λ s. AssumeAlike s (rule l.r) → ⊥) (map rule l.rules)
