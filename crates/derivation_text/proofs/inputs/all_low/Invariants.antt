use Rattle.std.proofs.Common.{◌↔◌, ◌≤◌, drop}
use Rattle.std.specs.List.{AllByRecursion}
use Rattle.rule_schemes.specs.Derivation.{height}
use Rattle.derivation_text.specs.Inputs.{HEIGHT}
use Rattle.derivation_text.proofs.inputs.all_low.Given as goal

abbrev pub invariant-loop-one : goal.invariant-loop-one
invariant-loop-one l = AllByRecursion (λ d. height d ≤ HEIGHT) l.trees ↔ AllByRecursion (λ d. height d ≤ HEIGHT) (drop l.one-index l.trees)
