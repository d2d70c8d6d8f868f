use Rattle.std.proofs.Common.{◌≡◌, ◌^◌, ◌-◌, min, sum_by, take}
use Rattle.rule_schemes.specs.Derivation.{size}
use Rattle.derivation_text.proofs.inputs.size_all.Given as goal

abbrev pub invariant-loop-one : goal.invariant-loop-one
invariant-loop-one l = l.total ≡ min (sum_by size (take l.one-index l.trees)) (2 ^ 64 - 1)
