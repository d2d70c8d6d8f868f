use Rattle.std.proofs.Common.{◌≡◌, ◌^◌, ◌-◌, min, take}
use Rattle.rule_schemes.specs.Derivation.{heights}
use Rattle.derivation_check.specs.Parts.{subtrees_of}
use Rattle.derivation_check.proofs.deriv.height_all.Given as goal

abbrev pub invariant-loop-one : goal.invariant-loop-one
invariant-loop-one l = l.most ≡ min (heights (subtrees_of (take l.one-index l.all))) (2 ^ 64 - 1)
