use Rattle.std.proofs.Common.{◌≡◌, ◌++◌, drop}
use Rattle.proof_trees.specs.Here.{input_marks}
use Rattle.proof_kernel.proofs.beginning.marks_of.Given as goal

abbrev pub invariant-loop-target : goal.invariant-loop-target
invariant-loop-target l = l.marks ++ input_marks l.number (drop l.target-index l.targets) ≡ input_marks l.number l.targets
