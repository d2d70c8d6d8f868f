use Rattle.std.proofs.Common.{◌≡◌}
use Rattle.proof_trees.specs.Here.{holding, nones}
use Rattle.proof_kernel.specs.View.{here}
use Rattle.proof_kernel.proofs.here.Here.push_nothing.Given as goal

abbrev pub invariant-loop-i : goal.invariant-loop-i
invariant-loop-i l = here l.self ≡ holding (here l.fn.self) (nones l._i)
