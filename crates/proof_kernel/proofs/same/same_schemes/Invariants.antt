use Rattle.std.proofs.Common.{◌≡◌, map, take}
use Rattle.scheme_terms.specs.View.{scheme}
use Rattle.proof_kernel.proofs.same.same_schemes.Given as goal

abbrev pub invariant-loop-i : goal.invariant-loop-i
invariant-loop-i l = map scheme (take l.i l.xs) ≡ map scheme (take l.i l.ys)
