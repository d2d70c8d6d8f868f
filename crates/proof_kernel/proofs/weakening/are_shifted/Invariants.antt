use Rattle.std.proofs.Common.{◌≡◌, map, take}
use Rattle.scheme_terms.specs.SchemeTree.{shifted}
use Rattle.scheme_terms.specs.View.{scheme}
use Rattle.proof_kernel.proofs.weakening.are_shifted.Given as goal

abbrev pub invariant-loop-i : goal.invariant-loop-i
invariant-loop-i l = map scheme (take l.i l.to) ≡ map (shifted 0 1) (map scheme (take l.i l.from))
