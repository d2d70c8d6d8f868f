use Rattle.std.proofs.Common.{◌≡◌, map, take}
use Rattle.scheme_terms.specs.View.{scheme_entry}
use Rattle.proof_kernel.proofs.same.same_entries.Given as goal

abbrev pub invariant-loop-i : goal.invariant-loop-i
invariant-loop-i l = map scheme_entry (take l.i l.xs) ≡ map scheme_entry (take l.i l.ys)
