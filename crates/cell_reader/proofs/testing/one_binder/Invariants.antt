use Rattle.std.proofs.Common.{◌≡◌, drop}
use Rattle.binding_terms.specs.Signature.{binders}
use Rattle.cell_reader.proofs.testing.one_binder.Given as goal

abbrev pub invariant-loop-i : goal.invariant-loop-i
invariant-loop-i l = binders (drop l.at l.items) ≡ binders (drop l.i l.items)
