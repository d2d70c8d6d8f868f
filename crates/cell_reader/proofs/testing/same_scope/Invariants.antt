use Rattle.std.proofs.Common.{◌≡◌, map, take}
use Rattle.form_cells.specs.View.{variable}
use Rattle.cell_reader.proofs.testing.same_scope.Given as goal

abbrev pub invariant-loop-i : goal.invariant-loop-i
invariant-loop-i l = map variable (take l.i l.one) ≡ map variable (take l.i l.other)
