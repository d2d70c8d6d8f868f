use Rattle.std.proofs.Common.{◌↔◌, drop}
use Rattle.binding_terms.specs.Numbered.{AreDifferent}
use Rattle.binding_terms.proofs.fitting.are_different.Given as goal

abbrev pub invariant-loop-i : goal.invariant-loop-i
invariant-loop-i l = AreDifferent l.numbers ↔ AreDifferent (drop l.i l.numbers)
