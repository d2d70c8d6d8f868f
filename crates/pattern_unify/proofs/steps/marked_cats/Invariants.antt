use Rattle.std.proofs.Common.{◌≡◌, ◌++◌, drop}
use Rattle.pattern_unify.specs.Patterns.{marked}
use Rattle.pattern_unify.proofs.steps.marked_cats.Given as goal

abbrev pub invariant-loop-i : goal.invariant-loop-i
invariant-loop-i l = l.all ++ marked (drop l.i l.keeps) (drop l.i l.params) ≡ marked l.keeps l.params
