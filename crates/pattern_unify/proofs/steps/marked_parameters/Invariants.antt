use Rattle.std.proofs.Common.{◌≡◌, ◌++◌, map, drop}
use Rattle.scheme_terms.specs.Substituting.{parameters}
use Rattle.scheme_terms.specs.View.{scheme}
use Rattle.pattern_unify.specs.Patterns.{marked}
use Rattle.pattern_unify.proofs.steps.marked_parameters.Given as goal

abbrev pub invariant-loop-i : goal.invariant-loop-i
invariant-loop-i l = map scheme l.all ++ marked (drop l.i l.keeps) (parameters l.left) ≡ marked l.keeps (parameters l.count)
