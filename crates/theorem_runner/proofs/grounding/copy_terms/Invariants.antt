use Rattle.std.proofs.Common.{◌≡◌, map, take}
use Rattle.binding_terms.specs.View.{tree}
use Rattle.theorem_runner.proofs.grounding.copy_terms.Given as goal

abbrev pub invariant-loop-arg : goal.invariant-loop-arg
invariant-loop-arg l = map tree l.all ≡ map tree (take l.arg-index l.args)
