use Rattle.std.proofs.Common.{◌≡◌, map, drop}
use Rattle.binding_terms.specs.View.{tree}
use Rattle.derivation_text.specs.Text.{same_trees}
use Rattle.derivation_text.proofs.same.are_same.Given as goal

abbrev pub invariant-loop-i : goal.invariant-loop-i
invariant-loop-i l = same_trees (map tree (drop l.i l.a)) (map tree (drop l.i l.b)) ≡ same_trees (map tree l.a) (map tree l.b)
