use Rattle.std.proofs.Common.{◌≡◌, map, take}
use Rattle.binding_terms.specs.View.{arg_tree}
use Rattle.binding_terms.proofs.term.+same.Given as goal

abbrev pub invariant-same_all-loop-i : goal.invariant-same_all-loop-i
invariant-same_all-loop-i l = map arg_tree (take l.i l.xs) ≡ map arg_tree (take l.i l.ys)
