use Rattle.std.proofs.Common.{◌≡◌, ◌^◌, ◌-◌, min, sum_by, map, take}
use Rattle.binding_terms.specs.View.{arg_tree}
use Rattle.binding_terms.proofs.Args.{arg_size}
use Rattle.binding_terms.proofs.term.size_all.Given as goal

abbrev pub invariant-loop-arg : goal.invariant-loop-arg
invariant-loop-arg l = l.total ≡ min (sum_by arg_size (map arg_tree (take l.arg-index l.args))) (2 ^ 64 - 1)
