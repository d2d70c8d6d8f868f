use Rattle.std.proofs.Common.{map, take}
use Rattle.binding_terms.specs.Tree.{free_args, Bounds}
use Rattle.binding_terms.specs.View.{args_of, arg_tree}
use Rattle.binding_terms.proofs.term.bound_all.Given as goal

abbrev pub invariant-loop-arg : goal.invariant-loop-arg
invariant-loop-arg l = Bounds l.most (free_args (args_of (map arg_tree (take l.arg-index l.args))))
