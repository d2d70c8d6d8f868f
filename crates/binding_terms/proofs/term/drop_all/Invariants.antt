use Rattle.binding_terms.specs.Tree.{arg_nodes}
use Rattle.binding_terms.specs.View.{args_tree}
use Rattle.binding_terms.proofs.term.drop_all.Given as goal

abbrev pub decreases-loop-arg : goal.decreases-loop-arg
decreases-loop-arg l = arg_nodes (args_tree l.left.items)
