-- What is left to drop becomes less.
use Rattle.std.proofs.Common.{◌≡◌, ◌+◌, List, [], ◌∷◌, ◌++◌, arith}
use Rattle.binding_terms.specs.Tree.{arg_nodes}
use Rattle.binding_terms.specs.View.{args_tree}
use Rattle.binding_terms.specs.declared.term.Arg.{Arg}

pub nodes_append : (xs ys : List Arg) → arg_nodes (args_tree (xs ++ ys)) ≡ arg_nodes (args_tree xs) + arg_nodes (args_tree ys)
nodes_append [] ys = omega arith
nodes_append (x ∷ xs) ys = omega (arith, nodes_append xs ys)
