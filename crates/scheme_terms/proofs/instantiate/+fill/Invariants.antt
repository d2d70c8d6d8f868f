use Rattle.std.proofs.Common.{◌≡◌, ◌+◌, ◌*◌, map, take}
use Rattle.binding_terms.specs.Substitution.{under}
use Rattle.binding_terms.specs.View.{tree, arg_tree, args_tree}
use Rattle.binding_terms.specs.Tree.{nodes, arg_nodes}
use Rattle.scheme_terms.specs.Instance.{argument_or_root}
use Rattle.scheme_terms.proofs.Lists.{filled_arg}
use Rattle.scheme_terms.proofs.instantiate.+fill.Given as goal

abbrev pub invariant-fill_all-loop-part : goal.invariant-fill_all-loop-part
invariant-fill_all-loop-part l =
    map arg_tree l.all.items
    ≡ map (filled_arg (λ n. under (l.depth + n) (argument_or_root l.locals (map tree l.args)))) (map arg_tree (take l.part-index l.parts))

abbrev pub decreases-fill : goal.decreases-fill
decreases-fill a = 2 * nodes (tree a.value.now)

abbrev pub decreases-fill_all : goal.decreases-fill_all
decreases-fill_all a = 2 * arg_nodes (args_tree a.parts.now) + 1
