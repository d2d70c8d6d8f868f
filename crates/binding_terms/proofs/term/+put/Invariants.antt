use Rattle.std.proofs.Common.{◌≡◌, map, take}
use Rattle.binding_terms.specs.View.{tree, arg_tree}
use Rattle.binding_terms.proofs.Args.{put_in_arg}
use Rattle.binding_terms.proofs.term.+put.Given as goal

abbrev pub invariant-put_all-loop-arg : goal.invariant-put_all-loop-arg
invariant-put_all-loop-arg l = map arg_tree l.all.items ≡ map (put_in_arg l.at (tree l.with)) (map arg_tree (take l.arg-index l.args))
