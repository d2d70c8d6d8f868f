use Rattle.std.proofs.Common.{◌≡◌, map, take}
use Rattle.binding_terms.specs.View.{arg_tree}
use Rattle.binding_terms.proofs.Args.{shifted_arg}
use Rattle.binding_terms.proofs.term.+shift.Given as goal

abbrev pub invariant-shift_all-loop-arg : goal.invariant-shift_all-loop-arg
invariant-shift_all-loop-arg l = map arg_tree l.all.items ≡ map (shifted_arg l.cut l.by) (map arg_tree (take l.arg-index l.args))
