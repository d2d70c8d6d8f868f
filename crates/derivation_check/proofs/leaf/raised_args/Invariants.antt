use Rattle.std.proofs.Common.{◌≡◌, map, take}
use Rattle.binding_terms.specs.Tree.{shifted}
use Rattle.binding_terms.specs.View.{tree}
use Rattle.derivation_check.proofs.leaf.raised_args.Given as goal

abbrev pub invariant-loop-arg : goal.invariant-loop-arg
invariant-loop-arg l = map tree l.all.items ≡ map (shifted 0 l.by) (map tree (take l.arg-index l.args))
