use Rattle.std.proofs.Common.{◌≡◌, map, take}
use Rattle.scheme_terms.specs.View.{scheme, scheme_part}
use Rattle.scheme_terms.proofs.copying.+copy.Given as goal

abbrev pub invariant-copy_values-loop-arg : goal.invariant-copy_values-loop-arg
invariant-copy_values-loop-arg l = map scheme l.all ≡ map scheme (take l.arg-index l.args)

abbrev pub invariant-copy_parts-loop-part : goal.invariant-copy_parts-loop-part
invariant-copy_parts-loop-part l = map scheme_part l.all ≡ map scheme_part (take l.part-index l.parts)
