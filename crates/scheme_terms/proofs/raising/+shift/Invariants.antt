use Rattle.std.proofs.Common.{◌≡◌, map, take}
use Rattle.scheme_terms.specs.SchemeTree.{shifted}
use Rattle.scheme_terms.specs.View.{scheme, scheme_part}
use Rattle.scheme_terms.proofs.Parts.{shifted_part}
use Rattle.scheme_terms.proofs.raising.+shift.Given as goal

abbrev pub invariant-shift_values-loop-arg : goal.invariant-shift_values-loop-arg
invariant-shift_values-loop-arg l = map scheme l.all ≡ map (shifted l.cut l.by) (map scheme (take l.arg-index l.args))

abbrev pub invariant-shift_parts-loop-part : goal.invariant-shift_parts-loop-part
invariant-shift_parts-loop-part l =
    map scheme_part l.all ≡ map (shifted_part l.cut l.by) (map scheme_part (take l.part-index l.parts))
