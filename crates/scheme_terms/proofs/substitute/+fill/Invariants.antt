use Rattle.std.proofs.Common.{◌≡◌, ◌+◌, map, take}
use Rattle.scheme_terms.specs.SchemeTree.{under, filled}
use Rattle.scheme_terms.specs.Substituting.{argument_or_local}
use Rattle.scheme_terms.specs.View.{scheme, scheme_part}
use Rattle.scheme_terms.proofs.Parts.{filled_part}
use Rattle.scheme_terms.proofs.substitute.+fill.Given as goal

abbrev pub invariant-fill_values-loop-one : goal.invariant-fill_values-loop-one
invariant-fill_values-loop-one l =
    map scheme l.all ≡ map (filled (under l.depth (argument_or_local l.locals (map scheme l.args)))) (map scheme (take l.one-index l.own))

abbrev pub invariant-fill_parts-loop-part : goal.invariant-fill_parts-loop-part
invariant-fill_parts-loop-part l =
    map scheme_part l.all
    ≡ map (filled_part (λ n. under (l.depth + n) (argument_or_local l.locals (map scheme l.args)))) (map scheme_part (take l.part-index l.parts))
