use Rattle.std.proofs.Common.{◌↔◌, map, drop}
use Rattle.scheme_terms.specs.SchemeTree.{values}
use Rattle.scheme_terms.specs.View.{scheme, scheme_parts}
use Rattle.notation_parser.specs.Below.{ValuesBelow, PartsBelow}
use Rattle.notation_parser.proofs.known_scope.+below.Given as goal

abbrev pub invariant-values_below-loop-arg : goal.invariant-values_below-loop-arg
invariant-values_below-loop-arg l =
    ValuesBelow l.count (values (map scheme (drop l.arg-index l.args))) ↔ ValuesBelow l.count (values (map scheme l.args))

abbrev pub invariant-parts_below-loop-part : goal.invariant-parts_below-loop-part
invariant-parts_below-loop-part l =
    PartsBelow l.count (scheme_parts (drop l.part-index l.parts)) ↔ PartsBelow l.count (scheme_parts l.parts)
