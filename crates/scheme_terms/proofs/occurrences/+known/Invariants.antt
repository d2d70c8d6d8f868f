use Rattle.std.proofs.Common.{◌↔◌, map, drop}
use Rattle.scheme_terms.specs.SchemeTree.{values, KnownInValues, KnownInParts}
use Rattle.scheme_terms.specs.View.{scheme, scheme_parts}
use Rattle.scheme_terms.proofs.occurrences.+known.Given as goal

abbrev pub invariant-known_in_values-loop-arg : goal.invariant-known_in_values-loop-arg
invariant-known_in_values-loop-arg l =
    KnownInValues l.known (values (map scheme (drop l.arg-index l.args))) ↔ KnownInValues l.known (values (map scheme l.args))

abbrev pub invariant-known_in_parts-loop-part : goal.invariant-known_in_parts-loop-part
invariant-known_in_parts-loop-part l =
    KnownInParts l.known (scheme_parts (drop l.part-index l.parts)) ↔ KnownInParts l.known (scheme_parts l.parts)
