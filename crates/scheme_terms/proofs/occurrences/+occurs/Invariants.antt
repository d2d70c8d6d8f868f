use Rattle.std.proofs.Common.{◌↔◌, map, drop}
use Rattle.scheme_terms.specs.SchemeTree.{values, OccursInValues, OccursInParts}
use Rattle.scheme_terms.specs.View.{scheme, scheme_parts}
use Rattle.scheme_terms.proofs.occurrences.+occurs.Given as goal

abbrev pub invariant-occurs_in_values-loop-arg : goal.invariant-occurs_in_values-loop-arg
invariant-occurs_in_values-loop-arg l =
    OccursInValues l.m.0 (values (map scheme (drop l.arg-index l.args))) ↔ OccursInValues l.m.0 (values (map scheme l.args))

abbrev pub invariant-occurs_in_parts-loop-part : goal.invariant-occurs_in_parts-loop-part
invariant-occurs_in_parts-loop-part l =
    OccursInParts l.m.0 (scheme_parts (drop l.part-index l.parts)) ↔ OccursInParts l.m.0 (scheme_parts l.parts)
