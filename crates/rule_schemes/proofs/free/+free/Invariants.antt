use Rattle.std.proofs.Common.{◌↔◌, map, drop}
use Rattle.scheme_terms.specs.SchemeTree.{values, AreFreeOf, PartsFreeOf}
use Rattle.scheme_terms.specs.View.{scheme, scheme_parts}
use Rattle.rule_schemes.proofs.free.+free.Given as goal

abbrev pub invariant-are_free_of-loop-arg : goal.invariant-are_free_of-loop-arg
invariant-are_free_of-loop-arg l =
    AreFreeOf l.index (values (map scheme (drop l.arg-index l.args))) ↔ AreFreeOf l.index (values (map scheme l.args))

abbrev pub invariant-parts_free_of-loop-part : goal.invariant-parts_free_of-loop-part
invariant-parts_free_of-loop-part l =
    PartsFreeOf l.index (scheme_parts (drop l.part-index l.parts)) ↔ PartsFreeOf l.index (scheme_parts l.parts)
