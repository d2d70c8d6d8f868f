use Rattle.std.proofs.Common.{◌≤◌, ◌^◌, ℕ, map, drop}
use Rattle.scheme_terms.specs.SchemeTree.{values, AreFreeOf, PartsFreeOf}
use Rattle.scheme_terms.specs.View.{scheme, scheme_parts}
use Rattle.rule_schemes.proofs.free.+past.Given as goal

abbrev pub invariant-none_past-loop-arg : goal.invariant-none_past-loop-arg
invariant-none_past-loop-arg l =
    (i : ℕ) → 2 ^ 64 ≤ i → AreFreeOf i (values (map scheme (drop l.arg-index l.args))) → AreFreeOf i (values (map scheme l.args))

abbrev pub invariant-no_part_past-loop-part : goal.invariant-no_part_past-loop-part
invariant-no_part_past-loop-part l =
    (i : ℕ) → 2 ^ 64 ≤ i → PartsFreeOf i (scheme_parts (drop l.part-index l.parts)) → PartsFreeOf i (scheme_parts l.parts)
