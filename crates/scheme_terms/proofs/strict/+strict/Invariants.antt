use Rattle.std.proofs.Common.{◌↔◌, drop}
use Rattle.scheme_terms.specs.SchemeTree.{StrictInParts}
use Rattle.scheme_terms.specs.View.{scheme_parts}
use Rattle.scheme_terms.proofs.strict.+strict.Given as goal

abbrev pub invariant-strict_in_parts-loop-part : goal.invariant-strict_in_parts-loop-part
invariant-strict_in_parts-loop-part l =
    StrictInParts l.m.0 (scheme_parts (drop l.part-index l.parts)) ↔ StrictInParts l.m.0 (scheme_parts l.parts)
