use Rattle.std.proofs.Common.{◌↔◌, drop}
use Rattle.scheme_terms.specs.View.{scheme_parts}
use Rattle.pattern_unify.specs.Patterns.{IsRigidInParts}
use Rattle.pattern_unify.proofs.patterns.+is_rigid_in.Given as goal

abbrev pub invariant-is_rigid_in_parts-loop-part : goal.invariant-is_rigid_in_parts-loop-part
invariant-is_rigid_in_parts-loop-part l = IsRigidInParts l.m.0 (scheme_parts (drop l.part-index l.parts)) ↔ IsRigidInParts l.m.0 (scheme_parts l.parts)
