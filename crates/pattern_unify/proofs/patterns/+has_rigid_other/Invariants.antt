use Rattle.std.proofs.Common.{◌↔◌, map, drop}
use Rattle.scheme_terms.specs.SchemeTree.{values}
use Rattle.scheme_terms.specs.View.{scheme, scheme_parts}
use Rattle.pattern_unify.specs.Patterns.{PartsHaveRigidOther}
use Rattle.pattern_unify.proofs.patterns.+has_rigid_other.Given as goal

abbrev pub invariant-has_rigid_other_in_parts-loop-part : goal.invariant-has_rigid_other_in_parts-loop-part
invariant-has_rigid_other_in_parts-loop-part l =
    PartsHaveRigidOther (values (map scheme l.args)) l.binders (scheme_parts (drop l.part-index l.parts))
    ↔ PartsHaveRigidOther (values (map scheme l.args)) l.binders (scheme_parts l.parts)
