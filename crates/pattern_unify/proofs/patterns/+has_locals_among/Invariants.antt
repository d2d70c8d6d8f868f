use Rattle.std.proofs.Common.{◌↔◌, map, drop}
use Rattle.scheme_terms.specs.SchemeTree.{values}
use Rattle.scheme_terms.specs.View.{scheme, scheme_parts}
use Rattle.pattern_unify.specs.Patterns.{HaveLocalsAmong, PartsHaveLocalsAmong}
use Rattle.pattern_unify.proofs.patterns.+has_locals_among.Given as goal

abbrev pub invariant-values_have_locals_among-loop-one : goal.invariant-values_have_locals_among-loop-one
invariant-values_have_locals_among-loop-one l =
    HaveLocalsAmong (values (map scheme l.args)) l.binders (values (map scheme (drop l.one-index l.schemes)))
    ↔ HaveLocalsAmong (values (map scheme l.args)) l.binders (values (map scheme l.schemes))

abbrev pub invariant-parts_have_locals_among-loop-part : goal.invariant-parts_have_locals_among-loop-part
invariant-parts_have_locals_among-loop-part l =
    PartsHaveLocalsAmong (values (map scheme l.args)) l.binders (scheme_parts (drop l.part-index l.parts))
    ↔ PartsHaveLocalsAmong (values (map scheme l.args)) l.binders (scheme_parts l.parts)
