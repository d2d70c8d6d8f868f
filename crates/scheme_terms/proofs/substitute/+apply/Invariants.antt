use Rattle.std.proofs.Common.{◌≡◌, map, take}
use Rattle.scheme_terms.specs.Substituting.{applied}
use Rattle.scheme_terms.specs.View.{scheme, scheme_part, substitution}
use Rattle.scheme_terms.proofs.Parts.{applied_part}
use Rattle.scheme_terms.proofs.substitute.+apply.Given as goal

abbrev pub invariant-apply_values-loop-arg : goal.invariant-apply_values-loop-arg
invariant-apply_values-loop-arg l =
    map scheme l.all ≡ map (applied (substitution l.by).metas (substitution l.by).knowns l.locals) (map scheme (take l.arg-index l.args))

abbrev pub invariant-apply_parts-loop-part : goal.invariant-apply_parts-loop-part
invariant-apply_parts-loop-part l =
    map scheme_part l.all
    ≡ map (applied_part (substitution l.by).metas (substitution l.by).knowns l.locals) (map scheme_part (take l.part-index l.parts))
