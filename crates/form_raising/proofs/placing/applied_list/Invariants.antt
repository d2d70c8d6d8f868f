use Rattle.std.proofs.Common.{◌≡◌, map, take}
use Rattle.scheme_terms.specs.Substituting.{applied}
use Rattle.scheme_terms.specs.View.{scheme, substitution}
use Rattle.form_raising.proofs.placing.applied_list.Given as goal

abbrev pub invariant-loop-arg : goal.invariant-loop-arg
invariant-loop-arg l =
    map scheme l.all ≡ map (applied (substitution l.by).metas (substitution l.by).knowns l.locals) (map scheme (take l.arg-index l.args))
