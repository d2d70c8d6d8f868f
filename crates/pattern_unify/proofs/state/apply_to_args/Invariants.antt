use Rattle.std.proofs.Common.{◌≡◌, map, take}
use Rattle.scheme_terms.specs.Substituting.{applied}
use Rattle.scheme_terms.specs.View.{scheme, substitution}
use Rattle.pattern_unify.proofs.state.apply_to_args.Given as goal

abbrev pub invariant-loop-arg : goal.invariant-loop-arg
invariant-loop-arg l = map scheme l.all ≡ map (applied (substitution l.by).metas (substitution l.by).knowns 0) (map scheme (take l.arg-index l.args))
