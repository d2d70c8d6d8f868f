use Rattle.std.proofs.Common.{◌≡◌, map, take}
use Rattle.scheme_terms.specs.Substituting.{applied}
use Rattle.scheme_terms.specs.View.{scheme, substitution}
use Rattle.scheme_terms.proofs.substitute.compose_metas.Given as goal

abbrev pub invariant-loop-value : goal.invariant-loop-value
invariant-loop-value l =
    map scheme l.all ≡ map (applied (substitution l.after).metas (substitution l.after).knowns 0) (map scheme (take l.value-index l.metas))
