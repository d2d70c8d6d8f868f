use Rattle.std.proofs.Common.{◌≡◌, map, take}
use Rattle.scheme_terms.specs.Substituting.{applied}
use Rattle.scheme_terms.specs.View.{scheme, substitution}
use Rattle.pattern_unify.proofs.kept.args_become.Given as goal

abbrev pub invariant-loop-i : goal.invariant-loop-i
invariant-loop-i l =
    map scheme (take l.i l.others) ≡ map (applied (substitution l.by).metas (substitution l.by).knowns 0) (map scheme (take l.i l.args))
