use Rattle.std.proofs.Common.{◌↔◌, map, drop}
use Rattle.scheme_terms.specs.SchemeTree.{values}
use Rattle.scheme_terms.specs.View.{scheme}
use Rattle.pattern_unify.specs.Pruning.{HasOther}
use Rattle.pattern_unify.proofs.pruning.has_other.Given as goal

abbrev pub invariant-loop-other : goal.invariant-loop-other
invariant-loop-other l =
    HasOther (values (map scheme l.args)) l.binders (values (map scheme (drop l.other-index l.others)))
    ↔ HasOther (values (map scheme l.args)) l.binders (values (map scheme l.others))
