use Rattle.std.proofs.Common.{◌↔◌, map, drop}
use Rattle.scheme_terms.specs.SchemeTree.{values, IsApart}
use Rattle.scheme_terms.specs.View.{scheme}
use Rattle.scheme_terms.proofs.strict.is_apart.Given as goal

abbrev pub invariant-loop-arg : goal.invariant-loop-arg
invariant-loop-arg l =
    IsApart l.index (values (map scheme (drop l.arg-index l.args))) ↔ IsApart l.index (values (map scheme l.args))
