use Rattle.std.proofs.Common.{◌↔◌, map, drop}
use Rattle.binding_terms.specs.Numbered.{AnyByRecursion}
use Rattle.scheme_terms.specs.SchemeTree.{OccursIn}
use Rattle.scheme_terms.specs.View.{scheme}
use Rattle.pattern_unify.proofs.left.stands_in.Given as goal

abbrev pub invariant-loop-value : goal.invariant-loop-value
invariant-loop-value l =
    AnyByRecursion (OccursIn l.m.0) (map scheme l.all) ↔ AnyByRecursion (OccursIn l.m.0) (map scheme (drop l.value-index l.all))
