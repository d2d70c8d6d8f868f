use Rattle.std.proofs.Common.{◌↔◌, map, drop}
use Rattle.std.specs.List.{AllByRecursion}
use Rattle.scheme_terms.specs.SchemeTree.{IsFreeOf}
use Rattle.scheme_terms.specs.View.{scheme}
use Rattle.rule_schemes.proofs.free.are_all_free_of.Given as goal

abbrev pub invariant-loop-arg : goal.invariant-loop-arg
invariant-loop-arg l =
    AllByRecursion (IsFreeOf l.index) (map scheme (drop l.arg-index l.args)) ↔ AllByRecursion (IsFreeOf l.index) (map scheme l.args)
