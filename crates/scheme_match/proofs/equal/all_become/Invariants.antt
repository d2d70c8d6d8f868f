use Rattle.std.proofs.Common.{◌↔◌, map, drop}
use Rattle.std.specs.List.{AllByRecursion}
use Rattle.scheme_terms.specs.View.{instance}
use Rattle.scheme_match.specs.Pairs.{matched}
use Rattle.scheme_match.specs.Demands.{Becomes}
use Rattle.scheme_match.proofs.equal.all_become.Given as goal

abbrev pub invariant-loop-pair : goal.invariant-loop-pair
invariant-loop-pair l =
    AllByRecursion (Becomes (instance l.inst)) (map matched (drop l.pair-index l.pairs)) ↔ AllByRecursion (Becomes (instance l.inst)) (map matched l.pairs)
