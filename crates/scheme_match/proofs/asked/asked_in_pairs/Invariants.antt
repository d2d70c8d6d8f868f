use Rattle.std.proofs.Common.{◌↔◌, map, drop}
use Rattle.scheme_terms.specs.SchemeTree.{SchemeTree}
use Rattle.scheme_terms.specs.View.{context_value}
use Rattle.scheme_match.specs.Pairs.{matched}
use Rattle.scheme_match.specs.Demands.{PairsDemand}
use Rattle.scheme_match.proofs.asked.asked_in_pairs.Given as goal

abbrev pub invariant-loop-pair : goal.invariant-loop-pair
invariant-loop-pair l =
    (v : SchemeTree) → PairsDemand (context_value l.root) l.m.0 (map matched (drop l.pair-index l.pairs)) v
    ↔ PairsDemand (context_value l.root) l.m.0 (map matched l.pairs) v
