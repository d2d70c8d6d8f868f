use Rattle.std.proofs.Common.{◌↔◌, map, drop}
use Rattle.binding_terms.specs.View.{tree}
use Rattle.scheme_terms.specs.SchemeTree.{SchemeTree}
use Rattle.scheme_terms.specs.View.{scheme}
use Rattle.scheme_match.specs.Demands.{ListDemands}
use Rattle.scheme_match.proofs.asked.asked_in_list.Given as goal

abbrev pub invariant-loop-i : goal.invariant-loop-i
invariant-loop-i l =
    (v : SchemeTree) → ListDemands l.m.0 l.locals (map scheme (drop l.i l.patterns)) (map tree (drop l.i l.targets)) v
    ↔ ListDemands l.m.0 l.locals (map scheme l.patterns) (map tree l.targets) v
