use Rattle.std.proofs.Common.{◌↔◌, drop}
use Rattle.scheme_terms.specs.SchemeTree.{SchemeTree}
use Rattle.scheme_terms.specs.Demands.{PartsDemand}
use Rattle.scheme_terms.specs.View.{scheme_parts}
use Rattle.scheme_terms.proofs.demand.+demanded_scheme.Given as goal

abbrev pub invariant-demanded_in_schemes-loop-i : goal.invariant-demanded_in_schemes-loop-i
invariant-demanded_in_schemes-loop-i l =
    (v : SchemeTree) → PartsDemand l.m.0 l.locals (scheme_parts (drop l.i l.patterns)) (scheme_parts (drop l.i l.targets)) v
    ↔ PartsDemand l.m.0 l.locals (scheme_parts l.patterns) (scheme_parts l.targets) v
