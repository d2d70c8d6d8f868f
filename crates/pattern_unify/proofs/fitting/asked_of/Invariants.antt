use Rattle.std.proofs.Common.{◌↔◌, map, drop}
use Rattle.scheme_terms.specs.SchemeTree.{SchemeTree}
use Rattle.pattern_unify.specs.Equations.{equation}
use Rattle.pattern_unify.specs.Asked.{IsAsked}
use Rattle.pattern_unify.proofs.fitting.asked_of.Given as goal

-- what is asked by those that are left is what is asked by all
abbrev pub invariant-loop-equation : goal.invariant-loop-equation
invariant-loop-equation l =
    (v : SchemeTree) → IsAsked (map equation (drop l.equation-index l.eqs)) l.name.0 v ↔ IsAsked (map equation l.eqs) l.name.0 v
