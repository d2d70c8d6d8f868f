use Rattle.std.proofs.Common.{◌≡◌, ◌++◌, map}
use Rattle.scheme_terms.specs.SchemeTree.{local, values}
use Rattle.scheme_terms.specs.Demands.{numbers, parameters_of}
use Rattle.scheme_terms.specs.View.{scheme}
use Rattle.scheme_terms.proofs.demand.parameter_schemes.Given as goal

abbrev pub invariant-loop-left : goal.invariant-loop-left
invariant-loop-left l =
    map scheme l.all.items ++ map local (parameters_of (numbers (values (map scheme l.args))) l.left)
    ≡ map local (parameters_of (numbers (values (map scheme l.args))) l.locals)

abbrev pub decreases-loop-left : goal.decreases-loop-left
decreases-loop-left l = l.left
