use Rattle.std.proofs.Common.{◌≡◌, map, drop}
use Rattle.scheme_terms.specs.SchemeTree.{values}
use Rattle.scheme_terms.specs.Demands.{numbers, parameter_of}
use Rattle.scheme_terms.specs.View.{scheme}
use Rattle.scheme_terms.proofs.demand.parameter_of.Given as goal

abbrev pub invariant-loop-at : goal.invariant-loop-at
invariant-loop-at l =
    parameter_of (numbers (values (map scheme (drop l.at l.args)))) l.index ≡ parameter_of (numbers (values (map scheme l.args))) l.index
