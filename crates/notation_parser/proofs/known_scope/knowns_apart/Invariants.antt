use Rattle.std.proofs.Common.{◌↔◌, drop, map}
use Rattle.scheme_terms.specs.View.{known_variable}
use Rattle.notation_parser.specs.Shapes.{KnownsApart}
use Rattle.notation_parser.proofs.known_scope.knowns_apart.Given as goal

abbrev pub invariant-loop-i : goal.invariant-loop-i
invariant-loop-i l = KnownsApart (map known_variable (drop l.i l.knowns)) ↔ KnownsApart (map known_variable l.knowns)
