use Rattle.std.proofs.Common.{◌↔◌, drop, map}
use Rattle.scheme_terms.specs.View.{known_variable}
use Rattle.notation_parser.specs.Renaming.{OccursInKnowns}
use Rattle.notation_parser.proofs.occurring.in_knowns.Given as goal

abbrev pub invariant-loop-known : goal.invariant-loop-known
invariant-loop-known l = OccursInKnowns l.m.0 (map known_variable (drop l.known-index l.knowns)) ↔ OccursInKnowns l.m.0 (map known_variable l.knowns)
