use Rattle.std.proofs.Common.{◌≡◌, map, take}
use Rattle.scheme_terms.specs.View.{known_variable}
use Rattle.notation_parser.proofs.copies.knowns_again.Given as goal

abbrev pub invariant-loop-known : goal.invariant-loop-known
invariant-loop-known l = map known_variable l.all ≡ map known_variable (take l.known-index l.knowns)
