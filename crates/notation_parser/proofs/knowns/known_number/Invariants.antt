use Rattle.std.proofs.Common.{◌≢◌, map, take}
use Rattle.std.specs.List.{AllByRecursion}
use Rattle.scheme_terms.specs.View.{known_variable}
use Rattle.notation_parser.proofs.knowns.known_number.Given as goal

abbrev pub invariant-loop-i : goal.invariant-loop-i
invariant-loop-i l = AllByRecursion (λ k. k.name ≢ l.name) (map known_variable (take l.i l.knowns))
