use Rattle.std.proofs.Common.{◌≡◌, map, take}
use Rattle.scheme_terms.specs.View.{known_variable}
use Rattle.notation_parser.proofs.sameness.same_knowns.Given as goal

abbrev pub invariant-loop-i : goal.invariant-loop-i
invariant-loop-i l = map known_variable (take l.i l.xs) ≡ map known_variable (take l.i l.ys)
