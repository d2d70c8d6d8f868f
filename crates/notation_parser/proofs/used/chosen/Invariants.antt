use Rattle.std.proofs.Common.{◌≡◌, take}
use Rattle.notation_parser.specs.Used.{marked}
use Rattle.notation_parser.proofs.used.chosen.Given as goal

abbrev pub invariant-loop-i : goal.invariant-loop-i
invariant-loop-i l = l.all ≡ marked (take l.i l.marks) (take l.i l.candidates)
