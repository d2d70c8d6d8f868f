use Rattle.std.proofs.Common.{◌↔◌, drop}
use Rattle.rule_schemes.specs.NewNames.{AreDifferentWords}
use Rattle.notation_parser.proofs.parameters.are_different.Given as goal

abbrev pub invariant-loop-i : goal.invariant-loop-i
invariant-loop-i l = AreDifferentWords (drop l.i l.words) ↔ AreDifferentWords l.words
