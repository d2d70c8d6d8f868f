use Rattle.std.proofs.Common.{◌<◌, ℕ}
use Rattle.rule_schemes.specs.Reading.{IsVariableWord}
use Rattle.notation_parser.proofs.parameters.variable_category.Given as goal

abbrev pub invariant-loop-c : goal.invariant-loop-c
invariant-loop-c l = (d : ℕ) → d < l.c → IsVariableWord l.sig d l.word → ⊥
