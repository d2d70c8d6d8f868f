use Rattle.std.proofs.Common.{◌<◌, ℕ}
use Rattle.rule_schemes.specs.NewNames.{IsPlainSpelling}
use Rattle.notation_parser.proofs.new_names.category.Given as goal

abbrev pub invariant-loop-c : goal.invariant-loop-c
invariant-loop-c l = (d : ℕ) → d < l.c → IsPlainSpelling l.sig d l.word → ⊥
