use Rattle.std.proofs.Common.{◌↔◌, map, drop}
use Rattle.rule_schemes.specs.View.{statement_input}
use Rattle.derivation_check.specs.Fitting.{IsSettled}
use Rattle.derivation_check.proofs.settled.is_settled.Given as goal

abbrev pub invariant-loop-input : goal.invariant-loop-input
invariant-loop-input l = IsSettled (map statement_input (drop l.input-index l.inputs)) l.m.0 ↔ IsSettled (map statement_input l.inputs) l.m.0
