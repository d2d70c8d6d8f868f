use Rattle.std.proofs.Common.{◌↔◌, map, drop}
use Rattle.binding_terms.specs.Numbered.{AnyByRecursion}
use Rattle.rule_schemes.specs.Statement.{StrictInInput}
use Rattle.rule_schemes.specs.View.{statement_input}
use Rattle.rule_schemes.proofs.strict_statement.strict_in_inputs.Given as goal

abbrev pub invariant-loop-input : goal.invariant-loop-input
invariant-loop-input l =
    AnyByRecursion (StrictInInput l.m.0) (map statement_input (drop l.input-index l.inputs)) ↔ AnyByRecursion (StrictInInput l.m.0) (map statement_input l.inputs)
