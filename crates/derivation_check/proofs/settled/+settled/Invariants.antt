use Rattle.std.proofs.Common.{◌↔◌, map, drop}
use Rattle.scheme_terms.specs.SchemeTree.{values}
use Rattle.scheme_terms.specs.View.{scheme, scheme_parts}
use Rattle.rule_schemes.specs.View.{statement_input}
use Rattle.derivation_check.specs.Fitting.{ValuesSettled, PartsSettled}
use Rattle.derivation_check.proofs.settled.+settled.Given as goal

abbrev pub invariant-values_settled-loop-arg : goal.invariant-values_settled-loop-arg
invariant-values_settled-loop-arg l =
    ValuesSettled (map statement_input l.inputs) (values (map scheme (drop l.arg-index l.args))) ↔ ValuesSettled (map statement_input l.inputs) (values (map scheme l.args))

abbrev pub invariant-parts_settled-loop-part : goal.invariant-parts_settled-loop-part
invariant-parts_settled-loop-part l =
    PartsSettled (map statement_input l.inputs) (scheme_parts (drop l.part-index l.parts)) ↔ PartsSettled (map statement_input l.inputs) (scheme_parts l.parts)
