use Rattle.std.proofs.Common.{◌≡◌, ◌++◌, map, drop}
use Rattle.rule_schemes.specs.View.{judgment_scheme, statement_input}
use Rattle.core_proofs.specs.Proof.{given_judgments}
use Rattle.core_proofs.proofs.scoping.given_forms.Given as goal

abbrev pub invariant-loop-input : goal.invariant-loop-input
invariant-loop-input l =
    map judgment_scheme l.all.items ++ given_judgments (map statement_input (drop l.input-index l.inputs)) ≡ given_judgments (map statement_input l.inputs)
