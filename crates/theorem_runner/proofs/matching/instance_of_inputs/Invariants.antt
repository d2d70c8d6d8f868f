use Rattle.std.proofs.Common.{◌≡◌, ◌++◌, [], map, drop}
use Rattle.std.specs.Prelude.{option_map}
use Rattle.scheme_terms.specs.View.{context_value}
use Rattle.rule_schemes.specs.View.{statement_input}
use Rattle.theorem_runner.proofs.Pairs.{input_pairs}
use Rattle.derivation_check.specs.Inputs.{input_tree}
use Rattle.theorem_runner.proofs.matching.instance_of_inputs.Given as goal

abbrev pub invariant-loop-i : goal.invariant-loop-i
invariant-loop-i l = record {
  sig : l.matcher.sig ≡ l.system.sig;
  metas : l.matcher.metas ≡ l.scope.metas;
  knowns : l.matcher.knowns ≡ [];
  root : l.matcher.root ≡ context_value l.root;
  pairs : option_map (λ ps. l.matcher.pairs ++ ps) (input_pairs (map statement_input (drop l.i l.of.inputs)) (map input_tree (drop l.i l.inputs.items.items)))
      ≡ input_pairs (map statement_input l.of.inputs) (map input_tree l.inputs.items.items);
}
