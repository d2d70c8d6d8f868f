use Rattle.std.proofs.Common.{subst}
use Rattle.std.specs.Prelude.{option_map}
use Rattle.scheme_terms.specs.View.{names, context_value, instance}
use Rattle.rule_schemes.specs.View.{theory, statement}
use Rattle.rule_schemes.proofs.PlainLemmas.{plain_system}
use Rattle.theorem_runner.specs.Instances.{IsOnlyInstance}
use Rattle.derivation_check.specs.Inputs.{input_trees}
use Rattle.theorem_runner.proofs.Going.{given_is_derived}
use Rattle.theorem_runner.proofs.Restricting.{restricted, restricted_gives}
use Rattle.theorem_runner.proofs.matching.given_instance.Goals as goal

pub instance_of_inputs-requires-clause-derived : goal.instance_of_inputs-requires-clause-derived
instance_of_inputs-requires-clause-derived c = given_is_derived _ c.requires.inputs.0 _ _ c.requires.inputs.1.inputs

pub unreachable-requires : goal.unreachable-requires
unreachable-requires c =
    let none = subst (λ o. IsOnlyInstance (theory c.args.system.now) (statement c.args.of.now) (names c.args.scope.now) (context_value c.args.root.now) (input_trees c.args.inputs.now) (option_map instance o))
    c.in-None.is c.in_ok-inst.ensures in
    none (restricted c.requires.inputs.0 (names c.args.scope.now))
    (restricted_gives _ (plain_system c.always_system.ensures c.requires.theory) _ c.requires.provable _ c.requires.scope _ _ c.requires.inputs.0 c.requires.inputs.1)
