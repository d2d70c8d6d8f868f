use Rattle.std.proofs.Common.{◌≡◌, ◌↔◌, IsTrue, ◌<◌, length, map, Some, None, slice_get, refl, ap, sym, subst, ◌∙◌}
use Rattle.std.specs.Prelude.{option_map}
use Rattle.std.specs.List.{AllByRecursion}
use Rattle.std.proofs.lemmas.Option.{slice_get_read, slice_get-map}
use Rattle.scheme_terms.specs.Forms.{ContextValue}
use Rattle.scheme_terms.specs.View.{names, context_value, ground_entry, instance}
use Rattle.pattern_unify.proofs.PlainSchemes.{all_at}
use Rattle.rule_schemes.specs.Parts.{Parts}
use Rattle.rule_schemes.specs.Plain.{IsPlainSystem, IsPlainTheory}
use Rattle.rule_schemes.specs.Rules.{IsSystemSoFar}
use Rattle.rule_schemes.specs.View.{theory, statement}
use Rattle.rule_schemes.specs.Statement.{Instantiates}
use Rattle.core_proofs.specs.Kept.{kept_theory, kept_statements}
use Rattle.core_proofs.specs.Provable.{IsProvable}
use Rattle.rule_schemes.proofs.PlainLemmas.{plain_system}
use Rattle.theorem_runner.specs.Instances.{no_context_value, IsDerived, IsOnlyInstance}
use Rattle.derivation_check.specs.Inputs.{input_trees}
use Rattle.theorem_runner.proofs.Restricting.{instantiated}
use Rattle.theorem_runner.proofs.matching.instantiates.Goals as goal
use Rattle.binding_terms.proofs.Lists.{is_some_mapped, match_from}

pub proof_scope-requires : goal.proof_scope-requires
proof_scope-requires c =
    let at : c.args.theorem.0 < length c.statements.result.now.items = subst (λ xs. c.args.theorem.0 < length xs) (sym c.statements.ensures) c.requires.number in
    let here : slice_get c.args.acc.now.statements c.args.theorem.0 ≡ Some c.index-of.result.now =
    subst (λ xs. slice_get xs c.args.theorem.0 ≡ Some c.index-of.result.now) c.statements.ensures
    (slice_get_read c.statements.result.now.items (length c.statements.result.now.items) c.args.theorem.0 c.index-of.result.now refl at c.index-of.ensures) in
    record {
      last = (all_at (IsProvable (kept_theory c.args.acc.now)) (kept_statements c.args.acc.now) c.args.theorem.0 (statement c.index-of.result.now) c.always_accepted.ensures.provable
          (slice_get-map statement c.args.acc.now.statements c.args.theorem.0 ∙ ap (option_map statement) here)).goal_names_last;
    }

pub instance_of_inputs-requires-clause-theory : goal.instance_of_inputs-requires-clause-theory
instance_of_inputs-requires-clause-theory c =
    subst (λ (s : Parts). IsPlainTheory (theory s)) (sym c.system-system.ensures) c.always_accepted.ensures.plain

pub instance_of_inputs-requires-clause-provable : goal.instance_of_inputs-requires-clause-provable
instance_of_inputs-requires-clause-provable c =
    let at : c.args.theorem.0 < length c.statements.result.now.items = subst (λ xs. c.args.theorem.0 < length xs) (sym c.statements.ensures) c.requires.number in
    let here : slice_get c.args.acc.now.statements c.args.theorem.0 ≡ Some c.index-of.result.now =
    subst (λ xs. slice_get xs c.args.theorem.0 ≡ Some c.index-of.result.now) c.statements.ensures
    (slice_get_read c.statements.result.now.items (length c.statements.result.now.items) c.args.theorem.0 c.index-of.result.now refl at c.index-of.ensures) in
    subst (λ (s : Parts). IsProvable (theory s) (statement c.index-of.result.now)) (sym c.system-system.ensures)
    (all_at (IsProvable (kept_theory c.args.acc.now)) (kept_statements c.args.acc.now) c.args.theorem.0 (statement c.index-of.result.now) c.always_accepted.ensures.provable
    (slice_get-map statement c.args.acc.now.statements c.args.theorem.0 ∙ ap (option_map statement) here))

pub instance_of_inputs-requires-clause-derived : goal.instance_of_inputs-requires-clause-derived
instance_of_inputs-requires-clause-derived c =
    subst (λ (s : Parts). AllByRecursion (IsDerived (theory s)) (input_trees c.args.inputs.now)) (sym c.system-system.ensures) c.requires.derived

pub returns : goal.returns
returns c =
    let at : c.args.theorem.0 < length c.statements.result.now.items = subst (λ xs. c.args.theorem.0 < length xs) (sym c.statements.ensures) c.requires.number in
    let here : slice_get c.args.acc.now.statements c.args.theorem.0 ≡ Some c.index-of.result.now =
    subst (λ xs. slice_get xs c.args.theorem.0 ≡ Some c.index-of.result.now) c.statements.ensures
    (slice_get_read c.statements.result.now.items (length c.statements.result.now.items) c.args.theorem.0 c.index-of.result.now refl at c.index-of.ensures) in
    let there : slice_get (kept_statements c.args.acc.now) c.args.theorem.0 ≡ Some (statement c.index-of.result.now) =
    slice_get-map statement c.args.acc.now.statements c.args.theorem.0 ∙ ap (option_map statement) here in
    let provable = all_at (IsProvable (kept_theory c.args.acc.now)) (kept_statements c.args.acc.now) c.args.theorem.0 (statement c.index-of.result.now) c.always_accepted.ensures.provable there in
    let closed : context_value (record { cat = None; entries = c.new.result }) ≡ no_context_value = ap (λ es. record { cat = None; entries = map ground_entry es }) c.new.ensures in
    let system : IsPlainSystem (kept_theory c.args.acc.now) = plain_system (subst (λ (s : Parts). IsSystemSoFar (theory s)) c.system-system.ensures c.always_system.ensures) c.always_accepted.ensures.plain in
    let one = subst (λ (v : ContextValue). IsOnlyInstance (kept_theory c.args.acc.now) (statement c.index-of.result.now) (names c.in_ok-scope.scope) v (input_trees c.args.inputs.now) (option_map instance c.in_ok-found.found)) closed
    (subst (λ (s : Parts). IsOnlyInstance (theory s) (statement c.index-of.result.now) (names c.in_ok-scope.scope) (context_value (record { cat = None; entries = c.new.result })) (input_trees c.args.inputs.now)
    (option_map instance c.in_ok-found.found)) c.system-system.ensures c.in_ok-found.ensures) in
    let is = instantiated (kept_theory c.args.acc.now) system (statement c.index-of.result.now) provable (names c.in_ok-scope.scope) c.in_ok-scope.ensures no_context_value (input_trees c.args.inputs.now)
    (option_map instance c.in_ok-found.found) one in
    match_from (slice_get (kept_statements c.args.acc.now) c.args.theorem.0)
    (λ st. IsTrue c.is_some.result ↔ Instantiates (kept_theory c.args.acc.now) st no_context_value (input_trees c.args.inputs.now)) (statement c.index-of.result.now) there
    (rw (c.is_some.ensures, ← is_some_mapped instance c.in_ok-found.found) is)
