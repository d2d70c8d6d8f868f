use Rattle.std.proofs.Common.{◌≡◌, ◌<◌, ◌+◌, ◌++◌, ◌∷◌, [], List, length, drop, Some, None, slice_get, refl, ap, sym, subst, ◌∙◌, arith}
use Rattle.std.specs.Prelude.{option_map}
use Rattle.std.proofs.lemmas.Option.{slice_get_read, slice_get-map}
use Rattle.scheme_terms.specs.View.{names, context_value, instance}
use Rattle.pattern_unify.proofs.PlainSchemes.{all_at}
use Rattle.rule_schemes.specs.Parts.{Parts}
use Rattle.rule_schemes.specs.Plain.{IsPlainSystem, IsPlainTheory}
use Rattle.rule_schemes.specs.Rules.{IsSystemSoFar}
use Rattle.rule_schemes.specs.Derivation.{Derivation}
use Rattle.rule_schemes.specs.View.{theory, statement}
use Rattle.rule_schemes.specs.Statement.{Instantiates}
use Rattle.core_proofs.specs.Kept.{kept_theory, kept_statements, kept_steps}
use Rattle.core_proofs.specs.Provable.{IsProvable}
use Rattle.core_proofs.specs.Value.{Makes}
use Rattle.rule_schemes.proofs.PlainLemmas.{plain_system}
use Rattle.theorem_runner.specs.Instances.{Gives}
use Rattle.theorem_runner.specs.Laws.{ArePlainProofs}
use Rattle.theorem_runner.specs.Runs.{GoesOn, IsRun}
use Rattle.derivation_check.specs.Inputs.{input_trees}
use Rattle.theorem_runner.proofs.Going.{starts, is_run}
use Rattle.theorem_runner.proofs.OnTrees.{run_on_trees}
use Rattle.theorem_runner.proofs.running.run.Goals as goal
use Rattle.binding_terms.proofs.Lists.{match_at}

pub given_instance-requires-clause-theory : goal.given_instance-requires-clause-theory
given_instance-requires-clause-theory c =
    subst (λ (s : Parts). IsPlainTheory (theory s)) (sym c.system-system.ensures) c.always_accepted.ensures.plain

pub given_instance-requires-clause-provable : goal.given_instance-requires-clause-provable
given_instance-requires-clause-provable c =
    let at : c.args.theorem.0 < length c.statements.result.now.items = subst (λ xs. c.args.theorem.0 < length xs) (sym c.statements.ensures) c.requires.number in
    let here : slice_get c.args.acc.now.statements c.args.theorem.0 ≡ Some c.index-of.result.now =
    subst (λ xs. slice_get xs c.args.theorem.0 ≡ Some c.index-of.result.now) c.statements.ensures
    (slice_get_read c.statements.result.now.items (length c.statements.result.now.items) c.args.theorem.0 c.index-of.result.now refl at c.index-of.ensures) in
    subst (λ (s : Parts). IsProvable (theory s) (statement c.index-of.result.now)) (sym c.system-system.ensures)
    (all_at (IsProvable (kept_theory c.args.acc.now)) (kept_statements c.args.acc.now) c.args.theorem.0 (statement c.index-of.result.now) c.always_accepted.ensures.provable
    (slice_get-map statement c.args.acc.now.statements c.args.theorem.0 ∙ ap (option_map statement) here))

pub given_instance-requires-clause-inputs : goal.given_instance-requires-clause-inputs
given_instance-requires-clause-inputs c =
    let at : c.args.theorem.0 < length c.statements.result.now.items = subst (λ xs. c.args.theorem.0 < length xs) (sym c.statements.ensures) c.requires.number in
    let here : slice_get c.args.acc.now.statements c.args.theorem.0 ≡ Some c.index-of.result.now =
    subst (λ xs. slice_get xs c.args.theorem.0 ≡ Some c.index-of.result.now) c.statements.ensures
    (slice_get_read c.statements.result.now.items (length c.statements.result.now.items) c.args.theorem.0 c.index-of.result.now refl at c.index-of.ensures) in
    subst (λ (s : Parts). Instantiates (theory s) (statement c.index-of.result.now) (context_value c.args.ctx.now) (input_trees c.args.inputs.now)) (sym c.system-system.ensures)
    (match_at (slice_get (kept_statements c.args.acc.now) c.args.theorem.0)
    (λ st. Instantiates (kept_theory c.args.acc.now) st (context_value c.args.ctx.now) (input_trees c.args.inputs.now)) (statement c.index-of.result.now)
    (slice_get-map statement c.args.acc.now.statements c.args.theorem.0 ∙ ap (option_map statement) here) c.requires.inputs)

pub overflow_add-from : goal.overflow_add-from
overflow_add-from c = omega (arith, c.beginning-from.ensures.small)

pub make-requires : goal.make-requires
make-requires c =
    let at : c.args.theorem.0 < length c.statements.result.now.items = subst (λ xs. c.args.theorem.0 < length xs) (sym c.statements.ensures) c.requires.number in
    let here : slice_get c.args.acc.now.statements c.args.theorem.0 ≡ Some c.index-of.result.now =
    subst (λ xs. slice_get xs c.args.theorem.0 ≡ Some c.index-of.result.now) c.statements.ensures
    (slice_get_read c.statements.result.now.items (length c.statements.result.now.items) c.args.theorem.0 c.index-of.result.now refl at c.index-of.ensures) in
    let there = slice_get-map statement c.args.acc.now.statements c.args.theorem.0 ∙ ap (option_map statement) here in
    let system : IsPlainSystem (kept_theory c.args.acc.now) = plain_system (subst (λ (s : Parts). IsSystemSoFar (theory s)) c.system-system.ensures c.always_system.ensures) c.always_accepted.ensures.plain in
    let plain : ArePlainProofs (kept_theory c.args.acc.now) (kept_statements c.args.acc.now) (kept_steps c.args.acc.now) =
    record { system = system; provable = c.always_accepted.ensures.provable; proves = c.always_accepted.ensures.proves } in
    let gives = subst (λ (s : Parts). Gives (theory s) (statement c.index-of.result.now) (names c.in_ok-scope.scope) (context_value c.args.ctx.now) (input_trees c.args.inputs.now) (instance c.in_ok-inst.inst))
    c.system-system.ensures c.in_ok-inst.ensures in
    subst (λ (ds : List Derivation). GoesOn (kept_theory c.args.acc.now) (kept_statements c.args.acc.now) (instance c.in_ok-inst.inst) ds (drop (c.beginning-from.result + 1) (kept_steps c.args.acc.now)) ds
    (drop (c.beginning-from.result + 1) (kept_steps c.args.acc.now))) (sym c.in_ok-given.ensures)
    (starts (kept_theory c.args.acc.now) (kept_statements c.args.acc.now) (kept_steps c.args.acc.now) c.args.theorem.0 (statement c.index-of.result.now) (context_value c.args.ctx.now) (input_trees c.args.inputs.now)
    c.beginning-from.result plain there c.beginning-from.ensures.begins (instance c.in_ok-inst.inst) gives.1.inputs)

pub returns : goal.returns
returns c =
    let at : c.args.theorem.0 < length c.statements.result.now.items = subst (λ xs. c.args.theorem.0 < length xs) (sym c.statements.ensures) c.requires.number in
    let here : slice_get c.args.acc.now.statements c.args.theorem.0 ≡ Some c.index-of.result.now =
    subst (λ xs. slice_get xs c.args.theorem.0 ≡ Some c.index-of.result.now) c.statements.ensures
    (slice_get_read c.statements.result.now.items (length c.statements.result.now.items) c.args.theorem.0 c.index-of.result.now refl at c.index-of.ensures) in
    let there = slice_get-map statement c.args.acc.now.statements c.args.theorem.0 ∙ ap (option_map statement) here in
    let system : IsPlainSystem (kept_theory c.args.acc.now) = plain_system (subst (λ (s : Parts). IsSystemSoFar (theory s)) c.system-system.ensures c.always_system.ensures) c.always_accepted.ensures.plain in
    let plain : ArePlainProofs (kept_theory c.args.acc.now) (kept_statements c.args.acc.now) (kept_steps c.args.acc.now) =
    record { system = system; provable = c.always_accepted.ensures.provable; proves = c.always_accepted.ensures.proves } in
    let gives = subst (λ (s : Parts). Gives (theory s) (statement c.index-of.result.now) (names c.in_ok-scope.scope) (context_value c.args.ctx.now) (input_trees c.args.inputs.now) (instance c.in_ok-inst.inst))
    c.system-system.ensures c.in_ok-inst.ensures in
    let makes = subst (λ (ds : List Derivation). Makes (kept_theory c.args.acc.now) (instance c.in_ok-inst.inst) ds None (drop (c.beginning-from.result + 1) (kept_steps c.args.acc.now)) c.in_ok-made.made)
    c.in_ok-given.ensures c.in_ok-made.ensures in
    let run : IsRun (kept_theory c.args.acc.now) (kept_statements c.args.acc.now) (kept_steps c.args.acc.now) c.args.theorem.0 (context_value c.args.ctx.now)
    (input_trees c.args.inputs.now) c.push.new.self.items =
    is_run (kept_theory c.args.acc.now) (kept_statements c.args.acc.now) (kept_steps c.args.acc.now) c.args.theorem.0 (statement c.index-of.result.now) (context_value c.args.ctx.now) (input_trees c.args.inputs.now)
    c.beginning-from.result plain there c.beginning-from.ensures.begins (names c.in_ok-scope.scope) (instance c.in_ok-inst.inst) c.in_ok-made.made c.push.new.self.items c.in_ok-scope.ensures gives makes
    (c.in_ok-push.ensures.items ∙ ap (λ ds. ds ++ c.in_ok-made.made ∷ []) c.new-derivs.ensures.items) in
    record {
      value = run;
      trees = run_on_trees (kept_theory c.args.acc.now) system (kept_statements c.args.acc.now) (kept_steps c.args.acc.now) c.args.theorem.0 (context_value c.args.ctx.now)
          (input_trees c.args.inputs.now) c.push.new.self.items run;
    }
