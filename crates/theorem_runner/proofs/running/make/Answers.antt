use Rattle.std.proofs.Common.{◌≡◌, ◌≤◌, ◌+◌, length, map, drop, Some, slice_get, ap, sym, subst, ◌∙◌}
use Rattle.std.proofs.lemmas.List.{drop_all, length-map}
use Rattle.scheme_terms.specs.View.{instance}
use Rattle.rule_schemes.specs.View.{judgment_scheme}
use Rattle.core_proofs.specs.Kept.{kept_theory, kept_statements, kept_steps}
use Rattle.core_proofs.specs.Step.{begin_theorem, end_theorem, by_rule}
use Rattle.core_proofs.specs.View.{step}
use Rattle.theorem_runner.specs.Runs.{GoesOn}
use Rattle.theorem_runner.proofs.Going.{step_at, next_step, going_bounds, going_rule, going_end, going_some, going_within, going_unended}
use Rattle.theorem_runner.proofs.running.make.Goals as goal

pub make_node-requires : goal.make_node-requires
make_node-requires c =
    let here : slice_get (kept_steps c.args.acc.now) c.loop-i.i ≡ Some (by_rule c.in-Rule.line (judgment_scheme c.in-Rule.form) c.in-Rule.rule.0 (map (λ id. id.0) c.in-Rule.on)) =
    ap (λ ss. slice_get (map step ss) c.loop-i.i) (sym (c.as_slice-steps.ensures.value ∙ c.steps.ensures))
    ∙ step_at c.as_slice-steps.result.now c.loop-i.i c.index-steps-i.result c.loop-i-test.true c.index-steps-i.is ∙ ap (λ s. Some (step s)) c.in-Rule.is in
    let going = subst (λ ss. GoesOn (kept_theory c.args.acc.now) (kept_statements c.args.acc.now) (instance c.args.inst.now) c.args.given.items (drop c.args.from (kept_steps c.args.acc.now)) c.loop-i.made.items ss)
    (next_step (kept_steps c.args.acc.now) c.loop-i.i _ here) c.loop-i.invariant in
    rw (c.as_slice.ensures.value, c.as_slice-in-Rule.ensures) (going_bounds _ _ _ _ _ _ _ _ _ _ _ going)

pub last_of-requires : goal.last_of-requires
last_of-requires c =
    let here : slice_get (kept_steps c.args.acc.now) c.loop-i.i ≡ Some (end_theorem c.in-End.line) =
    ap (λ ss. slice_get (map step ss) c.loop-i.i) (sym (c.as_slice-steps.ensures.value ∙ c.steps.ensures))
    ∙ step_at c.as_slice-steps.result.now c.loop-i.i c.index-steps-i.result c.loop-i-test.true c.index-steps-i.is ∙ ap (λ s. Some (step s)) c.in-End.is in
    let going = subst (λ ss. GoesOn (kept_theory c.args.acc.now) (kept_statements c.args.acc.now) (instance c.args.inst.now) c.args.given.items (drop c.args.from (kept_steps c.args.acc.now)) c.loop-i.made.items ss)
    (next_step (kept_steps c.args.acc.now) c.loop-i.i _ here) c.loop-i.invariant in
    going_some _ _ _ _ _ _ _ _ going

pub returns-in-End : goal.returns-in-End
returns-in-End c =
    let here : slice_get (kept_steps c.args.acc.now) c.loop-i.i ≡ Some (end_theorem c.in-End.line) =
    ap (λ ss. slice_get (map step ss) c.loop-i.i) (sym (c.as_slice-steps.ensures.value ∙ c.steps.ensures))
    ∙ step_at c.as_slice-steps.result.now c.loop-i.i c.index-steps-i.result c.loop-i-test.true c.index-steps-i.is ∙ ap (λ s. Some (step s)) c.in-End.is in
    let going = subst (λ ss. GoesOn (kept_theory c.args.acc.now) (kept_statements c.args.acc.now) (instance c.args.inst.now) c.args.given.items (drop c.args.from (kept_steps c.args.acc.now)) c.loop-i.made.items ss)
    (next_step (kept_steps c.args.acc.now) c.loop-i.i _ here) c.loop-i.invariant in
    going_end _ _ _ _ _ _ _ _ going c.last_of.ensures.0 c.last_of.result c.last_of.ensures.1

pub unreachable-requires : goal.unreachable-requires
unreachable-requires c =
    let here : slice_get (kept_steps c.args.acc.now) c.loop-i.i ≡ Some (begin_theorem c.in-Begin.field-0.0) =
    ap (λ ss. slice_get (map step ss) c.loop-i.i) (sym (c.as_slice-steps.ensures.value ∙ c.steps.ensures))
    ∙ step_at c.as_slice-steps.result.now c.loop-i.i c.index-steps-i.result c.loop-i-test.true c.index-steps-i.is ∙ ap (λ s. Some (step s)) c.in-Begin.is in
    let going = subst (λ ss. GoesOn (kept_theory c.args.acc.now) (kept_statements c.args.acc.now) (instance c.args.inst.now) c.args.given.items (drop c.args.from (kept_steps c.args.acc.now)) c.loop-i.made.items ss)
    (next_step (kept_steps c.args.acc.now) c.loop-i.i _ here) c.loop-i.invariant in
    going_within _ _ _ _ _ _ _ _ going

pub unreachable-requires-2 : goal.unreachable-requires-2
unreachable-requires-2 c =
    let past : length (kept_steps c.args.acc.now) ≤ c.loop-i.i =
    subst (λ n. n ≤ c.loop-i.i) (sym (length-map c.as_slice-steps.result.now step) ∙ ap (λ ss. length (map step ss)) (c.as_slice-steps.ensures.value ∙ c.steps.ensures)) c.loop-i-test.false in
    going_unended _ _ _ _ _ _ (subst (λ ss. GoesOn (kept_theory c.args.acc.now) (kept_statements c.args.acc.now) (instance c.args.inst.now) c.args.given.items (drop c.args.from (kept_steps c.args.acc.now)) c.loop-i.made.items ss)
    (drop_all c.loop-i.i (kept_steps c.args.acc.now) past) c.loop-i.invariant)

pub loop-i-preserved : goal.loop-i-preserved
loop-i-preserved c =
    let here : slice_get (kept_steps c.args.acc.now) c.loop-i.i ≡ Some (by_rule c.in-Rule.line (judgment_scheme c.in-Rule.form) c.in-Rule.rule.0 (map (λ id. id.0) c.in-Rule.on)) =
    ap (λ ss. slice_get (map step ss) c.loop-i.i) (sym (c.as_slice-steps.ensures.value ∙ c.steps.ensures))
    ∙ step_at c.as_slice-steps.result.now c.loop-i.i c.index-steps-i.result c.loop-i-test.true c.index-steps-i.is ∙ ap (λ s. Some (step s)) c.in-Rule.is in
    let going = subst (λ ss. GoesOn (kept_theory c.args.acc.now) (kept_statements c.args.acc.now) (instance c.args.inst.now) c.args.given.items (drop c.args.from (kept_steps c.args.acc.now)) c.loop-i.made.items ss)
    (next_step (kept_steps c.args.acc.now) c.loop-i.i _ here) c.loop-i.invariant in
    let made = rw (c.as_slice.ensures.value, c.as_slice-in-Rule.ensures) at c.in_ok-tree-in-Rule.ensures in
    let next = going_rule _ _ _ _ _ _ _ _ _ _ _ going made.0 c.in_ok-tree-in-Rule.tree made.1 made.2 in
    subst (λ ds. GoesOn (kept_theory c.args.acc.now) (kept_statements c.args.acc.now) (instance c.args.inst.now) c.args.given.items (drop c.args.from (kept_steps c.args.acc.now)) ds
    (drop (c.loop-i.i + 1) (kept_steps c.args.acc.now))) (sym c.in_ok-push-in-Rule.ensures.items) next
