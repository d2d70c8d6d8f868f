use Rattle.std.proofs.Common.{◌≡◌, ◌<◌, ◌≤◌, ℕ, length, map, Some, slice_get, inl, inr, ap, sym, subst, ◌∙◌, true≢false, arith}
use Rattle.std.proofs.lemmas.Bool.{cases_lt}
use Rattle.std.proofs.lemmas.List.{length-map}
use Rattle.std.proofs.lemmas.Option.{same_Some}
use Rattle.core_proofs.specs.Kept.{kept_statements, kept_steps}
use Rattle.core_proofs.specs.Step.{begin_theorem}
use Rattle.core_proofs.specs.View.{step}
use Rattle.rule_schemes.specs.View.{statement}
use Rattle.theorem_runner.proofs.Going.{step_at, begins_somewhere}
use Rattle.theorem_runner.proofs.running.beginning.Goals as goal

pub loop-i-preserved : goal.loop-i-preserved
loop-i-preserved c = λ m h e. elim (cases_lt m c.loop-i.i) [
  | inl less ↦ c.loop-i.invariant m less e
  | inr past ↦
      let same : m ≡ c.loop-i.i = omega (arith, h, past) in
      let here = step_at c.as_slice-steps.result.now c.loop-i.i c.index-steps-i.result c.loop-i-test.true c.index-steps-i.is in
      let is_it : step c.index-steps-i.result ≡ begin_theorem c.args.theorem.0 =
      same_Some (step c.index-steps-i.result) (begin_theorem c.args.theorem.0) (sym here ∙ ap (slice_get (map step c.as_slice-steps.result.now)) (sym same) ∙ e) in
      true≢false (sym (c.begins.ensures.1 is_it) ∙ c.if-begins.false)
]

pub unreachable-requires : goal.unreachable-requires
unreachable-requires c =
    let whole : map step c.as_slice-steps.result.now ≡ kept_steps c.args.acc.now = ap (map step) (c.as_slice-steps.ensures.value ∙ c.steps.ensures) in
    let past : length (kept_steps c.args.acc.now) ≤ c.loop-i.i =
    (let count : length (map step c.as_slice-steps.result.now) ≡ length c.as_slice-steps.result.now = length-map c.as_slice-steps.result.now step in
    subst (λ n. n ≤ c.loop-i.i) (sym count ∙ ap length whole) c.loop-i-test.false) in
    let below : c.args.theorem.0 < length (kept_statements c.args.acc.now) =
    subst (λ n. c.args.theorem.0 < n) (sym (length-map c.args.acc.now.statements statement)) c.requires in
    let none = subst (λ ss. (m : ℕ) → m < c.loop-i.i → slice_get ss m ≡ Some (begin_theorem c.args.theorem.0) → ⊥) whole c.loop-i.invariant in
    (begins_somewhere _ _ (kept_steps c.args.acc.now) c.args.theorem.0 c.always_accepted.ensures.proves below c.loop-i.i past none)
