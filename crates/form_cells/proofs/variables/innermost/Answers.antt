use Rattle.std.proofs.Common.{◌≡◌, ◌+◌, ◌-◌, ◌<◌, ◌≤◌, inl, inr, length, get_or, take, ◌∙◌, sym, subst, true≢false, arith}
use Rattle.rule_schemes.specs.Reading.{Means, counted}
use Rattle.form_cells.specs.View.{meaning, variable, in_scope}
use Rattle.form_cells.proofs.VariableLemmas.{scope_last, innermost_is, innermost_not, counts_one, counts_none, no_variable}
use Rattle.form_cells.proofs.variables.innermost.Goals as goal

pub returns-then-var-cat : goal.returns-then-var-cat
returns-then-var-cat c = λ s m.
    (let vars = c.args.vars.now in
    let left = c.loop-left.left in
    let some : 0 < left = omega (arith, c.loop-left-test.true) in
    let within : left ≤ length vars = omega (arith, c.loop-left.invariant.1) in
    let here = subst (λ vs. Means c.loop-left.before vs c.args.word.now c.args.cat.0 s) (scope_last vars left no_variable some within) ((c.loop-left.invariant.0 s).0 m) in
    elim here [ inl k ↦ absurd (c.if-var-cat.true k.1) | inr k ↦ absurd (k.0 (c.has_word.ensures.0 c.if-has_word.true)) ])

pub returns-then-has_word : goal.returns-then-has_word
returns-then-has_word c = λ s.
    (let vars = c.args.vars.now in
    let left = c.loop-left.left in
    let some : 0 < left = omega (arith, c.loop-left-test.true) in
    let within : left ≤ length vars = omega (arith, c.loop-left.invariant.1) in
    let at = scope_last vars left no_variable some within in
    let so = c.loop-left.invariant.0 s in
    let is = innermost_is c.loop-left.before (variable (get_or vars (left - 1) no_variable)) (in_scope (take (left - 1) vars)) c.args.word.now c.args.cat.0 s
    (c.has_word.ensures.0 c.if-has_word.true) c.if-var-cat.false in (
      λ m. is.0 (subst (λ vs. Means c.loop-left.before vs c.args.word.now c.args.cat.0 s) at (so.0 m)) ∙ sym c.meant.ensures,
      λ e. so.1 (subst (λ vs. Means c.loop-left.before vs c.args.word.now c.args.cat.0 s) (sym at) (is.1 (e ∙ c.meant.ensures))),
    ))

pub loop-left-preserved-then-is_bound : goal.loop-left-preserved-then-is_bound
loop-left-preserved-then-is_bound c =
    let vars = c.args.vars.now in
    let left = c.loop-left.left in
    let some : 0 < left = omega (arith, c.loop-left-test.true) in
    let within : left ≤ length vars = omega (arith, c.loop-left.invariant.1) in
    let at = scope_last vars left no_variable some within in
    let v = get_or vars (left - 1) no_variable in
    let one = counts_one v.means (c.is_bound.ensures.0 c.if-is_bound.true) in (
      λ s.
          (let so = c.loop-left.invariant.0 s in
          let not = innermost_not c.loop-left.before (variable v) (in_scope (take (left - 1) vars)) c.args.word.now c.args.cat.0 s
          (λ e. true≢false (sym (c.has_word.ensures.1 e) ∙ c.if-has_word.false)) in (
            λ m. subst (λ k. Means (c.loop-left.before + k) (in_scope (take (left - 1) vars)) c.args.word.now c.args.cat.0 s) one
                (not.0 (subst (λ vs. Means c.loop-left.before vs c.args.word.now c.args.cat.0 s) at (so.0 m))),
            λ m. so.1 (subst (λ vs. Means c.loop-left.before vs c.args.word.now c.args.cat.0 s) (sym at)
                (not.1 (subst (λ k. Means (c.loop-left.before + k) (in_scope (take (left - 1) vars)) c.args.word.now c.args.cat.0 s) (sym one) m))),
          )),
      omega (arith, c.loop-left.invariant.1),
    )

pub loop-left-preserved : goal.loop-left-preserved
loop-left-preserved c =
    let vars = c.args.vars.now in
    let left = c.loop-left.left in
    let some : 0 < left = omega (arith, c.loop-left-test.true) in
    let within : left ≤ length vars = omega (arith, c.loop-left.invariant.1) in
    let at = scope_last vars left no_variable some within in
    let v = get_or vars (left - 1) no_variable in
    let zero = counts_none v.means (λ e. true≢false (sym (c.is_bound.ensures.1 e) ∙ c.if-is_bound.false)) in
    let none : c.loop-left.before + counted (meaning v.means) ≡ c.loop-left.before = omega (arith, zero) in (
      λ s.
          (let so = c.loop-left.invariant.0 s in
          let not = innermost_not c.loop-left.before (variable v) (in_scope (take (left - 1) vars)) c.args.word.now c.args.cat.0 s
          (λ e. true≢false (sym (c.has_word.ensures.1 e) ∙ c.if-has_word.false)) in (
            λ m. subst (λ k. Means k (in_scope (take (left - 1) vars)) c.args.word.now c.args.cat.0 s) none
                (not.0 (subst (λ vs. Means c.loop-left.before vs c.args.word.now c.args.cat.0 s) at (so.0 m))),
            λ m. so.1 (subst (λ vs. Means c.loop-left.before vs c.args.word.now c.args.cat.0 s) (sym at)
                (not.1 (subst (λ k. Means k (in_scope (take (left - 1) vars)) c.args.word.now c.args.cat.0 s) (sym none) m))),
          )),
      omega (arith, c.loop-left.invariant.1),
    )
