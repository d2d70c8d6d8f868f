use Rattle.std.proofs.Common.{arith, drop, ap, sym, ◌∙◌, append-nil, ◌++◌}
use Rattle.pattern_unify.specs.Patterns.{marked}
use Rattle.pattern_unify.proofs.Building.{marked_at, marked_past, nothing_past}
use Rattle.pattern_unify.proofs.steps.marked_cats.Goals as goal

pub returns-then-i-params : goal.returns-then-i-params
returns-then-i-params c =
    sym (append-nil c.loop-i.all)
    ∙ ap (λ ys. c.loop-i.all ++ ys) (sym (marked_past (drop c.loop-i.i c.args.keeps.now) (drop c.loop-i.i c.args.params.now) (nothing_past c.args.params.now c.loop-i.i c.if-i-params.true)))
    ∙ c.loop-i.invariant

pub loop-i-preserved : goal.loop-i-preserved
loop-i-preserved c =
    marked_at c.args.keeps.now c.args.params.now c.loop-i.i (record { 0 = 0 }) c.loop-i.all c.push_cat.new.all (marked c.args.keeps.now c.args.params.now) c.loop-i-test.true
    (λ past. let within = c.if-i-params.false in absurd (omega (arith, past, within))) c.in_ok-push_cat.ensures c.loop-i.invariant
