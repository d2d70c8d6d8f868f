use Rattle.std.proofs.Common.{drop, map, ap, sym, ◌∙◌, append-nil, ◌++◌}
use Rattle.scheme_terms.specs.Substituting.{parameters}
use Rattle.scheme_terms.specs.View.{scheme}
use Rattle.pattern_unify.specs.Patterns.{marked}
use Rattle.pattern_unify.proofs.Building.{marked_parameter, marked_past}
use Rattle.pattern_unify.proofs.steps.marked_parameters.Goals as goal

pub returns-then-left-eq0 : goal.returns-then-left-eq0
returns-then-left-eq0 c =
    sym (append-nil (map scheme c.loop-i.all))
    ∙ ap (λ ys. map scheme c.loop-i.all ++ ys) (sym (marked_past (drop c.loop-i.i c.args.keeps.now) (parameters c.loop-i.left) (ap parameters c.if-left-eq0.true)))
    ∙ c.loop-i.invariant

pub loop-i-preserved : goal.loop-i-preserved
loop-i-preserved c =
    marked_parameter c.args.keeps.now c.loop-i.i c.loop-i.left (map scheme c.loop-i.all) (map scheme c.push_local.new.all) (marked c.args.keeps.now (parameters c.args.count))
    c.loop-i-test.true (λ none. c.if-left-eq0.false none) c.in_ok-push_local.ensures c.loop-i.invariant
