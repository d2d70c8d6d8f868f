use Rattle.std.proofs.Common.{map, option_map, length, ap, subst}
use Rattle.scheme_terms.specs.Demands.{IsDemanded, Demands}
use Rattle.scheme_terms.specs.View.{scheme}
use Rattle.pattern_unify.specs.Equations.{equation}
use Rattle.pattern_unify.specs.Asked.{IsAsked}
use Rattle.pattern_unify.proofs.Asking.{asked_here, asked_later, none_is_left}
use Rattle.pattern_unify.proofs.fitting.asked_of.Goals as goal

pub returns-in-Some : goal.returns-in-Some
returns-in-Some c =
    (c.loop-equation.invariant (scheme c.in-Some.asked)).0
    (asked_here c.args.eqs.now c.args.name.0 c.loop-equation.equation-index c.equation-item.result c.loop-equation-test.true c.equation-item.is
    (length c.as_slice-locals.result.now) (ap length c.as_slice-locals.ensures) (scheme c.in-Some.asked)
    (subst (λ o. IsDemanded (Demands c.args.name.0 (length c.as_slice-locals.result.now) (scheme c.equation-item.result.left) (scheme c.equation-item.result.right)) (option_map scheme o))
    c.in-Some.is c.in_ok-asked.ensures))

pub loop-equation-preserved : goal.loop-equation-preserved
loop-equation-preserved c =
    asked_later c.args.eqs.now c.args.name.0 c.loop-equation.equation-index c.equation-item.result c.loop-equation-test.true c.equation-item.is
    (length c.as_slice-locals.result.now) (ap length c.as_slice-locals.ensures) (IsAsked (map equation c.args.eqs.now) c.args.name.0)
    (subst (λ o. IsDemanded (Demands c.args.name.0 (length c.as_slice-locals.result.now) (scheme c.equation-item.result.left) (scheme c.equation-item.result.right)) (option_map scheme o))
    c.in_default.is c.in_ok-asked.ensures)
    c.loop-equation.invariant

pub returns : goal.returns
returns c = λ v h. none_is_left c.args.eqs.now c.args.name.0 c.loop-equation.equation-index v c.loop-equation-test.false ((c.loop-equation.invariant v).1 h)
