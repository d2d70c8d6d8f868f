use Rattle.std.proofs.Common.{map, option_map, subst}
use Rattle.scheme_terms.specs.Demands.{IsDemanded}
use Rattle.scheme_terms.specs.View.{scheme}
use Rattle.pattern_unify.specs.Equations.{equation}
use Rattle.pattern_unify.specs.Asked.{IsAsked}
use Rattle.pattern_unify.proofs.Asking.{asked_more}
use Rattle.pattern_unify.proofs.fitting.asked_of_all.Goals as goal

pub loop-place-preserved : goal.loop-place-preserved
loop-place-preserved c =
    asked_more (map equation c.args.eqs.now) c.loop-place.all c.push.new.self c.loop-place.place c.in_ok-number.field-0 c.in-Some.value c.in_ok-number.ensures
    (subst (λ o. IsDemanded (IsAsked (map equation c.args.eqs.now) c.in_ok-number.field-0) (option_map scheme o)) c.in-Some.is c.in_ok-value.ensures)
    c.in_ok-push-in-Some.ensures.ok c.loop-place.invariant
