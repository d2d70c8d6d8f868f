use Rattle.pattern_unify.specs.LeftNames.{is_known_left, knowns_left}
use Rattle.std.proofs.Common.{map, ◌∙◌}
use Rattle.scheme_terms.specs.View.{known_variable}
use Rattle.pattern_unify.specs.Stepped.{state}
use Rattle.pattern_unify.proofs.LeftBuilding.{knowns_more, rank_step}
use Rattle.pattern_unify.proofs.left.knowns_left.Goals as goal

pub loop-place-preserved : goal.loop-place-preserved
loop-place-preserved c = (
  rank_step (is_known_left (state c.args.st.now)) c.loop-place.place c.loop-place.count c.in_ok-count.count _ c.is_known_left.ensures c.loop-place.invariant.0
      c.in_ok-count.ensures,
  knowns_more (is_known_left (state c.args.st.now)) c.args.decls.now c.loop-place.place c.loop-place.all c.push.new.self
      (knowns_left (is_known_left (state c.args.st.now)) 0 (map known_variable c.args.decls.now)) c.in_ok-number.field-0
      c.loop-place-test.true (c.in_ok-number.ensures ∙ c.loop-place.invariant.0) c.in_ok-push.ensures.ok c.loop-place.invariant.1,
)
