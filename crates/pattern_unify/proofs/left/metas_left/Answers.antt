use Rattle.pattern_unify.specs.LeftNames.{is_meta_left, metas_left}
use Rattle.pattern_unify.specs.Stepped.{state}
use Rattle.pattern_unify.proofs.LeftBuilding.{metas_more, rank_step}
use Rattle.pattern_unify.proofs.left.metas_left.Goals as goal

pub loop-place-preserved : goal.loop-place-preserved
loop-place-preserved c = (
  rank_step (is_meta_left (state c.args.st.now)) c.loop-place.place c.loop-place.count c.in_ok-count.count c.in_ok-keep.keep c.in_ok-keep.ensures
      c.loop-place.invariant.0 c.in_ok-count.ensures,
  metas_more (is_meta_left (state c.args.st.now)) c.args.decls.now c.loop-place.place c.index-decls-place.result c.loop-place.all c.push.new.self
      (metas_left (is_meta_left (state c.args.st.now)) 0 c.args.decls.now) c.in_ok-meta_left.field-0 c.loop-place-test.true c.index-decls-place.is
      c.in_ok-keep.keep c.loop-place.count c.in_ok-keep.ensures c.loop-place.invariant.0 c.in_ok-meta_left.ensures c.in_ok-push.ensures.ok
      c.loop-place.invariant.1,
)
