use Rattle.std.proofs.Common.{[], sym, subst}
use Rattle.outline_reader.specs.Plain.{plain_form}
use Rattle.user_grammar.specs.Fault.{IsPlaceBehind, at_start}
use Rattle.user_grammar.specs.Finding.{portions_of}
use Rattle.user_grammar.specs.FindingPlaces.{walk_view}
use Rattle.user_grammar.specs.FindingContexts.{OpensNone}
use Rattle.user_grammar.proofs.Tests.{refused}
use Rattle.user_grammar.proofs.FaultTokens.{place_more}
use Rattle.user_grammar.proofs.FaultPoints.{no_points, form_points_more, brackets_refused, brackets_none}
use Rattle.user_grammar.proofs.fault_context.has_no_brackets.Goals as goal

pub loop-token-init : goal.loop-token-init
loop-token-init c =
    let P = portions_of c.args.lists.now in (
      subst (IsPlaceBehind P []) (sym c.start-walk.ensures) at_start,
      no_points P OpensNone (plain_form c.args.form.now),
    )

pub returns-then-opens_at : goal.returns-then-opens_at
returns-then-opens_at c =
    brackets_refused (portions_of c.args.lists.now) c.args.form.now c.loop-token.token-index _ (walk_view c.loop-token.walk) c.loop-token-test.true c.loop-token.invariant.0
    (c.opens_at.ensures.0 c.if-opens_at.true)

pub loop-token-preserved : goal.loop-token-preserved
loop-token-preserved c =
    let P = portions_of c.args.lists.now in
    let kept = c.loop-token.invariant in (
      place_more P c.args.form.now c.loop-token.token-index _ (walk_view c.loop-token.walk) _ c.loop-token-test.true kept.0 c.in_ok-pass.ensures,
      form_points_more P OpensNone c.args.form.now c.loop-token.token-index _ (walk_view c.loop-token.walk) c.loop-token-test.true kept.0
          (refused c.opens_at.result c.opens_at.ensures c.if-opens_at.false) kept.1,
    )

pub returns : goal.returns
returns c = brackets_none (portions_of c.args.lists.now) c.args.form.now c.loop-token.token-index c.loop-token-test.false c.loop-token.invariant.1
