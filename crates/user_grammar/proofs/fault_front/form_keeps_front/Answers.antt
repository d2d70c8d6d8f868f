use Rattle.std.proofs.Common.{[], take, sym, subst}
use Rattle.outline_reader.specs.Plain.{plain_form}
use Rattle.user_grammar.specs.Fault.{IsPlaceBehind, at_start}
use Rattle.user_grammar.specs.Finding.{portions_of, written_view}
use Rattle.user_grammar.specs.FindingPlaces.{walk_view}
use Rattle.user_grammar.specs.FindingContexts.{IsInFront}
use Rattle.user_grammar.proofs.FaultFronts.{kept_of_form, not_kept, front_length}
use Rattle.user_grammar.proofs.Tests.{refused}
use Rattle.user_grammar.proofs.FaultTokens.{place_more}
use Rattle.user_grammar.proofs.FaultPoints.{no_points, form_points_more}
use Rattle.user_grammar.proofs.fault_front.form_keeps_front.Goals as goal

pub loop-number-init : goal.loop-number-init
loop-number-init c =
    let P = portions_of c.args.lists.now in (
      subst (IsPlaceBehind P []) (sym c.start-walk.ensures) at_start,
      no_points P (IsInFront P (written_view c.args.written.now) (written_view c.args.other.now)) (plain_form c.args.form.now),
    )

pub returns-then-not-is_in_front : goal.returns-then-not-is_in_front
returns-then-not-is_in_front c =
    let P = portions_of c.args.lists.now in
    let n = c.loop-number.number in
    let form = c.args.form.now in
    not_kept P (written_view c.args.written.now) (written_view c.args.other.now) form n _ (walk_view c.loop-number.walk) c.loop-number-test.true c.loop-number.invariant.0
    (refused c.is_in_front.result (c.is_in_front.ensures P (plain_form (take n form)) (front_length form n c.loop-number-test.true)) c.if-not-is_in_front.true)

pub loop-number-preserved : goal.loop-number-preserved
loop-number-preserved c =
    let P = portions_of c.args.lists.now in
    let n = c.loop-number.number in
    let form = c.args.form.now in
    let kept = c.loop-number.invariant in
    let here = c.is_in_front.ensures P (plain_form (take n form)) (front_length form n c.loop-number-test.true) in (
      place_more P form n _ (walk_view c.loop-number.walk) _ c.loop-number-test.true kept.0 c.in_ok-pass.ensures,
      form_points_more P (IsInFront P (written_view c.args.written.now) (written_view c.args.other.now)) form n _ (walk_view c.loop-number.walk) c.loop-number-test.true kept.0
          (here.0 c.if-not-is_in_front.false) kept.1,
    )

pub returns : goal.returns
returns c =
    kept_of_form (portions_of c.args.lists.now) (written_view c.args.written.now) (written_view c.args.other.now) c.args.form.now c.loop-number.number c.loop-number-test.false c.loop-number.invariant.1
