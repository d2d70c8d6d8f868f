use Rattle.std.proofs.Common.{[], take, sym, subst}
use Rattle.outline_reader.specs.Plain.{plain_form}
use Rattle.user_grammar.specs.Fault.{IsPlaceBehind, at_start}
use Rattle.user_grammar.specs.Finding.{portions_of}
use Rattle.user_grammar.specs.FindingPlaces.{walk_view}
use Rattle.user_grammar.proofs.FaultTokens.{place_more, binders_more, no_words_yet}
use Rattle.user_grammar.proofs.fault_place.binders.Goals as goal

pub loop-token-init : goal.loop-token-init
loop-token-init c =
    let P = portions_of c.args.names.now.lists in (
      subst (IsPlaceBehind P []) (sym c.start-walk.ensures) at_start,
      no_words_yet P _ c.no_names-all.ensures,
    )

pub loop-token-preserved : goal.loop-token-preserved
loop-token-preserved c =
    let P = portions_of c.args.names.now.lists in
    let kept = c.loop-token.invariant in (
      place_more P c.args.form.now c.loop-token.token-index _ (walk_view c.loop-token.walk) _ c.loop-token-test.true kept.0 c.in_ok-pass.ensures,
      binders_more P c.args.form.now c.loop-token.token-index _ _ c.loop-token-test.true (c.in_ok-note_binder.ensures (plain_form (take c.loop-token.token-index c.args.form.now)) kept.0 kept.1),
    )
