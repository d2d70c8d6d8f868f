use Rattle.std.proofs.Common.{◌+◌, [], take, sym, subst}
use Rattle.outline_reader.specs.Plain.{plain_form}
use Rattle.user_grammar.specs.Fault.{IsPlaceBehind, at_start}
use Rattle.user_grammar.specs.Finding.{portions_of}
use Rattle.user_grammar.specs.FindingPlaces.{walk_view}
use Rattle.user_grammar.proofs.FaultTokens.{no_words_yet, among_none, form_more_rest, form_whole, place_more, binders_more}
use Rattle.user_grammar.proofs.fault_tokens.form_fault.Goals as goal
use Rattle.binding_terms.proofs.Lists.{rest_taken}

pub loop-number-init : goal.loop-number-init
loop-number-init c =
    let P = portions_of c.args.names.now.lists in (
      subst (IsPlaceBehind P []) (sym c.start-walk.ensures) at_start,
      no_words_yet P _ c.no_names-seen.ensures,
      among_none P (plain_form c.args.form.now),
    )

pub loop-number-preserved : goal.loop-number-preserved
loop-number-preserved c =
    let P = portions_of c.args.names.now.lists in
    let form = c.args.form.now in
    let n = c.loop-number.number in
    let kept = c.loop-number.invariant in (
      place_more P form n _ (walk_view c.loop-number.walk) _ c.loop-number-test.true kept.0 c.in_ok-pass.ensures,
      binders_more P form n _ _ c.loop-number-test.true (c.in_ok-note_binder.ensures (plain_form (take n form)) kept.0 kept.1),
      form_more_rest P form n _ (walk_view c.loop-number.walk) _ c.loop-number.found c.point_fault-one.result c.earlier-found.result c.loop-number-test.true (rest_taken form (n + 1)) kept.0
          c.earlier-found.ensures kept.2 (c.point_fault-one.ensures (plain_form form) (plain_form (take n form)) c.in_ok-own.ensures kept.1),
    )

pub returns : goal.returns
returns c = form_whole (portions_of c.args.names.now.lists) c.args.form.now c.loop-number.number c.loop-number.found c.loop-number-test.false c.loop-number.invariant.2
