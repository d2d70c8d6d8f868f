use Rattle.std.proofs.Common.{◌≡◌, ◌+◌, ◌<◌, ◌≤◌, [], get_or, length, map, drop, true≢false, sym, subst, ◌∙◌, arith}
use Rattle.term_reader.specs.Splitting.{tokens_of, Stands, IsHead, AreArguments, GoesOn, AreSplits, split}
use Rattle.term_reader.proofs.SplitLemmas.{one_end_more, one_end_cut, if_ok}
use Rattle.term_reader.proofs.Pieces.{cannot_stand}
use Rattle.term_reader.proofs.ArgumentLemmas.{no_category, argument_head, last_bracket, next_after_comma, next_after_bracket, nothing_after, some_params}
use Rattle.term_reader.proofs.brackets.+brackets.Goals as goal
use Rattle.term_reader.proofs.brackets.+brackets.Goals.{argument_splits-then-may+in_ok-more+in_ok-first+in_ok-add_before, argument_splits-else-may}

pub argument_splits-loop-end-preserved : goal.argument_splits-loop-end-preserved
argument_splits-loop-end-preserved t c =
    let sheet = c.args.sheet.now in
    let ts = tokens_of sheet in
    let cat = get_or c.args.params.now c.args.at no_category in
    let Rest = GoesOn ts c.args.to (drop (c.args.at + 1) c.args.params.now) in
    let below : c.loop-end.end + 1 ≤ c.args.to = omega arith in
    let some : c.args.from ≤ c.loop-end.end = omega arith in
    let start : c.args.from ≤ c.args.from = omega arith in
    elim c.if-may.branch [
      | argument_splits-then-may+in_ok-more+in_ok-first+in_ok-add_before w ↦ (
        below,
        rw (w.all-is, w.in_ok-add_before.ensures, w.in_ok-first.ensures, w.as_slice.ensures)
            (one_end_more (Stands sheet) cat [] c.args.from c.args.from Rest c.loop-end.end _ _ some c.loop-end.invariant.1 w.in_ok-more.ensures start),
      )
      | argument_splits-else-may w ↦ (
        below,
        rw w.all-is
            (one_end_cut (Stands sheet) cat [] c.args.from c.args.from Rest c.loop-end.end _
            (cannot_stand sheet cat [] c.args.from c.loop-end.end c.requires.sheet (c.may.ensures w.if-may.false)) c.loop-end.invariant.1),
      )
    ]

pub argument_splits-returns : goal.argument_splits-returns
argument_splits-returns t c =
    let sheet = c.args.sheet.now in
    let ts = tokens_of sheet in
    let cat = get_or c.args.params.now c.args.at no_category in
    let Rest = GoesOn ts c.args.to (drop (c.args.at + 1) c.args.params.now) in
    let all = map split c.loop-end.all in
    let end : c.loop-end.end ≡ c.args.to = omega (arith, c.loop-end.invariant.0) in
    argument_head (Stands sheet) ts c.args.to c.args.params.now c.args.at c.args.from all c.requires.params
    (subst (λ k. AreSplits (Stands sheet) (IsHead cat [] c.args.from c.args.from k Rest) all) end c.loop-end.invariant.1)

pub after_argument-returns-then-at-params : goal.after_argument-returns-then-at-params
after_argument-returns-then-at-params t c =
    let sheet = c.args.sheet.now in
    let ts = tokens_of sheet in
    let past : length c.args.params.now ≤ c.args.at = omega arith in
    if_ok c.end_split.result _ _ (λ all e. last_bracket (Stands sheet) ts c.args.to c.args.params.now c.args.at c.args.end c.closes_last.result (map split all) past c.closes_last.ensures e)
    c.end_split.ensures

pub after_argument-returns-then-has : goal.after_argument-returns-then-has
after_argument-returns-then-has t c =
    let sheet = c.args.sheet.now in
    let ts = tokens_of sheet in
    if_ok c.argument_splits.result _ _ (λ all s. next_after_comma (Stands sheet) ts c.args.to (drop c.args.at c.args.params.now) c.args.end (map split all) (c.has.ensures.0 c.if-has.true) s)
    c.argument_splits.ensures

pub after_argument-returns-then-opens_again : goal.after_argument-returns-then-opens_again
after_argument-returns-then-opens_again t c =
    let sheet = c.args.sheet.now in
    let ts = tokens_of sheet in
    let lt : c.args.at < length c.args.params.now = omega arith in
    let again = c.opens_again.ensures.0 c.if-opens_again.true in
    if_ok c.argument_splits-then-opens_again.result _ _ (λ all. some_params (Stands sheet) ts c.args.to c.args.params.now c.args.at
    (λ cs. AreSplits (Stands sheet) (AreArguments ts c.args.to cs (c.args.end + 1 + 1)) (map split all) → AreSplits (Stands sheet) (GoesOn ts c.args.to cs c.args.end) (map split all)) lt
    (λ a cs s. next_after_bracket (Stands sheet) ts c.args.to a cs c.args.end (map split all) again.0 again.1 again.2 s))
    c.argument_splits-then-opens_again.ensures

pub after_argument-returns : goal.after_argument-returns
after_argument-returns t c =
    let sheet = c.args.sheet.now in
    let ts = tokens_of sheet in
    let lt : c.args.at < length c.args.params.now = omega arith in
    rw c.new.ensures
    (some_params (Stands sheet) ts c.args.to c.args.params.now c.args.at (λ cs. AreSplits (Stands sheet) (GoesOn ts c.args.to cs c.args.end) []) lt
    (λ a cs. nothing_after (Stands sheet) ts c.args.to a cs c.args.end
    (λ e. true≢false (sym (c.has.ensures.1 e) ∙ c.if-has.false))
    (λ e l f. true≢false (sym (c.opens_again.ensures.1 (e, l, f)) ∙ c.if-opens_again.false))))
