use Rattle.std.proofs.Common.{◌≡◌, ◌+◌, ◌<◌, ◌≤◌, [], ◌∷◌, get_or, length, map, drop, Some, slice_get, true≢false, ap, sym, subst, ◌∙◌, arith}
use Rattle.rule_schemes.specs.Reading.{IsTerminal, word}
use Rattle.binding_terms.specs.declared.grammar.Item.TheVariants.{Slot}
use Rattle.term_reader.specs.Splitting.{tokens_of, Stands, IsHead, IsSplit, AreSplits, split}
use Rattle.term_reader.specs.View.{token}
use Rattle.term_reader.proofs.SplitLemmas.{same_splits, one_end_more, one_end_cut, word_splits, another_word, binder_splits, item_splits, no_token, if_ok}
use Rattle.term_reader.proofs.Pieces.{cannot_stand}
use Rattle.term_reader.proofs.splitting.+splits.Goals as goal
use Rattle.term_reader.proofs.splitting.+splits.Goals.{slot_splits-then-may+in_ok-more+in_ok-first+in_ok-add_before, slot_splits-else-may}
use Rattle.binding_terms.proofs.Lists.{get_mapped_or}

pub binder_splits-returns : goal.binder_splits-returns
binder_splits-returns t c =
    let sheet = c.args.sheet.now in
    let ts = tokens_of sheet in
    let l : c.args.from < length sheet.tokens.now = omega arith in
    let lt : c.args.from < c.args.to = omega arith in
    let here = get_or sheet.tokens.now c.args.from no_token in
    let this = c.is_binder.ensures.0 c.if-not-is_binder.false in
    let at : slice_get ts c.args.from ≡ Some (token here) = get_mapped_or token sheet.tokens.now c.args.from no_token l in
    let read : slice_get ts c.args.from ≡ Some (word here.text.now) = at ∙ ap (λ k. Some (k, here.text.now)) this.0 in
    rw (c.in_ok-add_before.ensures, c.in_ok-first.ensures, c.as_slice.ensures, c.new-all.ensures, c.as_bytes.ensures.value)
    (binder_splits (Stands sheet) sheet.sig.now ts c.args.to c.args.cat (drop c.args.at c.args.items.now) c.args.from here.text.now _ lt read this.1 c.in_ok-more.ensures)

pub slot_splits-loop-end-preserved : goal.slot_splits-loop-end-preserved
slot_splits-loop-end-preserved t c =
    let sheet = c.args.sheet.now in
    let ts = tokens_of sheet in
    let Rest = IsSplit sheet.sig.now ts c.args.to (drop c.args.at c.args.items.now) in
    let below : c.loop-end.end + 1 ≤ c.args.to + 1 = omega arith in
    let some : c.args.from + 1 ≤ c.loop-end.end = omega arith in
    let start : c.args.from ≤ c.args.from + 1 = omega arith in
    elim c.if-may.branch [
      | slot_splits-then-may+in_ok-more+in_ok-first+in_ok-add_before w ↦ (
        below,
        rw (w.all-is, w.in_ok-add_before.ensures, w.in_ok-first.ensures, w.as_slice.ensures)
            (one_end_more (Stands sheet) c.args.cat c.args.binds.now c.args.from (c.args.from + 1) Rest c.loop-end.end _ _ some c.loop-end.invariant.1 w.in_ok-more.ensures start),
      )
      | slot_splits-else-may w ↦ (
        below,
        rw w.all-is
            (one_end_cut (Stands sheet) c.args.cat c.args.binds.now c.args.from (c.args.from + 1) Rest c.loop-end.end _
            (cannot_stand sheet c.args.cat c.args.binds.now c.args.from c.loop-end.end c.requires.sheet (c.may.ensures w.if-may.false)) c.loop-end.invariant.1),
      )
    ]

pub slot_splits-returns : goal.slot_splits-returns
slot_splits-returns t c =
    let sheet = c.args.sheet.now in
    let ts = tokens_of sheet in
    let items = drop c.args.at c.args.items.now in
    let Rest = IsSplit sheet.sig.now ts c.args.to items in
    let all = map split c.loop-end.all in
    let end : c.loop-end.end ≡ c.args.to + 1 = omega (arith, c.loop-end.invariant.0) in
    same_splits (Stands sheet) (IsHead c.args.cat c.args.binds.now c.args.from (c.args.from + 1) (c.args.to + 1) Rest)
    (IsSplit sheet.sig.now ts c.args.to (Slot c.args.cat c.args.binds.now ∷ items) c.args.from) all (λ vs ps. ((λ s. s), (λ s. s)))
    (subst (λ k. AreSplits (Stands sheet) (IsHead c.args.cat c.args.binds.now c.args.from (c.args.from + 1) k Rest) all) end c.loop-end.invariant.1)

pub splits-returns-then-not-is_terminal : goal.splits-returns-then-not-is_terminal
splits-returns-then-not-is_terminal t c =
    let sheet = c.args.sheet.now in
    let ts = tokens_of sheet in
    let h : c.args.at < length c.args.items.now = omega arith in
    let l : c.args.from < length sheet.tokens.now = omega arith in
    let here = get_or sheet.tokens.now c.args.from no_token in
    let other : IsTerminal c.in-Word.text (token here) → ⊥ =
    λ k. true≢false (sym (c.is_terminal.ensures.1 (rw c.bytes.ensures k)) ∙ c.if-not-is_terminal.true) in
    rw c.new-then-not-is_terminal.ensures
    (item_splits (Stands sheet) sheet.sig.now ts c.args.to c.args.items.now c.args.at c.args.from c.index-items-at.result [] h c.index-items-at.is
    (rw c.in-Word.is (another_word (Stands sheet) sheet.sig.now ts c.args.to c.in-Word.text c.in-Word.quoted (drop (c.args.at + 1) c.args.items.now) c.args.from
    (token here) (get_mapped_or token sheet.tokens.now c.args.from no_token l) other)))

pub splits-returns-else-not-is_terminal : goal.splits-returns-else-not-is_terminal
splits-returns-else-not-is_terminal t c =
    let sheet = c.args.sheet.now in
    let ts = tokens_of sheet in
    let h : c.args.at < length c.args.items.now = omega arith in
    let l : c.args.from < length sheet.tokens.now = omega arith in
    let lt : c.args.from < c.args.to = omega arith in
    let here = get_or sheet.tokens.now c.args.from no_token in
    let this : IsTerminal c.in-Word.text (token here) = rw c.bytes.ensures at (c.is_terminal.ensures.0 c.if-not-is_terminal.false) in
    if_ok c.splits.result _ _ (λ all s. item_splits (Stands sheet) sheet.sig.now ts c.args.to c.args.items.now c.args.at c.args.from c.index-items-at.result (map split all) h c.index-items-at.is
    (rw c.in-Word.is (word_splits (Stands sheet) sheet.sig.now ts c.args.to c.in-Word.text c.in-Word.quoted (drop (c.args.at + 1) c.args.items.now) c.args.from
    (token here) (map split all) lt (get_mapped_or token sheet.tokens.now c.args.from no_token l) this s)))
    c.splits.ensures

pub splits-returns-in-Slot : goal.splits-returns-in-Slot
splits-returns-in-Slot t c =
    let sheet = c.args.sheet.now in
    let ts = tokens_of sheet in
    let h : c.args.at < length c.args.items.now = omega arith in
    if_ok c.slot_splits.result _ _ (λ all s. item_splits (Stands sheet) sheet.sig.now ts c.args.to c.args.items.now c.args.at c.args.from c.index-items-at.result (map split all) h c.index-items-at.is
    (rw c.in-Slot.is s))
    (rw c.as_slice.ensures at c.slot_splits.ensures)

pub splits-returns-in-Binder : goal.splits-returns-in-Binder
splits-returns-in-Binder t c =
    let sheet = c.args.sheet.now in
    let ts = tokens_of sheet in
    let h : c.args.at < length c.args.items.now = omega arith in
    if_ok c.binder_splits.result _ _ (λ all s. item_splits (Stands sheet) sheet.sig.now ts c.args.to c.args.items.now c.args.at c.args.from c.index-items-at.result (map split all) h c.index-items-at.is
    (rw c.in-Binder.is s))
    c.binder_splits.ensures
