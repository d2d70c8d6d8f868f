use Rattle.std.proofs.Common.{ℕ, ◌+◌, drop, sym, ap, ◌∙◌, arith}
use Rattle.std.proofs.lemmas.List.{drop_all}
use Rattle.binding_terms.specs.declared.grammar.Item.TheVariants.{Slot}
use Rattle.derivation_text.specs.Page.{written}
use Rattle.derivation_text.specs.View.{variables, items_tokens}
use Rattle.derivation_text.proofs.Pages.{written_nothing, written_step, written_whole}
use Rattle.derivation_text.proofs.Terms.{word_step, binder_step, slot_step}
use Rattle.derivation_text.proofs.term.+write_term.Goals as goal
use Rattle.derivation_text.proofs.term.+write_term.Goals.{write_items-in-Word+in_ok-write_terminal-in-Word, write_items-in-Slot+in_ok-write_slot-in-Slot, write_items-in-Binder+in_ok-write_binder-in-Binder}

pub write_items-loop-item-preserved : goal.write_items-loop-item-preserved
write_items-loop-item-preserved t c =
    let sig = c.args.sig.now in
    let scope = variables c.args.scope.now in
    let bs = c.args.binders.now in
    let items = c.args.items.now in
    let args = c.args.args.now in
    let place = c.loop-item.item-index in
    let left = λ (n m : ℕ). items_tokens sig scope (variables bs) (variables (drop n bs)) (drop (place + 1) items) (drop m args) in
    elim c.match-item.branch [
      | write_items-in-Word+in_ok-write_terminal-in-Word w ↦ record {
        binders = omega arith;
        slots = omega arith;
        page =
            (λ k. written c.match-item.page (left (w.next_binder-is k) (w.next_slot-is k)))
            ∙ written_step c.loop-item.page c.match-item.page _ _ _ _ (w.page-is ∙ w.in_ok-write_terminal-in-Word.ensures) c.loop-item.invariant.page
            (word_step sig scope (variables bs) _ items _ place c.item-item.result w.in-Word.text w.in-Word.quoted
            c.loop-item-test.true c.item-item.is w.in-Word.is);
      }
      | write_items-in-Slot+in_ok-write_slot-in-Slot w ↦ record {
        binders = omega arith;
        slots = omega arith;
        page =
            (λ k. written c.match-item.page (left (w.next_binder-is k) (w.next_slot-is k)))
            ∙ written_step c.loop-item.page c.match-item.page _ _ _ _ (w.page-is ∙ w.in_ok-write_slot-in-Slot.ensures) c.loop-item.invariant.page
            (slot_step sig scope (variables bs) _ items args place c.loop-item.next_slot c.item-item.result w.in-Slot.cat w.as_slice.result.now
            c.loop-item-test.true c.item-item.is
            (w.in-Slot.is ∙ (λ k. Slot w.in-Slot.cat (sym w.as_slice.ensures k))));
      }
      | write_items-in-Binder+in_ok-write_binder-in-Binder w ↦ record {
        binders = omega arith;
        slots = omega arith;
        page =
            (λ k. written c.match-item.page (left (w.next_binder-is k) (w.next_slot-is k)))
            ∙ written_step c.loop-item.page c.match-item.page _ _ _ _ (w.page-is ∙ w.in_ok-write_binder-in-Binder.ensures) c.loop-item.invariant.page
            (binder_step sig scope bs items _ place c.loop-item.next_binder c.item-item.result w.in-Binder.field-0
            c.loop-item-test.true c.item-item.is w.in-Binder.is);
      }
    ]

pub write_items-returns : goal.write_items-returns
write_items-returns t c =
    written_whole c.loop-item.page _ _ c.loop-item.invariant.page
    (ap
    (λ items. items_tokens c.args.sig.now (variables c.args.scope.now) (variables c.args.binders.now)
    (variables (drop c.loop-item.next_binder c.args.binders.now)) items (drop c.loop-item.next_slot c.args.args.now))
    (drop_all c.loop-item.item-index c.args.items.now c.loop-item-test.false))

pub write_slot-returns-then-number-args : goal.write_slot-returns-then-number-args
write_slot-returns-then-number-args t c =
    rw (drop_all c.args.number c.args.args.now c.if-number-args.true) (sym (written_nothing c.args.page.now))
