use Rattle.std.proofs.Common.{◌≡◌, ℕ, ◌+◌, drop, OnOk, subst, sym, ap, ◌∙◌, arith}
use Rattle.std.proofs.lemmas.List.{drop_all}
use Rattle.binding_terms.specs.declared.grammar.Item.TheVariants.{Slot}
use Rattle.form_printing.specs.Page.{written}
use Rattle.form_printing.specs.View.{shown, variables, items_tokens, values_tokens}
use Rattle.rule_schemes.specs.Printing.{after_commas}
use Rattle.form_printing.proofs.Bracketed.{bracketed_none, bracketed_all, further_step, written_four}
use Rattle.form_printing.proofs.Pages.{written_nothing, written_pair, written_step, written_whole}
use Rattle.form_printing.proofs.Terms.{word_step, binder_step, slot_step}
use Rattle.form_printing.proofs.term.+write_scheme.Goals as goal
use Rattle.form_printing.proofs.term.+write_scheme.Goals.{write_items-in-Word+in_ok-write_terminal-in-Word, write_items-in-Slot+in_ok-write_slot-in-Slot, write_items-in-Binder+in_ok-write_binder-in-Binder}

pub write_items-loop-item-preserved : goal.write_items-loop-item-preserved
write_items-loop-item-preserved t c =
    let sig = c.args.sig.now in
    let labels = shown sig c.args.labels.now in
    let scope = variables c.args.scope.now in
    let bs = c.args.binders.now in
    let items = c.args.items.now in
    let args = c.args.args.now in
    let place = c.loop-item.item-index in
    let left = λ (n m : ℕ). items_tokens sig labels scope (variables bs) (variables (drop n bs)) (drop (place + 1) items) (drop m args) in
    elim c.match-item.branch [
      | write_items-in-Word+in_ok-write_terminal-in-Word w ↦ record {
        binders = omega arith;
        slots = omega arith;
        page =
            (λ k. written c.match-item.page (left (w.next_binder-is k) (w.next_slot-is k)))
            ∙ written_step c.loop-item.page c.match-item.page _ _ _ _ (w.page-is ∙ w.in_ok-write_terminal-in-Word.ensures) c.loop-item.invariant.page
            (word_step sig labels scope (variables bs) _ items _ place c.item-item.result w.in-Word.text w.in-Word.quoted
            c.loop-item-test.true c.item-item.is w.in-Word.is);
      }
      | write_items-in-Slot+in_ok-write_slot-in-Slot w ↦ record {
        binders = omega arith;
        slots = omega arith;
        page =
            (λ k. written c.match-item.page (left (w.next_binder-is k) (w.next_slot-is k)))
            ∙ written_step c.loop-item.page c.match-item.page _ _ _ _ (w.page-is ∙ w.in_ok-write_slot-in-Slot.ensures) c.loop-item.invariant.page
            (slot_step sig labels scope (variables bs) _ items args place c.loop-item.next_slot c.item-item.result w.in-Slot.cat w.as_slice.result.now
            c.loop-item-test.true c.item-item.is
            (w.in-Slot.is ∙ (λ k. Slot w.in-Slot.cat (sym w.as_slice.ensures k))));
      }
      | write_items-in-Binder+in_ok-write_binder-in-Binder w ↦ record {
        binders = omega arith;
        slots = omega arith;
        page =
            (λ k. written c.match-item.page (left (w.next_binder-is k) (w.next_slot-is k)))
            ∙ written_step c.loop-item.page c.match-item.page _ _ _ _ (w.page-is ∙ w.in_ok-write_binder-in-Binder.ensures) c.loop-item.invariant.page
            (binder_step sig labels scope bs items _ place c.loop-item.next_binder c.item-item.result w.in-Binder.field-0
            c.loop-item-test.true c.item-item.is w.in-Binder.is);
      }
    ]

pub write_items-returns : goal.write_items-returns
write_items-returns t c =
    written_whole c.loop-item.page _ _ c.loop-item.invariant.page
    (ap
    (λ items. items_tokens c.args.sig.now (shown c.args.sig.now c.args.labels.now) (variables c.args.scope.now) (variables c.args.binders.now)
    (variables (drop c.loop-item.next_binder c.args.binders.now)) items (drop c.loop-item.next_slot c.args.args.now))
    (drop_all c.loop-item.item-index c.args.items.now c.loop-item-test.false))

pub write_slot-returns-then-number-args : goal.write_slot-returns-then-number-args
write_slot-returns-then-number-args t c =
    rw (drop_all c.args.number c.args.args.now c.if-number-args.true) (sym (written_nothing c.args.page.now))

pub write_bracketed-returns-then-args-eq0 : goal.write_bracketed-returns-then-args-eq0
write_bracketed-returns-then-args-eq0 t c =
    sym (written_nothing c.args.page.now)
    ∙ ap (written c.args.page.now)
    (sym (bracketed_none c.args.sig.now (shown c.args.sig.now c.args.labels.now) (variables c.args.scope.now) c.args.args.now c.if-args-eq0.true))

pub write_bracketed-returns : goal.write_bracketed-returns
write_bracketed-returns t c =
    subst (λ z. OnOk c.token-2.result (c.token-2.new.self ≡ z))
    (written_four c.args.page.now c.token.new.self c.write_scheme.new.page c.write_further.new.page _ _ _ _ c.in_ok-token.ensures
    c.in_ok-write_scheme.ensures c.in_ok-write_further.ensures
    ∙ ap (written c.args.page.now)
    (bracketed_all c.args.sig.now (shown c.args.sig.now c.args.labels.now) (variables c.args.scope.now) c.args.args.now c.index-args-0.result
    (omega (arith, c.if-args-eq0.false)) c.index-args-0.is)) c.token-2.ensures

pub write_further-loop-i-preserved : goal.write_further-loop-i-preserved
write_further-loop-i-preserved t c =
    written_step c.loop-i.page c.write_scheme.new.page _ _ _ _
    (written_pair _ c.token.new.self _ _ _ c.in_ok-token.ensures c.in_ok-write_scheme.ensures) c.loop-i.invariant
    (further_step c.args.sig.now (shown c.args.sig.now c.args.labels.now) (variables c.args.scope.now) c.args.args.now c.loop-i.i
    c.index-args-i.result c.loop-i-test.true c.index-args-i.is)

pub write_further-returns : goal.write_further-returns
write_further-returns t c =
    written_whole c.loop-i.page _ _ c.loop-i.invariant
    (ap (λ xs. after_commas (values_tokens c.args.sig.now (shown c.args.sig.now c.args.labels.now) (variables c.args.scope.now) xs))
    (drop_all c.loop-i.i c.args.args.now c.loop-i-test.false))
