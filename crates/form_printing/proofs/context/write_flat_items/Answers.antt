use Rattle.std.proofs.Common.{ℕ, ◌+◌, ◌++◌, map, take, drop, ap, ◌∙◌, arith}
use Rattle.std.proofs.lemmas.List.{drop_all}
use Rattle.binding_terms.specs.declared.grammar.Item.TheVariants.{Word, Slot, Binder}
use Rattle.rule_schemes.specs.Printing.{first, laid_out, variable_word}
use Rattle.form_printing.specs.Page.{written}
use Rattle.form_printing.specs.View.{shown, variables, schemes_tokens}
use Rattle.form_printing.proofs.Contexts.{args_more}
use Rattle.form_printing.proofs.Pages.{written_step, written_whole}
use Rattle.form_printing.proofs.Terms.{items_from, words_more}
use Rattle.form_printing.proofs.context.write_flat_items.Goals as goal
use Rattle.form_printing.proofs.context.write_flat_items.Goals.{in-Word+in_ok-write_terminal-in-Word, in-Slot+in_ok-write_argument-in-Slot, in-Binder+in_ok-write_binder-in-Binder}

pub loop-item-preserved : goal.loop-item-preserved
loop-item-preserved c =
    let sig = c.args.sig.now in
    let labels = shown sig c.args.labels.now in
    let bs = c.args.binders.now in
    let items = c.args.items.now in
    let place = c.loop-item.item-index in
    let n = c.loop-item.next_binder in
    let m = c.loop-item.next_slot in
    let words = λ (k : ℕ). map (variable_word sig) (variables (drop k bs)) in
    let inside = λ (k : ℕ). schemes_tokens sig labels (variables c.args.scope.now) (drop k c.args.args.now) in
    let left = λ (k j : ℕ). laid_out (drop (place + 1) items) (words k) (inside j) in
    elim c.match-item.branch [
      | in-Word+in_ok-write_terminal-in-Word w ↦ record {
        binders = omega arith;
        slots = omega arith;
        page =
            (λ k. written c.match-item.page (left (w.next_binder-is k) (w.next_slot-is k)))
            ∙ written_step c.loop-item.page c.match-item.page _ _ _ _ (w.page-is ∙ w.in_ok-write_terminal-in-Word.ensures) c.loop-item.invariant.page
            (ap (λ xs. laid_out xs (words n) (inside m))
            (items_from items place c.item-item.result (Word w.in-Word.text w.in-Word.quoted) c.loop-item-test.true c.item-item.is w.in-Word.is));
      }
      | in-Slot+in_ok-write_argument-in-Slot w ↦ record {
        binders = omega arith;
        slots = omega arith;
        page =
            (λ k. written c.match-item.page (left (w.next_binder-is k) (w.next_slot-is k)))
            ∙ written_step c.loop-item.page c.match-item.page _ _ _ _ (w.page-is ∙ w.in_ok-write_argument-in-Slot.ensures) c.loop-item.invariant.page
            (ap (λ xs. laid_out xs (words n) (inside m))
            (items_from items place c.item-item.result (Slot w.in-Slot.cat w.in-Slot.binds) c.loop-item-test.true c.item-item.is w.in-Slot.is)
            ∙ ap (λ xs. first (inside m) ++ laid_out (drop (place + 1) items) (words n) xs) (args_more sig labels (variables c.args.scope.now) c.args.args.now m));
      }
      | in-Binder+in_ok-write_binder-in-Binder w ↦ record {
        binders = omega arith;
        slots = omega arith;
        page =
            (λ k. written c.match-item.page (left (w.next_binder-is k) (w.next_slot-is k)))
            ∙ written_step c.loop-item.page c.match-item.page _ _ _ _ (w.page-is ∙ w.in_ok-write_binder-in-Binder.ensures) c.loop-item.invariant.page
            (ap (λ xs. laid_out xs (words n) (inside m))
            (items_from items place c.item-item.result (Binder w.in-Binder.field-0) c.loop-item-test.true c.item-item.is w.in-Binder.is)
            ∙ ap (λ ws. take 1 (words n) ++ laid_out (drop (place + 1) items) ws (inside m)) (words_more sig bs n));
      }
    ]

pub returns : goal.returns
returns c =
    written_whole c.loop-item.page _ _ c.loop-item.invariant.page
    (ap
    (λ items. laid_out items (map (variable_word c.args.sig.now) (variables (drop c.loop-item.next_binder c.args.binders.now)))
    (schemes_tokens c.args.sig.now (shown c.args.sig.now c.args.labels.now) (variables c.args.scope.now) (drop c.loop-item.next_slot c.args.args.now)))
    (drop_all c.loop-item.item-index c.args.items.now c.loop-item-test.false))
