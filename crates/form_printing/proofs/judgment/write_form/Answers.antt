use Rattle.std.proofs.Common.{◌≡◌, ℕ, ◌+◌, ◌<◌, ◌++◌, drop, length, get_or, sym, ap, ◌∙◌, arith}
use Rattle.std.proofs.lemmas.List.{drop_all}
use Rattle.binding_terms.specs.declared.grammar.Item.{Item}
use Rattle.binding_terms.specs.declared.grammar.Item.TheVariants.{Word, Slot, Binder}
use Rattle.scheme_terms.specs.View.{scheme_context}
use Rattle.rule_schemes.specs.Printing.{context_tokens, first, judgment_form}
use Rattle.form_printing.specs.Page.{written}
use Rattle.form_printing.specs.View.{shown, variables, schemes_tokens}
use Rattle.form_printing.proofs.Contexts.{args_more}
use Rattle.form_printing.proofs.Pages.{written_step, written_whole}
use Rattle.form_printing.proofs.Terms.{items_from, context_step, argument_step}
use Rattle.form_printing.proofs.judgment.write_form.Goals as goal
use Rattle.form_printing.proofs.judgment.write_form.Goals.{in-Word+in_ok-write_terminal-in-Word, in-Slot+then-is_context_slot+in_ok-write_context-in-Slot, in-Slot+else-is_context_slot+in_ok-write_argument-in-Slot, in-Binder}

pub loop-item-preserved : goal.loop-item-preserved
loop-item-preserved c =
    let sig = c.args.sig.now in
    let labels = shown sig c.args.labels.now in
    let assumed = c.args.form.now.ctx in
    let items = c.args.form.now.items in
    let place = c.loop-item.item-index in
    let m = c.loop-item.next_slot in
    let ts = context_tokens sig labels (scheme_context c.args.j.now.ctx) in
    let inside = λ (k : ℕ). schemes_tokens sig labels (variables c.args.scope.now) (drop k c.args.j.now.args) in
    let left = λ (k : ℕ). judgment_form assumed (drop (place + 1) items) ts (inside k) in
    let same = c.as_slice-item-items.ensures in
    let count = ap length same in
    let within : place < length items = omega arith in
    let from = λ (x : Item) (is : c.item-item.result ≡ x).
    ap (λ xs. judgment_form assumed xs ts (inside m))
    (items_from items place c.item-item.result x within (c.item-item.is ∙ ap (λ xs. get_or xs place c.item-item.result) same) is) in
    elim c.match-item.branch [
      | in-Word+in_ok-write_terminal-in-Word w ↦ record {
        slots = omega arith;
        page =
            (λ k. written c.match-item.page (left (w.next_slot-is k)))
            ∙ written_step c.loop-item.page c.match-item.page _ _ _ _ (w.page-is ∙ w.in_ok-write_terminal-in-Word.ensures) c.loop-item.invariant.page
            (from (Word w.in-Word.text w.in-Word.quoted) w.in-Word.is);
      }
      | in-Slot+then-is_context_slot+in_ok-write_context-in-Slot w ↦ record {
        slots = omega arith;
        page =
            (λ k. written c.match-item.page (left (w.next_slot-is k)))
            ∙ written_step c.loop-item.page c.match-item.page _ _ _ _ (w.page-is ∙ w.in_ok-write_context-in-Slot.ensures) c.loop-item.invariant.page
            (from (Slot w.in-Slot.cat w.in-Slot.binds) w.in-Slot.is
            ∙ context_step assumed w.in-Slot.cat w.in-Slot.binds (drop (place + 1) items) ts (inside m)
            (sym w.is_context_slot.ensures ∙ w.if-is_context_slot.true));
      }
      | in-Slot+else-is_context_slot+in_ok-write_argument-in-Slot w ↦ record {
        slots = omega arith;
        page =
            (λ k. written c.match-item.page (left (w.next_slot-is k)))
            ∙ written_step c.loop-item.page c.match-item.page _ _ _ _ (w.page-is ∙ (w.in_ok-write_argument-in-Slot.ensures
            ∙ ap (λ args. written c.loop-item.page (first (schemes_tokens sig labels (variables c.args.scope.now) (drop m args)))) w.as_slice.ensures)) c.loop-item.invariant.page
            (from (Slot w.in-Slot.cat w.in-Slot.binds) w.in-Slot.is
            ∙ (argument_step assumed w.in-Slot.cat w.in-Slot.binds (drop (place + 1) items) ts (inside m)
            (sym w.is_context_slot.ensures ∙ w.if-is_context_slot.false)
            ∙ ap (λ xs. first (inside m) ++ judgment_form assumed (drop (place + 1) items) ts xs)
            (args_more sig labels (variables c.args.scope.now) c.args.j.now.args m)));
      }
      | in-Binder w ↦ record {
        slots = omega arith;
        page = (λ k. written (w.page-is k) (left (w.next_slot-is k))) ∙ (ap (written c.loop-item.page) (sym (from (Binder w.in-Binder.field-0) w.in-Binder.is)) ∙ c.loop-item.invariant.page);
      }
    ]

pub returns : goal.returns
returns c =
    let count = ap length c.as_slice-item-items.ensures in
    written_whole c.loop-item.page _ _ c.loop-item.invariant.page
    (ap
    (λ items. judgment_form c.args.form.now.ctx items (context_tokens c.args.sig.now (shown c.args.sig.now c.args.labels.now) (scheme_context c.args.j.now.ctx))
    (schemes_tokens c.args.sig.now (shown c.args.sig.now c.args.labels.now) (variables c.args.scope.now) (drop c.loop-item.next_slot c.args.j.now.args)))
    (drop_all c.loop-item.item-index c.args.form.now.items (omega arith)))
