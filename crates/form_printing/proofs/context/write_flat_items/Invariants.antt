use Rattle.std.proofs.Common.{◌≡◌, ◌≤◌, map, drop}
use Rattle.rule_schemes.specs.Printing.{laid_out, variable_word}
use Rattle.form_printing.specs.Page.{written}
use Rattle.form_printing.specs.View.{shown, variables, schemes_tokens}
use Rattle.form_printing.proofs.context.write_flat_items.Given as goal

abbrev pub invariant-loop-item : goal.invariant-loop-item
invariant-loop-item l = record {
  binders : l.next_binder ≤ l.item-index;
  slots : l.next_slot ≤ l.item-index;
  page : written l.page
      (laid_out (drop l.item-index l.items) (map (variable_word l.sig) (variables (drop l.next_binder l.binders)))
      (schemes_tokens l.sig (shown l.sig l.labels) (variables l.scope) (drop l.next_slot l.args)))
      ≡ written l.initial.page
      (laid_out l.items (map (variable_word l.sig) (variables l.binders)) (schemes_tokens l.sig (shown l.sig l.labels) (variables l.scope) l.args));
}
