use Rattle.std.proofs.Common.{◌≡◌, ◌≤◌, drop}
use Rattle.scheme_terms.specs.View.{scheme_context}
use Rattle.rule_schemes.specs.Printing.{context_tokens, judgment_form}
use Rattle.form_printing.specs.Page.{written}
use Rattle.form_printing.specs.View.{form_tokens, schemes_tokens, shown, variables}
use Rattle.form_printing.proofs.judgment.write_form.Given as goal

abbrev pub invariant-loop-item : goal.invariant-loop-item
invariant-loop-item l = record {
  slots : l.next_slot ≤ l.item-index;
  page : written l.page
      (judgment_form l.form.ctx (drop l.item-index l.form.items) (context_tokens l.sig (shown l.sig l.labels) (scheme_context l.j.ctx))
      (schemes_tokens l.sig (shown l.sig l.labels) (variables l.scope) (drop l.next_slot l.j.args)))
      ≡ written l.initial.page (form_tokens l.sig (shown l.sig l.labels) l.form l.j (variables l.scope));
}
