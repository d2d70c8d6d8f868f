use Rattle.std.proofs.Common.{◌≡◌, ◌≤◌, drop}
use Rattle.std.specs.Option.{option_copied}
use Rattle.scheme_terms.specs.View.{context_value}
use Rattle.rule_schemes.specs.Printing.{judgment_form}
use Rattle.derivation_text.specs.Page.{written}
use Rattle.derivation_text.specs.Text.{context_from}
use Rattle.derivation_text.specs.View.{form_tokens, root_value, terms_tokens, variables}
use Rattle.derivation_text.proofs.judgment.write_form.Given as goal

abbrev pub invariant-loop-item : goal.invariant-loop-item
invariant-loop-item l = record {
  slots : l.next_slot ≤ l.item-index;
  page : written l.page
      (judgment_form l.form.ctx (drop l.item-index l.form.items) (context_from l.sig (root_value (option_copied l.root)) (context_value l.j.ctx))
      (terms_tokens l.sig (variables l.scope) (drop l.next_slot l.j.args)))
      ≡ written l.initial.page (form_tokens l.sig (root_value (option_copied l.root)) l.form l.j (variables l.scope));
}
