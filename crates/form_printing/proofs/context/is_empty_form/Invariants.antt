use Rattle.std.proofs.Common.{◌≡◌, drop}
use Rattle.std.specs.List.{list_all}
use Rattle.binding_terms.specs.Signature.{is_word}
use Rattle.form_printing.proofs.context.is_empty_form.Given as goal

abbrev pub invariant-loop-item : goal.invariant-loop-item
invariant-loop-item l = list_all is_word (drop l.item-index l.prod.items) ≡ list_all is_word l.prod.items
