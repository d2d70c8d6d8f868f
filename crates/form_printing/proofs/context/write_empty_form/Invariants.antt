use Rattle.std.proofs.Common.{◌≡◌, drop}
use Rattle.rule_schemes.specs.Printing.{empty_form_in}
use Rattle.form_printing.proofs.context.write_empty_form.Given as goal

abbrev pub invariant-loop-prod : goal.invariant-loop-prod
invariant-loop-prod l = record {
  form : empty_form_in l.cat.0 (drop l.prod-index l.sig.prods) ≡ empty_form_in l.cat.0 l.sig.prods;
  page : l.page ≡ l.initial.page;
}
