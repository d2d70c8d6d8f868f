use Rattle.std.proofs.Common.{◌≡◌, [], length, drop, ap, sym, ◌∙◌, arith}
use Rattle.std.proofs.lemmas.List.{drop_all}
use Rattle.rule_schemes.specs.Printing.{empty_form_in}
use Rattle.form_printing.specs.Page.{written}
use Rattle.form_printing.proofs.Pages.{written_nothing}
use Rattle.form_printing.proofs.context.write_empty_form.Goals as goal

pub returns : goal.returns
returns c =
    let prods = c.args.sig.now.prods in
    let same = ap length (c.deref-prod-items.ensures.value ∙ c.prods.ensures.value) in
    let none : empty_form_in c.args.cat.0 (drop c.loop-prod.prod-index prods) ≡ [] =
    ap (empty_form_in c.args.cat.0) (drop_all c.loop-prod.prod-index prods (omega arith)) in
    c.loop-prod.invariant.page ∙ (sym (written_nothing c.args.page.now) ∙ ap (written c.args.page.now) (sym none ∙ c.loop-prod.invariant.form))
