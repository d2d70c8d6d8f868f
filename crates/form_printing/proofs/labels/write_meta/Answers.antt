use Rattle.std.proofs.Common.{◌≡◌, ◌-◌, option_map, ◌∷◌, [], OnOk, subst, sym, ap, ◌∙◌, arith}
use Rattle.scheme_terms.specs.View.{names}
use Rattle.rule_schemes.specs.Printing.{meta_name}
use Rattle.form_printing.specs.Page.{written}
use Rattle.form_printing.specs.View.{shown, later_name}
use Rattle.form_printing.proofs.Names.{own_meta, later_meta}
use Rattle.form_printing.proofs.labels.write_meta.Goals as goal

pub returns-in-Scope : goal.returns-in-Scope
unfolding shown
returns-in-Scope c =
    subst (λ z. OnOk c.token.result (c.token.new.self ≡ z))
    (ap (λ w. written c.args.page.now (w ∷ []))
    (c.meta_name.ensures ∙ (ap (λ ns. meta_name ns c.args.number) c.as_slice.ensures
    ∙ sym (ap (λ l. (shown c.args.sig.now l).metas c.args.number) c.in-Scope.is)))) c.token.ensures

pub returns-then-number-len : goal.returns-then-number-len
unfolding shown
returns-then-number-len c =
    subst (λ z. OnOk c.token-then-number-len.result (c.token-then-number-len.new.self ≡ z))
    (ap (λ w. written c.args.page.now (w ∷ []))
    (c.meta_name-then-number-len.ensures ∙ (ap (λ ns. meta_name ns c.args.number) c.as_slice-then-number-len.ensures
    ∙ sym (ap (λ l. (shown c.args.sig.now l).metas c.args.number) c.in-Choice.is
    ∙ own_meta c.args.sig.now (names c.in-Choice.scope.now) c.in-Choice.metas.now (option_map (λ p. p.0) c.in-Choice.known) c.args.number (omega (arith, c.len.ensures, c.if-number-len.true)))))) c.token-then-number-len.ensures

pub returns-else-number-len : goal.returns-else-number-len
unfolding shown
returns-else-number-len c =
    subst (λ z. OnOk c.write_later.result (c.write_later.new.page ≡ z))
    (ap (λ w. written c.args.page.now (w ∷ []))
    (sym (ap (λ l. (shown c.args.sig.now l).metas c.args.number) c.in-Choice.is
    ∙ later_meta c.args.sig.now (names c.in-Choice.scope.now) c.in-Choice.metas.now (option_map (λ p. p.0) c.in-Choice.known) c.args.number
    (omega (arith, c.len.ensures, c.if-number-len.false))
    ∙ ap (λ n. later_name c.in-Choice.metas.now (c.args.number - n)) (sym c.len-in-Choice.ensures)))) c.write_later.ensures
