use Rattle.std.proofs.Common.{◌≡◌, option_map, ◌∷◌, [], OnOk, subst, sym, ap, ◌∙◌, arith}
use Rattle.scheme_terms.specs.View.{names, known_variable}
use Rattle.std.proofs.lemmas.List.{length-map}
use Rattle.form_printing.specs.Page.{written}
use Rattle.form_printing.specs.View.{shown, known_name}
use Rattle.form_printing.proofs.Names.{own_known, later_known, labels_known}
use Rattle.form_printing.proofs.labels.write_known.Goals as goal

pub returns-in-Scope : goal.returns-in-Scope
unfolding shown
returns-in-Scope c =
    subst (λ z. OnOk c.token.result (c.token.new.self ≡ z))
    (ap (λ w. written c.args.page.now (w ∷ []))
    (c.known_name.ensures ∙ (ap (λ ns. known_name ns c.args.number) c.as_slice.ensures
    ∙ sym (ap (λ l. (shown c.args.sig.now l).knowns c.args.number) c.in-Scope.is ∙ labels_known (c.in-Scope.scope.now.knowns) c.args.number)))) c.token.ensures

pub returns-then-number-len : goal.returns-then-number-len
unfolding shown
returns-then-number-len c =
    subst (λ z. OnOk c.token-then-number-len.result (c.token-then-number-len.new.self ≡ z))
    (ap (λ w. written c.args.page.now (w ∷ []))
    (c.known_name-then-number-len.ensures ∙ (ap (λ ns. known_name ns c.args.number) c.as_slice-then-number-len.ensures
    ∙ sym (ap (λ l. (shown c.args.sig.now l).knowns c.args.number) c.in-Choice.is
    ∙ own_known c.args.sig.now (names c.in-Choice.scope.now) c.in-Choice.metas.now (option_map (λ p. p.0) c.in-Choice.known) c.args.number (omega (arith, c.len.ensures, c.if-number-len.true, length-map c.in-Choice.scope.now.knowns known_variable)) ∙ labels_known c.in-Choice.scope.now.knowns c.args.number)))) c.token-then-number-len.ensures

pub returns-else-number-len : goal.returns-else-number-len
unfolding shown
returns-else-number-len c =
    subst (λ z. OnOk c.write_chosen.result (c.write_chosen.new.page ≡ z))
    (ap (λ w. written c.args.page.now (w ∷ []))
    (sym (ap (λ l. (shown c.args.sig.now l).knowns c.args.number) c.in-Choice.is
    ∙ later_known c.args.sig.now (names c.in-Choice.scope.now) c.in-Choice.metas.now (option_map (λ p. p.0) c.in-Choice.known) c.args.number (omega (arith, c.len.ensures, c.if-number-len.false, length-map c.in-Choice.scope.now.knowns known_variable))))) c.write_chosen.ensures
