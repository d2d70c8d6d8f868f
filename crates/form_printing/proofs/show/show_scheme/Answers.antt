use Rattle.std.proofs.Common.{ap, option_map, ◌∙◌}
use Rattle.scheme_terms.specs.View.{names, scheme}
use Rattle.rule_schemes.specs.Printing.{argument, choice_labels, text_of}
use Rattle.form_printing.specs.View.{shown, variables}
use Rattle.form_printing.proofs.Pages.{page_text}
use Rattle.form_printing.proofs.show.show_scheme.Goals as goal

pub returns : goal.returns
unfolding shown
returns c =
    page_text c.new-page.result _ _ c.in_ok-write_scheme.ensures c.new-page.ensures.text c.new-page.ensures.joined
    ∙ (λ k. text_of (argument c.args.sig.now (choice_labels c.args.sig.now (names c.args.scope.now) (c.as_slice.ensures.value k) (option_map (λ p. p.0) c.args.known))
    (variables (c.as_slice-2.ensures.value k)) (scheme c.args.s.now)))
    ∙ ap (λ vs. text_of (argument c.args.sig.now (choice_labels c.args.sig.now (names c.args.scope.now) c.args.choice.now.items (option_map (λ p. p.0) c.args.known))
    vs (scheme c.args.s.now))) c.in_ok-variables.ensures
