use Rattle.std.proofs.Common.{ap, ◌∙◌}
use Rattle.scheme_terms.specs.View.{names}
use Rattle.rule_schemes.specs.Printing.{labels_of, text_of}
use Rattle.rule_schemes.specs.View.{judgment_scheme}
use Rattle.form_printing.specs.Shown.{judgment_written}
use Rattle.form_printing.specs.View.{shown}
use Rattle.form_printing.proofs.Pages.{page_text}
use Rattle.form_printing.proofs.show.show_judgment.Goals as goal

pub returns : goal.returns
unfolding shown
returns c = page_text c.new-page.result _ _ c.in_ok-write_judgment.ensures c.new-page.ensures.text c.new-page.ensures.joined
    ∙ ap (λ forms. text_of (judgment_written c.args.sig.now forms (labels_of (names c.args.scope.now)) (judgment_scheme c.args.j.now))) c.as_slice.ensures.value
