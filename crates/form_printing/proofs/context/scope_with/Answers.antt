use Rattle.std.proofs.Common.{◌++◌, reverse, ap, ◌∙◌}
use Rattle.std.proofs.lemmas.List.{map-append}
use Rattle.binding_terms.specs.Signature.{binders}
use Rattle.rule_schemes.specs.Printing.{numbered}
use Rattle.form_printing.specs.View.{variable, variables}
use Rattle.form_printing.proofs.Contexts.{variables_reverse}
use Rattle.form_printing.proofs.context.scope_with.Goals as goal

pub returns : goal.returns
returns c =
    ap variables c.in_ok-extend_from_slice.ensures.items
    ∙ (map-append variable _ _
    ∙ ap (λ vs. vs ++ variables c.args.scope.now)
    (ap variables c.reverse.ensures.items
    ∙ (variables_reverse c.in_ok-inner.inner.items
    ∙ ap reverse (c.in_ok-inner.ensures ∙ ap (λ items. numbered (variables c.args.scope.now) (binders items)) c.items_of.ensures))))
