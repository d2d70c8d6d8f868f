use Rattle.std.proofs.Common.{◌++◌, ap, ◌∙◌}
use Rattle.derivation_text.proofs.Derivations.{three_pieces}
use Rattle.derivation_text.proofs.Pages.{page_text}
use Rattle.derivation_text.proofs.derivation.value_line.Goals as goal

pub returns : goal.returns
returns c =
    let shown = page_text c.new-page.result _ _ c.in_ok-write_value.ensures c.new-page.ensures.text c.new-page.ensures.joined in
    three_pieces _ _ _ _ _ _ _ c.new-text.ensures c.in_ok-push.ensures.ok
    (c.in_ok-push-2.ensures.ok ∙ ap (λ t. c.push.new.self ++ t) (c.bytes.ensures ∙ shown)) c.in_ok-push-3.ensures.ok
