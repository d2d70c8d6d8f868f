use Rattle.std.proofs.Common.{◌∙◌, sym}
use Rattle.std.proofs.lemmas.Bool.{eqb-true, eqb-false}
use Rattle.proof_lexer.proofs.TextLemmas.{chars-empty, some_chars}
use Rattle.proof_lexer.proofs.FrontLemmas.{open_quote, quoted_front}
use Rattle.proof_lexer.proofs.front.quoted.Goals as goal

pub returns-then-is_empty : goal.returns-then-is_empty
returns-then-is_empty c =
    let empty = chars-empty c.part_before-text.result.now (eqb-true _ 0 (sym c.is_empty.ensures ∙ c.if-is_empty.true)) in
    open_quote _ _ _ c.after_run-end.ensures c.part_before-text.ensures.part (λ d front rest text_is end_is. cc (empty, text_is))

pub returns-then-last-eq34 : goal.returns-then-last-eq34
returns-then-last-eq34 c =
    let some = some_chars c.part_before-text.result.now c.part_before-text.utf8 (eqb-false _ 0 (sym c.is_empty.ensures ∙ c.if-is_empty.false)) in (
      c.part_before-text.utf8,
      quoted_front _ _ _ _ c.in-Some.last c.after_run-end.ensures c.part_before-text.ensures.part c.in-Some.ensures.0 c.if-last-eq34.true some,
    )

pub returns-else-last-eq34 : goal.returns-else-last-eq34
returns-else-last-eq34 c =
    open_quote _ _ _ c.after_run-end.ensures c.part_before-text.ensures.part
    (λ d front rest text_is end_is. let other = c.in-Some.ensures.0 in c.if-last-eq34.false (cc (other, end_is)))

pub returns-in-None : goal.returns-in-None
returns-in-None c =
    open_quote _ _ _ c.after_run-end.ensures c.part_before-text.ensures.part
    (λ d front rest text_is end_is. let none = c.in-None.ensures.0 in cc (none, end_is))
