use Rattle.std.proofs.Common.{sym, ◌∙◌, true≢false}
use Rattle.proof_lexer.specs.View.{token_view}
use Rattle.proof_check.proofs.PlaceLemmas.{behind_a_reserved_word, behind_another}
use Rattle.proof_check.proofs.SearchLemmas.{iff_both}
use Rattle.proof_check.proofs.unbuilt.stays_in_syntax.Goals as goal

pub returns-then-is_reserved_word : goal.returns-then-is_reserved_word
returns-then-is_reserved_word c tokens kept =
    iff_both c.is_word.ensures (behind_a_reserved_word tokens (token_view c.args.token.now) (c.is_reserved_word.ensures.0 c.if-is_reserved_word.true))

pub returns : goal.returns
returns c tokens kept =
    iff_both kept (behind_another tokens (token_view c.args.token.now) (λ reserved. true≢false (sym (c.is_reserved_word.ensures.1 reserved) ∙ c.if-is_reserved_word.false)))
