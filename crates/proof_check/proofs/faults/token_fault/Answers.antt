use Rattle.std.proofs.lemmas.Result.{IfOk-weaker}
use Rattle.sy_base.specs.Tokens.{HasFault, not_utf8, open_comment, open_quote}
use Rattle.proof_check.specs.Faults.{of_tokens}
use Rattle.proof_check.proofs.faults.token_fault.Goals as goal

pub returns-in-NotUtf8 : goal.returns-in-NotUtf8
returns-in-NotUtf8 c =
    let has : HasFault c.args.source.now (not_utf8 c.in-NotUtf8.place) = rw c.in-NotUtf8.is at c.requires.refused in
    IfOk-weaker _ _ _ (λ told is. of_tokens (not_utf8 c.in-NotUtf8.place) has is) c.fault_at.ensures

pub returns-in-OpenComment : goal.returns-in-OpenComment
returns-in-OpenComment c =
    let has : HasFault c.args.source.now (open_comment c.in-OpenComment.place) = rw c.in-OpenComment.is at c.requires.refused in
    IfOk-weaker _ _ _ (λ told is. of_tokens (open_comment c.in-OpenComment.place) has is) c.fault_at-in-OpenComment.ensures

pub returns-in-OpenQuote : goal.returns-in-OpenQuote
returns-in-OpenQuote c =
    let has : HasFault c.args.source.now (open_quote c.in-OpenQuote.place) = rw c.in-OpenQuote.is at c.requires.refused in
    IfOk-weaker _ _ _ (λ told is. of_tokens (open_quote c.in-OpenQuote.place) has is) c.fault_at-in-OpenQuote.ensures
