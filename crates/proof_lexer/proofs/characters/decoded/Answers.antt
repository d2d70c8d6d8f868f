use Rattle.std.proofs.Common.{◌∙◌}
use Rattle.std.specs.Str.{IsValidUpTo}
use Rattle.proof_lexer.proofs.TextLemmas.{decoded_whole, decoded_front}
use Rattle.proof_lexer.proofs.characters.decoded.Goals as goal

pub returns-in-Ok-clause-decoded : goal.returns-in-Ok-clause-decoded
returns-in-Ok-clause-decoded c =
    decoded_whole c.args.source.now c.in-Ok.text.now c.in-Ok.ensures.cases.1 c.in-Ok.ensures.cases.0

pub returns-in-Err-clause-decoded : goal.returns-in-Err-clause-decoded
returns-in-Err-clause-decoded c =
    let source = c.args.source.now in
    let valid : IsValidUpTo source c.valid_up_to.result = rw c.valid_up_to.ensures c.in-Err.ensures.cases.1 in
    decoded_front source c.text_of.result.now c.split_at.result.1.now c.valid_up_to.result valid
    (c.text_of.ensures ∙ c.split_at.ensures.front) c.split_at.ensures.back
