use Rattle.proof_lexer.specs.View.{token_view}
use Rattle.proof_check.proofs.SearchLemmas.{kept_past}
use Rattle.proof_check.proofs.unbuilt.past.Goals as goal

pub returns : goal.returns
returns c tokens kept =
    kept_past tokens (token_view c.args.token.now) _ _ _ (c.stays_in_syntax.ensures tokens kept.in_syntax) c.is_word.ensures c.is_word-2.ensures
