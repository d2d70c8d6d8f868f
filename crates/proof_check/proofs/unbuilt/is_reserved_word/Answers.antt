use Rattle.std.proofs.Common.{◌↔◌, IsTrue, List, ℕ, subst}
use Rattle.proof_lexer.specs.View.{token_view}
use Rattle.outline_reader.specs.Sorts.{IsReserved}
use Rattle.proof_check.proofs.SearchLemmas.{reserved_by_text}
use Rattle.proof_check.proofs.unbuilt.is_reserved_word.Goals as goal

pub returns-then-is_plain_word : goal.returns-then-is_plain_word
returns-then-is_plain_word c =
    reserved_by_text (token_view c.args.token.now) _ (c.is_plain_word.ensures.0 c.if-is_plain_word.true)
    (subst (λ (text : List ℕ). IsTrue c.is_reserved.result ↔ IsReserved text) c.as_bytes.ensures.value c.is_reserved.ensures.fact)
