use Rattle.std.proofs.Common.{◌↔◌, IsTrue, map, reverse, subst}
use Rattle.user_grammar.specs.Indexed.{names_in}
use Rattle.user_grammar.specs.Names.{IsAmong}
use Rattle.user_grammar.proofs.FaultTokens.{wrong_word}
use Rattle.user_grammar.proofs.fault_tokens.is_wrong_name.Goals as goal

pub returns : goal.returns
returns c =
    wrong_word c.is_named.result (c.is_word.ensures.0 c.if-not-is_word.false)
    (subst (IsAmong (names_in c.args.binders.now)) c.as_bytes.ensures.value (c.has_name.ensures.0 c.if-not-has_name.false))
    (subst (λ w. IsTrue c.is_named.result ↔ IsAmong (reverse (map (λ text. text.now) c.args.named.now)) w) c.as_bytes-2.ensures.value c.is_named.ensures)
