use Rattle.std.proofs.Common.{◌↔◌, IsTrue, subst}
use Rattle.proof_lexer.specs.View.{token_view}
use Rattle.user_grammar.specs.Finding.{portions_of}
use Rattle.user_grammar.specs.Indexed.{names_in}
use Rattle.user_grammar.specs.Names.{IsAmong}
use Rattle.user_grammar.proofs.Tests.{refused}
use Rattle.user_grammar.proofs.FaultTokens.{least_twice, none_twice}
use Rattle.user_grammar.proofs.fault_tokens.second_binder.Goals as goal

pub returns-then-has_name : goal.returns-then-has_name
returns-then-has_name c = λ form front rest place out are.
    let t = token_view c.args.token.now in
    least_twice (portions_of c.args.names.now.lists) form front rest place t c.at_token.result c.at_token.ensures out c.requires
    ((are.are t.text).0 (subst (IsAmong (names_in c.args.seen.now)) c.as_bytes.ensures.value (c.has_name.ensures.0 c.if-has_name.true)))

pub returns : goal.returns
returns c = λ form front rest place out are.
    let t = token_view c.args.token.now in
    let same = subst (λ w. IsTrue c.has_name.result ↔ IsAmong (names_in c.args.seen.now) w) c.as_bytes.ensures.value c.has_name.ensures in
    none_twice (portions_of c.args.names.now.lists) form front rest place t out c.requires (λ is. refused c.has_name.result same c.if-has_name.false ((are.are t.text).1 is))
