use Rattle.std.proofs.Common.{◌≡◌, ◌++◌, map, take}
use Rattle.proof_lexer.specs.View.{token_view}
use Rattle.user_grammar.proofs.portions.add_texts.Given as goal

abbrev pub invariant-loop-token : goal.invariant-loop-token
invariant-loop-token l =
    map (λ text. text.now) l.texts.items ≡ map (λ text. text.now) l.initial.texts.items ++ map (λ token. token.text) (map token_view (take l.token-index l.tokens))
