use Rattle.std.proofs.Common.{map, take}
use Rattle.proof_lexer.specs.View.{token_view}
use Rattle.user_grammar.specs.Finding.{AtToken, IsOneToken, IsLeast}
use Rattle.user_grammar.proofs.fault_declared.first_token.Given as goal

abbrev pub invariant-loop-name : goal.invariant-loop-name
invariant-loop-name l = IsLeast (AtToken l.code (IsOneToken (map (λ name. token_view name.now) (take l.name-index l.names)))) l.found
