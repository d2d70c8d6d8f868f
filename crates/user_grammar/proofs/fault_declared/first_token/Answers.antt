use Rattle.std.proofs.Common.{map}
use Rattle.proof_lexer.specs.View.{token_view}
use Rattle.user_grammar.specs.Finding.{AtToken, IsOneToken, IsLeast}
use Rattle.user_grammar.proofs.FaultDeclared.{token_more}
use Rattle.user_grammar.proofs.fault_declared.first_token.Goals as goal
use Rattle.binding_terms.proofs.Lists.{whole_taken}

pub loop-name-preserved : goal.loop-name-preserved
loop-name-preserved c =
    token_more (λ name. token_view name.now) c.args.code c.args.names.now c.loop-name.name-index _ c.at_token.result c.loop-name.found c.earlier-found.result c.loop-name-test.true
    c.at_token.ensures c.earlier-found.ensures c.loop-name.invariant

pub returns : goal.returns
returns c =
    whole_taken (λ ns. IsLeast (AtToken c.args.code (IsOneToken (map (λ name. token_view name.now) ns))) c.loop-name.found) c.args.names.now c.loop-name.name-index c.loop-name-test.false c.loop-name.invariant
