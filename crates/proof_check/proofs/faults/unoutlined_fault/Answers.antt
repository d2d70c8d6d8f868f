use Rattle.std.proofs.lemmas.Result.{IfOk-weaker}
use Rattle.proof_lexer.specs.View.{token_view}
use Rattle.proof_check.proofs.NotBuiltLemmas.{first_told, only_told}
use Rattle.proof_check.proofs.faults.unoutlined_fault.Goals as goal

pub returns-in-Some : goal.returns-in-Some
returns-in-Some c =
    IfOk-weaker _ _ _
    (λ found is. first_told c.args.source.now c.args.tokens.now c.args.fault c.in_ok-told.told found (token_view c.in-Some.token) c.requires.are_tokens c.in_ok-told.ensures c.in-Some.ensures is)
    c.earlier_fault.ensures

pub returns-in-None : goal.returns-in-None
returns-in-None c = only_told c.args.source.now c.args.tokens.now c.args.fault c.in_ok-told.told c.requires.are_tokens c.in_ok-told.ensures c.in-None.ensures
