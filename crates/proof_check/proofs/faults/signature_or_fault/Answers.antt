use Rattle.sy_base.specs.CodeName.{code_name}
use Rattle.proof_lexer.specs.View.{token_view}
use Rattle.outline_reader.specs.Plain.{outlined}
use Rattle.proof_check.proofs.FaultLemmas.{portions_of, told_not_built}
use Rattle.proof_check.proofs.faults.signature_or_fault.Goals as goal

pub returns-in_ok-not_built-in-Some-clause-refused : goal.returns-in_ok-not_built-in-Some-clause-refused
returns-in_ok-not_built-in-Some-clause-refused c =
    let has = portions_of c.args.source.now c.args.tokens.now c.requires.are_tokens c.args.outline.now c.requires.outline in
    let told = c.in_ok-not_built-in-Some.field-0 in
    told_not_built c.args.source.now (outlined c.args.outline.now) (token_view c.in-Some.token) told.line (code_name told.code) told.detail has c.in-Some.ensures
    c.in_ok-not_built-in-Some.ensures
