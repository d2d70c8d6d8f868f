use Rattle.std.proofs.lemmas.Result.{IfOk-weaker}
use Rattle.outline_reader.specs.Plain.{outlined}
use Rattle.proof_check.proofs.FaultLemmas.{portions_of, told_signature, refused_with}
use Rattle.proof_check.proofs.faults.grammar_or_fault.Goals as goal

pub returns-clause-sig : goal.returns-clause-sig
returns-clause-sig c =
    let has = portions_of c.args.source.now c.args.tokens.now c.requires.are_tokens c.args.outline.now c.requires.outline in
    IfOk-weaker _ _ _ (λ sig is. told_signature c.args.source.now (outlined c.args.outline.now) sig c.faulty_files_have_no_signature.ensures has c.requires.built is)
    c.grammar.ensures.signature

pub returns-clause-refused : goal.returns-clause-refused
returns-clause-refused c =
    let has = portions_of c.args.source.now c.args.tokens.now c.requires.are_tokens c.args.outline.now c.requires.outline in
    refused_with c.args.source.now (outlined c.args.outline.now) c.grammar.result has c.requires.built c.grammar.ensures.refused
