use Rattle.proof_check.proofs.FaultLemmas.{portions_of}
use Rattle.proof_check.proofs.NotBuiltLemmas.{first_not_built}
use Rattle.proof_check.proofs.places.first_not_built.Goals as goal

pub returns : goal.returns
returns c =
    let has = portions_of c.args.source.now c.args.tokens.now c.requires.are_tokens c.args.outline.now c.requires.outline in
    first_not_built c.args.source.now _ _ c.requires.are_tokens has _ _ _ c.first_unbuilt.ensures (rw c.as_slice.ensures.value at c.unbuilt_judgment.ensures) c.earlier_if_any.ensures
