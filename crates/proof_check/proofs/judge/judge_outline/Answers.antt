use Rattle.proof_check.proofs.FaultLemmas.{portions_of}
use Rattle.proof_check.proofs.judge.judge_outline.Goals as goal

pub judge_signature-requires-clause-has : goal.judge_signature-requires-clause-has
judge_signature-requires-clause-has c =
    portions_of c.args.source.now c.args.tokens.now c.requires.are_tokens c.args.outline.now c.requires.outline
