use Rattle.std.proofs.Common.{◌∙◌, arith}
use Rattle.derivation_text.proofs.EndingLemmas.{further_end}
use Rattle.derivation_text.proofs.names.further_names.Goals as goal

pub returns : goal.returns
returns c = further_end c.args.known.now c.loop-rest.names c.loop-rest.rest.now (omega arith) ∙ c.loop-rest.invariant
