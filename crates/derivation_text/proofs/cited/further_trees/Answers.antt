use Rattle.std.proofs.Common.{◌∙◌, arith}
use Rattle.derivation_text.proofs.CitedLemmas.{further_end}
use Rattle.derivation_text.proofs.cited.further_trees.Goals as goal

pub returns : goal.returns
returns c = further_end c.args.known.now c.loop-rest.trees.items c.loop-rest.rest.now (omega arith) ∙ c.loop-rest.invariant
