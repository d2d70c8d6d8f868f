use Rattle.judgments.specs.Views.{input_text, IsForDerivation}
use Rattle.judgments.proofs.inputs.given_of.Goals as goal
use Rattle.binding_terms.proofs.Lists.{all_pick}

pub returns-in-None : goal.returns-in-None
returns-in-None c = λ all. (rw c.input-item.is at c.in-None.ensures) (all_pick input_text IsForDerivation c.args.inputs.now c.loop-input.input-index c.input-item.result c.loop-input-test.true all)
