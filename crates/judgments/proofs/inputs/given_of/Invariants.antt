use Rattle.std.proofs.Common.{◌≡◌, take, map}
use Rattle.judgments.specs.Views.{input_text, given_text}
use Rattle.judgments.proofs.inputs.given_of.Given as goal

abbrev pub invariant-loop-input : goal.invariant-loop-input
invariant-loop-input l = map input_text (take l.input-index l.inputs) ≡ map given_text l.all.items
