use Rattle.std.proofs.Common.{◌≡◌, ◌++◌, map, drop}
use Rattle.outline_reader.specs.Views.{input_view}
use Rattle.outline_reader.specs.Plain.{plain_input}
use Rattle.proof_check.specs.Cited.{given_names}
use Rattle.proof_check.proofs.names.given.Given as goal

abbrev pub invariant-loop-input : goal.invariant-loop-input
invariant-loop-input l =
    l.named ++ given_names (map plain_input (map input_view (drop l.input-index l.inputs))) ≡ given_names (map plain_input (map input_view l.inputs))
