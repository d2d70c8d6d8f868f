use Rattle.std.proofs.Common.{◌↔◌, map, drop}
use Rattle.outline_reader.specs.Plain.{plain_form}
use Rattle.user_grammar.specs.Names.{IsAmong}
use Rattle.proof_check.proofs.variables.is_listed_in.Given as goal

abbrev pub invariant-loop-token : goal.invariant-loop-token
invariant-loop-token l =
    IsAmong (map (λ token. token.text) (plain_form (drop l.token-index l.items))) l.word ↔ IsAmong (map (λ token. token.text) (plain_form l.items)) l.word
