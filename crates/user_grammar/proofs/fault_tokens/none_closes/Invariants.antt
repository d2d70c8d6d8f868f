use Rattle.std.proofs.Common.{◌↔◌, drop}
use Rattle.std.specs.List.{AllByRecursion}
use Rattle.outline_reader.specs.Plain.{plain_form}
use Rattle.user_grammar.specs.Production.{IsMark}
use Rattle.user_grammar.proofs.fault_tokens.none_closes.Given as goal

abbrev pub invariant-loop-token : goal.invariant-loop-token
invariant-loop-token l = AllByRecursion (λ t. IsMark 93 t → ⊥) (plain_form (drop l.token-index l.rest)) ↔ AllByRecursion (λ t. IsMark 93 t → ⊥) (plain_form l.rest)
