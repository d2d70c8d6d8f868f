use Rattle.std.proofs.Common.{◌↔◌, drop}
use Rattle.std.specs.List.{AllByRecursion}
use Rattle.outline_reader.specs.Plain.{plain_form}
use Rattle.user_grammar.specs.Fault.{IsBinderWord}
use Rattle.user_grammar.specs.Finding.{portions_of}
use Rattle.user_grammar.proofs.fault_context.no_binders.Given as goal

abbrev pub invariant-loop-token : goal.invariant-loop-token
invariant-loop-token l =
    AllByRecursion (λ token. IsBinderWord (portions_of l.names.lists) token → ⊥) (plain_form (drop l.token-index l.form))
    ↔ AllByRecursion (λ token. IsBinderWord (portions_of l.names.lists) token → ⊥) (plain_form l.form)
