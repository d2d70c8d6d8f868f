use Rattle.std.proofs.Common.{map, take}
use Rattle.proof_lexer.specs.View.{token_view}
use Rattle.user_grammar.specs.Fault.{AreVariables}
use Rattle.user_grammar.specs.Finding.{portions_of, all_forms, written_view}
use Rattle.user_grammar.proofs.fault_names.all_variables.Given as goal

abbrev pub invariant-loop-written : goal.invariant-loop-written
invariant-loop-written l =
    AreVariables (portions_of l.lists) (all_forms (map written_view (take l.written-index l.lists.categories.now))) (map (λ name. token_view name.now) l.all.items)
