use Rattle.std.proofs.Common.{◌≡◌, ◌++◌, map, take}
use Rattle.proof_lexer.specs.View.{token_view}
use Rattle.user_grammar.specs.Fault.{a_variable, declared_as}
use Rattle.user_grammar.specs.Finding.{declaration_view}
use Rattle.user_grammar.proofs.fault_declared.declare_variables.Given as goal

abbrev pub invariant-loop-name : goal.invariant-loop-name
invariant-loop-name l =
    map declaration_view l.all.items ≡ map declaration_view l.initial.all.items ++ map (declared_as a_variable) (map (λ name. token_view name.now) (take l.name-index l.names))
