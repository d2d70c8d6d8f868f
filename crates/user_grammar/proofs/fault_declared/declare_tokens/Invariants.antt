use Rattle.std.proofs.Common.{◌≡◌, ◌++◌, map, take}
use Rattle.outline_reader.specs.Plain.{plain_form}
use Rattle.user_grammar.specs.Fault.{a_terminal, declared_as}
use Rattle.user_grammar.specs.Finding.{declaration_view}
use Rattle.user_grammar.proofs.fault_declared.declare_tokens.Given as goal

abbrev pub invariant-loop-token : goal.invariant-loop-token
invariant-loop-token l =
    map declaration_view l.all.items ≡ map declaration_view l.initial.all.items ++ map (declared_as a_terminal) (plain_form (take l.token-index l.tokens))
