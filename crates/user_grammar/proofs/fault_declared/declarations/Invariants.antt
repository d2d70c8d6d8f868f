use Rattle.std.proofs.Common.{map, take}
use Rattle.user_grammar.specs.Fault.{DeclareAll}
use Rattle.user_grammar.specs.Made.{plains}
use Rattle.user_grammar.specs.Finding.{declaration_view, portions_of}
use Rattle.user_grammar.proofs.fault_declared.declarations.Given as goal

abbrev pub invariant-loop-portion : goal.invariant-loop-portion
invariant-loop-portion l = DeclareAll (portions_of l.lists) (plains (take l.portion-index l.lists.portions.now)) (map declaration_view l.all.items)
