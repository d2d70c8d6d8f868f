use Rattle.std.proofs.Common.{take}
use Rattle.user_grammar.specs.Made.{plains}
use Rattle.sy_base.specs.FirstFault.{OfSome}
use Rattle.user_grammar.specs.Finding.{IsLeast, UnknownContexts, portions_of}
use Rattle.user_grammar.proofs.fault_assumed.first_unknown_context.Given as goal

abbrev pub invariant-loop-portion : goal.invariant-loop-portion
invariant-loop-portion l = IsLeast (OfSome (UnknownContexts (portions_of l.lists)) (plains (take l.portion-index l.lists.portions.now))) l.found
