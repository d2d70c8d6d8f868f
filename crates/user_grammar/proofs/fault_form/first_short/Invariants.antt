use Rattle.std.proofs.Common.{map, take}
use Rattle.sy_base.specs.FirstFault.{OfSome}
use Rattle.user_grammar.specs.Finding.{IsLeast, ShortOf, portions_of, written_view}
use Rattle.user_grammar.proofs.fault_form.first_short.Given as goal

abbrev pub invariant-loop-written : goal.invariant-loop-written
invariant-loop-written l = IsLeast (OfSome (ShortOf (portions_of l.lists)) (map written_view (take l.written-index l.lists.categories.now))) l.found
