use Rattle.std.proofs.Common.{map, take}
use Rattle.sy_base.specs.FirstFault.{OfSome}
use Rattle.user_grammar.specs.Finding.{IsLeast, portions_of, written_view}
use Rattle.user_grammar.specs.FindingPlaces.{BadContextOf}
use Rattle.user_grammar.proofs.fault_front.first_bad_context.Given as goal

abbrev pub invariant-loop-written : goal.invariant-loop-written
invariant-loop-written l =
    IsLeast (OfSome (BadContextOf (portions_of l.names.lists)) (map written_view (take l.written-index l.names.lists.categories.now))) l.found
