use Rattle.std.proofs.Common.{map, take}
use Rattle.sy_base.specs.declared.fault.Code.TheVariants.{Duplicate}
use Rattle.sy_base.specs.FirstFault.{OfSome}
use Rattle.user_grammar.specs.Finding.{AtToken, IsSecond, IsLeast, portions_of, written_view}
use Rattle.user_grammar.proofs.fault_declared.first_second.Given as goal

abbrev pub invariant-loop-written : goal.invariant-loop-written
invariant-loop-written l =
    IsLeast (OfSome (λ written. AtToken Duplicate (IsSecond (portions_of l.lists) written.forms)) (map written_view (take l.written-index l.lists.categories.now))) l.found
