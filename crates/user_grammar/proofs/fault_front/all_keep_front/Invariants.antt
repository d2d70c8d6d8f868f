use Rattle.std.proofs.Common.{◌↔◌, map, drop}
use Rattle.std.specs.List.{AllByRecursion}
use Rattle.user_grammar.specs.Finding.{portions_of, written_view}
use Rattle.user_grammar.specs.FindingContexts.{KeepsFront}
use Rattle.user_grammar.proofs.fault_front.all_keep_front.Given as goal

abbrev pub invariant-loop-other : goal.invariant-loop-other
invariant-loop-other l =
    AllByRecursion (KeepsFront (portions_of l.lists) (written_view l.written)) (map written_view (drop l.other-index l.lists.categories.now))
    ↔ AllByRecursion (KeepsFront (portions_of l.lists) (written_view l.written)) (map written_view l.lists.categories.now)
