use Rattle.std.proofs.Common.{◌↔◌, map, drop}
use Rattle.std.specs.List.{AllByRecursion}
use Rattle.scheme_terms.specs.View.{scheme}
use Rattle.notation_parser.specs.Below.{IsBelow}
use Rattle.notation_parser.proofs.known_scope.entry_below.Given as goal

abbrev pub invariant-loop-arg : goal.invariant-loop-arg
invariant-loop-arg l =
    AllByRecursion (IsBelow l.count) (map scheme (drop l.arg-index l.arg-items)) ↔ AllByRecursion (IsBelow l.count) (map scheme l.arg-items)
