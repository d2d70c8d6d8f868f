use Rattle.std.proofs.Common.{◌↔◌, map, drop}
use Rattle.std.specs.List.{AllByRecursion}
use Rattle.scheme_terms.specs.View.{known_variable}
use Rattle.notation_parser.specs.Below.{IsBelow}
use Rattle.notation_parser.proofs.known_scope.knowns_below.Given as goal

abbrev pub invariant-loop-known : goal.invariant-loop-known
invariant-loop-known l =
    AllByRecursion (λ k. AllByRecursion (IsBelow l.count) k.entry.args) (map known_variable (drop l.known-index l.knowns))
    ↔ AllByRecursion (λ k. AllByRecursion (IsBelow l.count) k.entry.args) (map known_variable l.knowns)
