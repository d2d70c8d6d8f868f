use Rattle.std.proofs.Common.{◌≢◌, ◌↔◌, drop, map}
use Rattle.std.specs.List.{AllByRecursion}
use Rattle.scheme_terms.specs.View.{known_variable}
use Rattle.notation_parser.proofs.known_scope.is_new.Given as goal

abbrev pub invariant-loop-known : goal.invariant-loop-known
invariant-loop-known l =
    AllByRecursion (λ k. l.one.name ≢ k.name) (map known_variable (drop l.known-index l.knowns)) ↔ AllByRecursion (λ k. l.one.name ≢ k.name) (map known_variable l.knowns)
