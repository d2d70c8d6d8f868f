use Rattle.std.proofs.Common.{◌<◌, ◌↔◌, drop}
use Rattle.std.specs.List.{AllByRecursion}
use Rattle.binding_terms.proofs.fitting.all_below.Given as goal

abbrev pub invariant-loop-number : goal.invariant-loop-number
invariant-loop-number l =
    AllByRecursion (λ n. n < l.count) l.numbers ↔ AllByRecursion (λ n. n < l.count) (drop l.number-index l.numbers)
