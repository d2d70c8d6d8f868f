use Rattle.std.proofs.Common.{◌≢◌, ◌↔◌, drop}
use Rattle.std.specs.List.{AllByRecursion}
use Rattle.binding_terms.proofs.fitting.differs_from_all.Given as goal

abbrev pub invariant-loop-other : goal.invariant-loop-other
invariant-loop-other l =
    AllByRecursion (λ m. l.number ≢ m) l.numbers ↔ AllByRecursion (λ m. l.number ≢ m) (drop l.other-index l.numbers)
