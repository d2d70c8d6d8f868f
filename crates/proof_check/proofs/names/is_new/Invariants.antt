use Rattle.std.proofs.Common.{◌≢◌, ◌↔◌, drop}
use Rattle.std.specs.List.{AllByRecursion}
use Rattle.proof_check.proofs.names.is_new.Given as goal

abbrev pub invariant-loop-other : goal.invariant-loop-other
invariant-loop-other l = AllByRecursion (λ other. other ≢ l.name) (drop l.other-index l.names) ↔ AllByRecursion (λ other. other ≢ l.name) l.names
