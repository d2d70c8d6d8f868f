use Rattle.std.proofs.Common.{◌↔◌, map, drop}
use Rattle.std.specs.List.{AllByRecursion}
use Rattle.proof_trees.specs.Faults.{IsInScope}
use Rattle.proof_kernel.specs.View.{here}
use Rattle.proof_kernel.proofs.here.Here.are_in_scope.Given as goal

abbrev pub invariant-loop-step : goal.invariant-loop-step
invariant-loop-step l =
    AllByRecursion (IsInScope (here l.self)) (map (λ id. id.0) l.on)
    ↔ AllByRecursion (IsInScope (here l.self)) (map (λ id. id.0) (drop l.step-index l.on))
