use Rattle.std.proofs.Common.{◌≡◌, ℕ, ◌<◌, Some, map, slice_get}
use Rattle.core_proofs.specs.Step.{begin_theorem}
use Rattle.core_proofs.specs.View.{step}
use Rattle.theorem_runner.proofs.running.beginning.Given as goal

abbrev pub invariant-loop-i : goal.invariant-loop-i
invariant-loop-i l = (m : ℕ) → m < l.i → slice_get (map step l.steps) m ≡ Some (begin_theorem l.theorem.0) → ⊥
