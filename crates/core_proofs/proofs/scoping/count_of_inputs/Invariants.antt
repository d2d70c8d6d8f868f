use Rattle.std.proofs.Common.{ℕ, ◌<◌}
use Rattle.rule_schemes.specs.Statement.{IsOfInputs}
use Rattle.rule_schemes.specs.View.{statement}
use Rattle.core_proofs.proofs.scoping.count_of_inputs.Given as goal

abbrev pub invariant-loop-i : goal.invariant-loop-i
invariant-loop-i l = (m : ℕ) → m < l.i → IsOfInputs (statement l.of) m
