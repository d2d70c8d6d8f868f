use Rattle.std.proofs.Common.{◌≤◌, ◌-◌, length, map, drop}
use Rattle.rule_schemes.specs.View.{theory, statement}
use Rattle.proof_check.specs.View.{plain_portions}
use Rattle.core_proofs.specs.View.{step}
use Rattle.proof_check.specs.Finding.{Begins}
use Rattle.proof_check.specs.Steps.{AreStepsFrom}
use Rattle.proof_check.proofs.proofs.steps_of.Given as goal

abbrev pub invariant-loop-at : goal.invariant-loop-at
invariant-loop-at l = record {
  within : l.at ≤ length l.portions;
  counted : l.theorem ≤ l.at;
  begins : Begins (AreStepsFrom (theory l.sys) (map statement l.statements) 0 (plain_portions l.portions))
      (AreStepsFrom (theory l.sys) (map statement l.statements) l.theorem (plain_portions (drop l.at l.portions))) (map step l.steps.items);
}

abbrev pub decreases-loop-at : goal.decreases-loop-at
decreases-loop-at l = length l.portions - l.at
