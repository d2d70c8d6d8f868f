use Rattle.std.proofs.Common.{ℕ, List, None, map, drop}
use Rattle.scheme_terms.specs.View.{names}
use Rattle.rule_schemes.specs.Statement.{Theorem}
use Rattle.rule_schemes.specs.View.{theory, statement}
use Rattle.proof_check.specs.View.{plain_portions}
use Rattle.core_proofs.specs.View.{step}
use Rattle.proof_check.specs.Finding.{Adds}
use Rattle.proof_check.specs.Steps.{AreProofSteps}
use Rattle.proof_check.proofs.proofs.add_proof.Given as goal

abbrev pub invariant-loop-i : goal.invariant-loop-i
invariant-loop-i l = (sts : List Theorem) (k : ℕ) → Adds (map step l.initial.steps.items) (map step l.steps.items)
    (AreProofSteps (theory l.sys) sts k (statement l.statement) (names l.scope.scope) l.initial.named None (plain_portions (drop l.from l.portions)))
    (AreProofSteps (theory l.sys) sts k (statement l.statement) (names l.scope.scope) l.named l.last (plain_portions (drop l.i l.portions)))
