use Rattle.std.proofs.Common.{◌↔◌, drop}
use Rattle.binding_terms.specs.Numbered.{AllNumbered}
use Rattle.rule_schemes.specs.Statement.{OccursInJudgment, IsOfInputs}
use Rattle.rule_schemes.specs.View.{judgment_scheme, statement}
use Rattle.proof_check.proofs.occurrences.has_no_goal_name.Given as goal

abbrev pub invariant-loop-i : goal.invariant-loop-i
invariant-loop-i l =
    AllNumbered (λ m decl. OccursInJudgment m (judgment_scheme l.goal) → IsOfInputs (statement l.statement) m) l.i (drop l.i l.statement.scope.metas)
    ↔ AllNumbered (λ m decl. OccursInJudgment m (judgment_scheme l.goal) → IsOfInputs (statement l.statement) m) 0 l.statement.scope.metas
