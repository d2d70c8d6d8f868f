use Rattle.std.proofs.Common.{ℕ, subst, sym, ◌∙◌, true≢false, arith}
use Rattle.rule_schemes.specs.Statement.{OccursInJudgment, IsOfInputs}
use Rattle.rule_schemes.specs.View.{judgment_scheme, statement}
use Rattle.proof_check.proofs.occurrences.has_no_goal_name.Goals as goal
use Rattle.binding_terms.proofs.Lists.{places_fail, places_left}

pub returns-then-not-is_no_goal_name : goal.returns-then-not-is_no_goal_name
returns-then-not-is_no_goal_name c =
    let P = λ (m : ℕ). OccursInJudgment m (judgment_scheme c.args.goal.now) → IsOfInputs (statement c.args.statement.now) m in
    places_fail P c.args.statement.now.scope.metas c.loop-i.i _ (omega arith)
    (λ p. true≢false (sym (c.is_no_goal_name.ensures.1 (subst P (sym c.in_ok-number.ensures) p)) ∙ c.if-not-is_no_goal_name.true)) c.loop-i.invariant

pub loop-i-preserved : goal.loop-i-preserved
loop-i-preserved c =
    let P = λ (m : ℕ). OccursInJudgment m (judgment_scheme c.args.goal.now) → IsOfInputs (statement c.args.statement.now) m in
    places_left P c.args.statement.now.scope.metas c.loop-i.i _ (omega arith)
    (subst P c.in_ok-number.ensures (c.is_no_goal_name.ensures.0 c.if-not-is_no_goal_name.false)) c.loop-i.invariant
