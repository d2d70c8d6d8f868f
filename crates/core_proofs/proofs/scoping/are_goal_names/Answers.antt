use Rattle.std.proofs.Common.{ℕ, subst, sym, ◌∙◌, true≢false, arith}
use Rattle.rule_schemes.specs.Statement.{IsOfInputs}
use Rattle.rule_schemes.specs.View.{statement}
use Rattle.core_proofs.proofs.scoping.are_goal_names.Goals as goal
use Rattle.binding_terms.proofs.Lists.{places_fail, places_left}

pub returns-then-is_of_inputs : goal.returns-then-is_of_inputs
returns-then-is_of_inputs c =
    let P = λ (m : ℕ). IsOfInputs (statement c.args.of.now) m in
    places_fail (λ m. P m → ⊥) c.args.of.now.scope.metas c.loop-i.i _ (omega arith)
    (λ none. none (subst P c.in_ok-number.ensures (c.is_of_inputs.ensures.0 c.if-is_of_inputs.true))) c.loop-i.invariant

pub loop-i-preserved : goal.loop-i-preserved
loop-i-preserved c =
    let P = λ (m : ℕ). IsOfInputs (statement c.args.of.now) m in
    places_left (λ m. P m → ⊥) c.args.of.now.scope.metas c.loop-i.i _ (omega arith)
    (λ p. true≢false (sym (c.is_of_inputs.ensures.1 (subst P (sym c.in_ok-number.ensures) p)) ∙ c.if-is_of_inputs.false)) c.loop-i.invariant
