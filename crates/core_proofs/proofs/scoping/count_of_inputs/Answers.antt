use Rattle.std.proofs.Common.{◌≡◌, inl, inr, subst, arith}
use Rattle.std.proofs.lemmas.Bool.{cases_lt}
use Rattle.rule_schemes.specs.Statement.{IsOfInputs}
use Rattle.rule_schemes.specs.View.{statement}
use Rattle.core_proofs.proofs.scoping.count_of_inputs.Goals as goal

pub loop-i-preserved : goal.loop-i-preserved
loop-i-preserved c = λ m h. elim (cases_lt m c.loop-i.i) [
  | inl k ↦ c.loop-i.invariant m k
  | inr k ↦
      let same : c.in_ok-number.field-0 ≡ m = omega (arith, c.in_ok-number.ensures, h, k) in
      subst (IsOfInputs (statement c.args.of.now)) same (c.is_of_inputs.ensures.0 c.if-not-is_of_inputs.false)
]
