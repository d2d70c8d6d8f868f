use Rattle.std.proofs.Common.{◌<◌, length, sym, ◌∙◌, true≢false, arith}
use Rattle.rule_schemes.specs.Rules.{StrictInRule}
use Rattle.rule_schemes.specs.View.{rule}
use Rattle.rule_schemes.proofs.StrictLemmas.{first_here, first_later, all_later}
use Rattle.rule_schemes.proofs.strict.first_unstrict.Goals as goal

pub returns-then-not-strict_in_rule-clause-some : goal.returns-then-not-strict_in_rule-clause-some
returns-then-not-strict_in_rule-clause-some c =
    let within : c.loop-i.i < length c.args.r.now.metas = omega arith in
    let not_strict : StrictInRule (rule c.args.r.now) c.loop-i.i → ⊥ =
    λ s. absurd (true≢false (sym (c.strict_in_rule.ensures.1 s) ∙ c.if-not-strict_in_rule.true)) in
    c.loop-i.invariant.first _ (first_here (rule c.args.r.now) _ _ within not_strict)

pub loop-i-preserved : goal.loop-i-preserved
loop-i-preserved c =
    let within : c.loop-i.i < length c.args.r.now.metas = omega arith in
    let is_strict : StrictInRule (rule c.args.r.now) c.loop-i.i = c.strict_in_rule.ensures.0 c.if-not-strict_in_rule.false in
    record {
      first = λ m first. c.loop-i.invariant.first m (first_later (rule c.args.r.now) _ _ m within is_strict first);
      all = λ all. c.loop-i.invariant.all (all_later (rule c.args.r.now) _ _ within is_strict all);
    }
