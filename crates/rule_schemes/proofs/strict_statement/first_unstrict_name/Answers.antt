use Rattle.std.proofs.Common.{◌<◌, length, sym, ◌∙◌, true≢false, arith}
use Rattle.rule_schemes.specs.Statement.{StrictInStatement}
use Rattle.rule_schemes.specs.View.{statement}
use Rattle.rule_schemes.proofs.StrictNames.{lacking_here, lacking_later, having_later}
use Rattle.rule_schemes.proofs.strict_statement.first_unstrict_name.Goals as goal

pub returns-then-not-strict_in_statement-clause-some : goal.returns-then-not-strict_in_statement-clause-some
returns-then-not-strict_in_statement-clause-some c =
    let within : c.loop-i.i < length c.args.of.now.scope.metas = omega arith in
    let not_strict : StrictInStatement (statement c.args.of.now) c.loop-i.i → ⊥ =
    λ s. absurd (true≢false (sym (c.strict_in_statement.ensures.1 s) ∙ c.if-not-strict_in_statement.true)) in
    c.loop-i.invariant.first _ (lacking_here (StrictInStatement (statement c.args.of.now)) _ _ within not_strict)

pub loop-i-preserved : goal.loop-i-preserved
loop-i-preserved c =
    let within : c.loop-i.i < length c.args.of.now.scope.metas = omega arith in
    let is_strict : StrictInStatement (statement c.args.of.now) c.loop-i.i = c.strict_in_statement.ensures.0 c.if-not-strict_in_statement.false in
    record {
      first = λ m first. c.loop-i.invariant.first m (lacking_later (StrictInStatement (statement c.args.of.now)) _ _ m within is_strict first);
      all = λ all. c.loop-i.invariant.all (having_later (StrictInStatement (statement c.args.of.now)) _ _ within is_strict all);
    }
