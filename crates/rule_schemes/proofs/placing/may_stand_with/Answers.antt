use Rattle.std.proofs.Common.{map, sym, subst, IsTrue}
use Rattle.std.specs.Prelude.{not}
use Rattle.rule_schemes.specs.Rules.{Theory, MayStandUnder}
use Rattle.rule_schemes.specs.Refused.{with_rule}
use Rattle.rule_schemes.specs.Touching.{TouchesWith}
use Rattle.rule_schemes.specs.View.{rule as plain_rule}
use Rattle.rule_schemes.proofs.TouchingLemmas.{turned, stands_untouched_with, touched_stands_not_with, under_whole}
use Rattle.rule_schemes.proofs.placing.may_stand_with.Goals as goal

pub returns-in-Closed : goal.returns-in-Closed
returns-in-Closed c =
    let th : Theory = record { sig = c.args.sig.now; judgments = c.args.judgments.now; rules = map plain_rule c.args.rules.now } in
    let r = plain_rule c.args.more.now in
    subst (λ (M : Type 0). (IsTrue (not c.touches_with.result) → M) × (M → IsTrue (not c.touches_with.result)))
    (sym (under_whole (with_rule th r) _ _ c.in-Whole.context c.args.judgment.0 c.in-Whole.is c.in-Closed.is))
    (turned c.touches_with.result (TouchesWith th r c.args.rows.now c.in-Whole.context.0 c.args.judgment.0)
    (MayStandUnder (with_rule th r) c.in-Whole.context.0 c.args.judgment.0) c.touches_with.ensures
    (stands_untouched_with th c.args.rows.now c.requires.kept c.in-Whole.context.0 r c.requires.rule c.args.judgment.0 c.requires.judgment)
    (touched_stands_not_with th c.args.rows.now c.requires.kept c.in-Whole.context.0 r c.requires.rule c.args.judgment.0 c.requires.judgment))
