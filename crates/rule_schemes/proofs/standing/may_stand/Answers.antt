use Rattle.std.proofs.Common.{map, sym, subst, IsTrue}
use Rattle.std.specs.Prelude.{not}
use Rattle.rule_schemes.specs.Rules.{Theory, MayStandUnder}
use Rattle.rule_schemes.specs.Touching.{JudgmentTouches}
use Rattle.rule_schemes.specs.View.{rule as plain_rule}
use Rattle.rule_schemes.proofs.TouchingLemmas.{turned, stands_untouched, touched_stands_not, under_whole}
use Rattle.rule_schemes.proofs.standing.may_stand.Goals as goal

pub returns-in-Closed : goal.returns-in-Closed
returns-in-Closed c =
    let th : Theory = record { sig = c.args.sig.now; judgments = c.args.judgments.now; rules = map plain_rule c.args.rules.now } in
    subst (λ (M : Type 0). (IsTrue (not c.judgment_touches.result) → M) × (M → IsTrue (not c.judgment_touches.result)))
    (sym (under_whole th _ _ c.in-Whole.context c.args.judgment.0 c.in-Whole.is c.in-Closed.is))
    (turned c.judgment_touches.result (JudgmentTouches th c.args.rows.now c.in-Whole.context.0 c.args.judgment.0)
    (MayStandUnder th c.in-Whole.context.0 c.args.judgment.0) c.judgment_touches.ensures
    (stands_untouched th c.args.rows.now c.requires.kept c.in-Whole.context.0 c.args.judgment.0 c.requires.judgment)
    (touched_stands_not th c.args.rows.now c.requires.kept c.in-Whole.context.0 c.args.judgment.0 c.requires.judgment))
