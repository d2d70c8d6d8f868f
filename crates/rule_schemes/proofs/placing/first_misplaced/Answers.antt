use Rattle.std.proofs.Common.{◌≡◌, ◌<◌, ◌+◌, ◌∷◌, ◌∙◌, List, length, map, drop, inr, ap, sym, subst}
use Rattle.std.specs.List.{AllByRecursion}
use Rattle.std.proofs.lemmas.List.{drop_more}
use Rattle.rule_schemes.specs.Refused.{IsFirstMisplaced, with_rule}
use Rattle.rule_schemes.specs.Rules.{Theory, JudgmentScheme, MayStand}
use Rattle.rule_schemes.specs.View.{judgment_scheme, rule as plain_rule}
use Rattle.rule_schemes.specs.declared.rule.JScheme.{JScheme}
use Rattle.rule_schemes.proofs.placing.first_misplaced.Goals as goal

pub loop-premise-preserved : goal.loop-premise-preserved
loop-premise-preserved c =
    let th : Theory = record { sig = c.args.sig.now; judgments = c.args.judgments.now; rules = map plain_rule c.args.rules.now } in
    let r = plain_rule c.args.more.now in
    let ps = c.args.more.now.premises in
    let i = c.loop-premise.premise-index in
    let p = c.premise-item.result in
    let lt : i < length ps = rw c.as_slice-premise-items.ensures at c.loop-premise-test.true in
    let here : drop i ps ≡ p ∷ drop (i + 1) ps = drop_more ps i p lt ∙ ap (λ q. q ∷ drop (i + 1) ps) (sym (rw c.as_slice-premise-items.ensures at c.premise-item.is)) in
    let may = c.may_stand_with.ensures.0 c.if-not-may_stand_with.false in
    record {
      first = λ j h. c.loop-premise.invariant.first j (subst (λ (qs : List JScheme). IsFirstMisplaced (with_rule th r) r (map judgment_scheme qs) j) (sym here) (inr (may, h)));
      all = λ h. c.loop-premise.invariant.all
          (subst (λ (qs : List JScheme). AllByRecursion (λ (q : JudgmentScheme). MayStand (with_rule th r) r.conclusion.context.root q.context.root q.judgment) (map judgment_scheme qs)) (sym here) (may, h));
      range = (subst (λ (qs : List JScheme). AllByRecursion (λ (q : JudgmentScheme). q.judgment < length c.args.judgments.now) (map judgment_scheme qs)) here c.loop-premise.invariant.range).1;
    }
