use Rattle.std.proofs.Common.{◌≡◌, ◌<◌, ◌+◌, ◌∷◌, ◌∙◌, List, length, map, drop, ap, sym, subst}
use Rattle.std.specs.List.{AllByRecursion}
use Rattle.std.proofs.lemmas.List.{drop_more}
use Rattle.rule_schemes.specs.Rules.{Theory, JudgmentScheme, MayStand}
use Rattle.rule_schemes.specs.View.{judgment_scheme, rule as plain_rule}
use Rattle.rule_schemes.specs.declared.rule.JScheme.{JScheme}
use Rattle.rule_schemes.proofs.standing.needs_no_context.Goals as goal

pub loop-premise-preserved : goal.loop-premise-preserved
loop-premise-preserved c =
    let th : Theory = record { sig = c.args.sig.now; judgments = c.args.judgments.now; rules = map plain_rule c.args.rules.now } in
    let r = plain_rule c.args.rule.now in
    let ps = c.args.rule.now.premises in
    let i = c.loop-premise.premise-index in
    let p = c.premise-item.result in
    let lt : i < length ps = rw c.as_slice-premise-items.ensures at c.loop-premise-test.true in
    let here : drop i ps ≡ p ∷ drop (i + 1) ps = drop_more ps i p lt ∙ ap (λ q. q ∷ drop (i + 1) ps) (sym (rw c.as_slice-premise-items.ensures at c.premise-item.is)) in
    let may = c.may_stand.ensures.0 c.if-not-may_stand.false in
    record {
      all = (
        λ h. c.loop-premise.invariant.all.0
            (subst (λ (qs : List JScheme). AllByRecursion (λ (q : JudgmentScheme). MayStand th r.conclusion.context.root q.context.root q.judgment) (map judgment_scheme qs)) (sym here) (may, h)),
        λ h. (subst (λ (qs : List JScheme). AllByRecursion (λ (q : JudgmentScheme). MayStand th r.conclusion.context.root q.context.root q.judgment) (map judgment_scheme qs)) here
            (c.loop-premise.invariant.all.1 h)).1,
      );
      range = (subst (λ (qs : List JScheme). AllByRecursion (λ (q : JudgmentScheme). q.judgment < length c.args.judgments.now) (map judgment_scheme qs)) here c.loop-premise.invariant.range).1;
    }
