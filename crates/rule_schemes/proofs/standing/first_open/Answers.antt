use Rattle.std.proofs.Common.{◌≡◌, ◌+◌, ◌∷◌, ◌∙◌, ℕ, List, length, map, drop, inl, inr, refl, ap, sym, subst, true≢false, add-one}
use Rattle.std.specs.List.{AllByRecursion}
use Rattle.std.proofs.lemmas.List.{drop_more}
use Rattle.rule_schemes.specs.Open.{IsFirstOpen}
use Rattle.rule_schemes.specs.Rules.{Theory, NeedsNoContext}
use Rattle.rule_schemes.specs.Touching.{HasJudgments}
use Rattle.rule_schemes.specs.View.{rule as plain_rule}
use Rattle.rule_schemes.specs.declared.rule.RuleScheme.{RuleScheme}
use Rattle.rule_schemes.proofs.standing.first_open.Goals as goal

pub needs_no_context-requires-clause-rule : goal.needs_no_context-requires-clause-rule
needs_no_context-requires-clause-rule c =
    let rs = c.args.rules.now in
    let i = c.loop-i.i in
    let r = c.index-rules-i.result in
    let here : drop i rs ≡ r ∷ drop (i + 1) rs = drop_more rs i r c.loop-i-test.true ∙ ap (λ q. q ∷ drop (i + 1) rs) (sym c.index-rules-i.is) in
    (subst (λ (qs : List RuleScheme). AllByRecursion (HasJudgments (length c.args.judgments.now)) (map plain_rule qs)) here c.loop-i.invariant.range).0

pub returns-then-not-needs_no_context-clause-some : goal.returns-then-not-needs_no_context-clause-some
returns-then-not-needs_no_context-clause-some c =
    let th : Theory = record { sig = c.args.sig.now; judgments = c.args.judgments.now; rules = map plain_rule c.args.rules.now } in
    let rs = c.args.rules.now in
    let i = c.loop-i.i in
    let r = c.index-rules-i.result in
    let here : drop i rs ≡ r ∷ drop (i + 1) rs = drop_more rs i r c.loop-i-test.true ∙ ap (λ q. q ∷ drop (i + 1) rs) (sym c.index-rules-i.is) in
    let fails : NeedsNoContext th (plain_rule r) → ⊥ = λ n. absurd (true≢false (sym (c.needs_no_context.ensures.1 n) ∙ c.if-not-needs_no_context.true)) in
    c.loop-i.invariant.first i (subst (λ (qs : List RuleScheme). IsFirstOpen th i (map plain_rule qs) i) (sym here) (inl (refl, fails)))

pub loop-i-preserved : goal.loop-i-preserved
loop-i-preserved c =
    let th : Theory = record { sig = c.args.sig.now; judgments = c.args.judgments.now; rules = map plain_rule c.args.rules.now } in
    let rs = c.args.rules.now in
    let i = c.loop-i.i in
    let r = c.index-rules-i.result in
    let here : drop i rs ≡ r ∷ drop (i + 1) rs = drop_more rs i r c.loop-i-test.true ∙ ap (λ q. q ∷ drop (i + 1) rs) (sym c.index-rules-i.is) in
    let needs : NeedsNoContext th (plain_rule r) = c.needs_no_context.ensures.0 c.if-not-needs_no_context.false in
    record {
      first = λ k h. c.loop-i.invariant.first k (subst (λ (qs : List RuleScheme). IsFirstOpen th i (map plain_rule qs) k) (sym here)
          (inr (needs, subst (λ (n : ℕ). IsFirstOpen th n (map plain_rule (drop (i + 1) rs)) k) (add-one i) h)));
      all = λ h. c.loop-i.invariant.all (subst (λ (qs : List RuleScheme). AllByRecursion (NeedsNoContext th) (map plain_rule qs)) (sym here) (needs, h));
      range = (subst (λ (qs : List RuleScheme). AllByRecursion (HasJudgments (length c.args.judgments.now)) (map plain_rule qs)) here c.loop-i.invariant.range).1;
    }
