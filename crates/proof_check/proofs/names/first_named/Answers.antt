use Rattle.std.proofs.Common.{◌≡◌, ◌≢◌, sym, ap, ◌∙◌, true≢false}
use Rattle.rule_schemes.specs.declared.rule.RuleScheme.{RuleScheme}
use Rattle.proof_check.proofs.NumberLemmas.{first_found, none_found}
use Rattle.proof_check.proofs.names.first_named.Goals as goal
use Rattle.binding_terms.proofs.Lists.{all_more}

pub returns-then-same_text : goal.returns-then-same_text
returns-then-same_text c =
    let same : c.bytes.result.now ≡ c.index-rules-i.result.name = c.bytes.ensures ∙ ap (λ (r : RuleScheme). r.name) (sym c.index-rules-i.is) in
    first_found (λ (r : RuleScheme). r.name) c.args.name.now c.args.rules.now c.loop-i.i c.index-rules-i.result c.loop-i-test.true c.index-rules-i.is
    (sym same ∙ c.same_text.ensures.0 c.if-same_text.true) c.loop-i.invariant

pub loop-i-preserved : goal.loop-i-preserved
loop-i-preserved c =
    let same : c.bytes.result.now ≡ c.index-rules-i.result.name = c.bytes.ensures ∙ ap (λ (r : RuleScheme). r.name) (sym c.index-rules-i.is) in
    all_more (λ (r : RuleScheme). r.name ≢ c.args.name.now) c.args.rules.now c.loop-i.i c.index-rules-i.result c.loop-i-test.true c.index-rules-i.is
    (λ e. true≢false (sym (c.same_text.ensures.1 (same ∙ e)) ∙ c.if-same_text.false)) c.loop-i.invariant

pub returns : goal.returns
returns c = none_found (λ (r : RuleScheme). r.name) c.args.name.now c.args.rules.now c.loop-i.i c.loop-i-test.false c.loop-i.invariant
