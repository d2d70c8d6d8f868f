use Rattle.std.proofs.Common.{◌≡◌, ◌∙◌, ap, map, ◌++◌, ◌∷◌, []}
use Rattle.rule_schemes.specs.Rules.{Theory}
use Rattle.rule_schemes.specs.View.{theory, rule as plain_rule}
use Rattle.judgments.proofs.GoodRules.{good_rule}
use Rattle.judgments.proofs.SystemLemmas.{same_text, rule_added, rule_none}
use Rattle.judgments.proofs.system.add_portion.Goals as goal
use Rattle.binding_terms.proofs.Lists.{map_append}

pub add-requires : goal.add-requires
add-requires c = good_rule (theory c.args.sys.now) c.requires _ (plain_rule c.in-Some.rule) (rw c.in-Some.is at c.in_ok-rule-in-Rule.ensures)

pub returns-in_ok-add-in-Some : goal.returns-in_ok-add-in-Some
returns-in_ok-add-in-Some c =
    let old = c.args.sys.now in
    let r = c.in-Some.rule in
    let is : theory c.add.new.sys ≡ record { sig = old.sig; judgments = old.judgments; rules = map plain_rule old.rules ++ plain_rule r ∷ [] } =
    ap theory c.in_ok-add-in-Some.ensures ∙ ap (λ rs. let t : Theory = record { sig = old.sig; judgments = old.judgments; rules = rs } in t) (map_append plain_rule old.rules (r ∷ [])) in
    rw c.in-Rule.is
    (rule_added (theory old) (theory c.add.new.sys) _ _ (plain_rule r) (same_text (λ form. form.now) c.args.block c.in-Rule.name.now.text.now c.in-Rule.premises.items c.in-Rule.conclusion.now)
    (rw (c.in-Some.is, c.as_slice.ensures.value) at c.in_ok-rule-in-Rule.ensures) is)

pub returns-in-None : goal.returns-in-None
returns-in-None c =
    let old = c.args.sys.now in
    rw c.in-Rule.is
    (rule_none old.sig old.judgments _ _ (same_text (λ form. form.now) c.args.block c.in-Rule.name.now.text.now c.in-Rule.premises.items c.in-Rule.conclusion.now)
    (rw (c.in-None.is, c.as_slice.ensures.value) at c.in_ok-rule-in-Rule.ensures))
