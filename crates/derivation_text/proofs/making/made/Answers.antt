use Rattle.std.proofs.Common.{List, sym, subst}
use Rattle.rule_schemes.specs.Rules.{RuleFits}
use Rattle.rule_schemes.specs.Derivation.{Derivation, IsNodeOf}
use Rattle.derivation_check.specs.Parts.{subtrees_of}
use Rattle.rule_schemes.specs.Plain.{HasPlainNames}
use Rattle.rule_schemes.specs.View.{theory, judgment_value}
use Rattle.rule_schemes.specs.View.{rule as plain_rule}
use Rattle.derivation_text.proofs.RuleLemmas.{rule_at, no_tree, made_is}
use Rattle.derivation_text.proofs.NodeLemmas.{not_when}
use Rattle.derivation_text.specs.Valid.{IsMade}
use Rattle.derivation_text.proofs.making.made.Goals as goal
use Rattle.binding_terms.proofs.Lists.{all_at}

pub is_node-requires-clause-fits : goal.is_node-requires-clause-fits
is_node-requires-clause-fits c =
    let th = theory c.args.sys.now in
    all_at (RuleFits th) th.rules c.args.number (plain_rule c.index-rule.result.now) c.always_system.ensures.rules
    (rule_at c.args.sys.now.rules _ c.args.number c.index-rule.result.now c.rules.ensures c.index-rule.ensures c.requires.number)

pub is_node-requires-clause-plain : goal.is_node-requires-clause-plain
is_node-requires-clause-plain c =
    let th = theory c.args.sys.now in
    all_at HasPlainNames th.rules c.args.number (plain_rule c.index-rule.result.now) c.requires.bare.plain.rules
    (rule_at c.args.sys.now.rules _ c.args.number c.index-rule.result.now c.rules.ensures c.index-rule.ensures c.requires.number)

pub returns-then-not-branch : goal.returns-then-not-branch
returns-then-not-branch c =
    let th = theory c.args.sys.now in
    no_tree th c.requires.bare c.always_system.ensures c.args.number (judgment_value c.args.judgment) c.args.trees.items (plain_rule c.index-rule.result.now)
    (rule_at c.args.sys.now.rules _ c.args.number c.index-rule.result.now c.rules.ensures c.index-rule.ensures c.requires.number)
    (λ n. not_when c.in_ok-is_node.ensures c.if-not-branch.true (subst (λ (ds : List Derivation). IsNodeOf th (judgment_value c.args.judgment) (subtrees_of ds) (plain_rule c.index-rule.result.now)) (sym c.as_slice.ensures.value) n))

pub returns : goal.returns
returns c =
    let th = theory c.args.sys.now in
    let v = judgment_value c.args.judgment in
    subst (IsMade th c.args.number v c.args.trees.items) (sym c.in_ok-node.ensures)
    (made_is th c.requires.bare c.args.number _ v c.args.trees.items (plain_rule c.index-rule.result.now)
    (rule_at c.args.sys.now.rules _ c.args.number c.index-rule.result.now c.rules.ensures c.index-rule.ensures c.requires.number)
    c.in_ok-id.ensures
    (subst (λ (ds : List Derivation). IsNodeOf th v (subtrees_of ds) (plain_rule c.index-rule.result.now)) c.as_slice.ensures.value (c.in_ok-is_node.ensures.0 c.if-not-branch.false)))
