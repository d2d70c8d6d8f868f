use Rattle.outline_reader.specs.Plain.{outlined}
use Rattle.rule_schemes.specs.Rules.{IsSystem}
use Rattle.rule_schemes.specs.View.{theory}
use Rattle.rule_schemes.proofs.PlainLemmas.{plain_system, IsPlainSystem-whole}
use Rattle.judgments.specs.Built.{HasRulesOf}
use Rattle.judgments.specs.Texts.{rules_in}
use Rattle.judgments.proofs.GoodRules.{plain_more}
use Rattle.judgments.proofs.system.with_rules.Goals as goal

pub returns : goal.returns
returns c =
    let rules : HasRulesOf (theory c.args.sys) (rules_in 0 (outlined c.args.outline.now)) (theory c.add_rules.new.sys) = rw c.if-not-branch.false at c.in_ok-add_rules.ensures in
    let whole : IsSystem (theory c.add_rules.new.sys) =
    IsPlainSystem-whole _ (plain_system c.always_system.ensures (plain_more _ _ _ c.requires.bare c.requires.plain rules)) in
    (rules, whole)
