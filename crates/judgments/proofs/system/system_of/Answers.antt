use Rattle.std.proofs.Common.{◌≡◌, sym, subst, List, MatchOption, Option, Some, None}
use Rattle.std.specs.List.{AllZip}
use Rattle.outline_reader.specs.Plain.{outlined}
use Rattle.rule_schemes.specs.Parts.{Parts}
use Rattle.rule_schemes.specs.Plain.{IsPlainTheory}
use Rattle.rule_schemes.specs.Rules.{Theory, Rule, IsSystem}
use Rattle.rule_schemes.specs.View.{theory}
use Rattle.judgments.specs.Bare.{IsBareTheory}
use Rattle.judgments.specs.Built.{HasRulesOf}
use Rattle.judgments.specs.Texts.{rules_in}
use Rattle.judgments.specs.Theory.{IsBlockRule, IsTheoryOf}
use Rattle.judgments.proofs.SystemLemmas.{if_ok_map, start_bare, all_fit, start_found, start_none, no_judgments_none}
use Rattle.judgments.proofs.system.system_of.Goals as goal

pub without_rules-requires-clause-fit : goal.without_rules-requires-clause-fit
without_rules-requires-clause-fit c =
    let names = c.names_differ.ensures.0 c.if-not-names_differ.false in
    all_fit c.args.sig (outlined c.args.outline.now) c.requires names.2 c.in-Some.judgments.items (rw c.in-Some.is at c.in_ok-judgments.ensures)

pub with_rules-requires-clause-plain : goal.with_rules-requires-clause-plain
with_rules-requires-clause-plain c = subst IsPlainTheory (sym c.in_ok-without_rules-in-Some.ensures) (record { sig = c.requires.plain; rules = tt })

pub with_rules-requires-clause-bare : goal.with_rules-requires-clause-bare
with_rules-requires-clause-bare c =
    let names = c.names_differ.ensures.0 c.if-not-names_differ.false in
    let built = rw c.in-Some.is at c.in_ok-judgments.ensures in
    subst IsBareTheory (sym c.in_ok-without_rules-in-Some.ensures) (start_bare c.args.sig (outlined c.args.outline.now) c.requires names.2 c.in-Some.judgments.items built)

pub returns-in_ok-without_rules-in-Some : goal.returns-in_ok-without_rules-in-Some
returns-in_ok-without_rules-in-Some c = if_ok_map _ _ found c.with_rules.result c.with_rules.ensures
  where
    found : (o : Option Parts) → MatchOption o ((rs : List Rule) → AllZip (IsBlockRule c.in_ok-without_rules-in-Some.field-0.sig c.in_ok-without_rules-in-Some.field-0.judgments) (rules_in 0 (outlined c.args.outline.now)) rs → ⊥)
        (λ new. HasRulesOf (theory c.in_ok-without_rules-in-Some.field-0) (rules_in 0 (outlined c.args.outline.now)) (theory new) × IsSystem (theory new))
        → MatchOption o ((th : Theory) → th.sig ≡ c.args.sig → IsTheoryOf (outlined c.args.outline.now) th → IsBareTheory th → ⊥)
        (λ sys. ((theory sys).sig ≡ c.args.sig) × IsTheoryOf (outlined c.args.outline.now) (theory sys) × IsBareTheory (theory sys)
        × ((th : Theory) → th.sig ≡ c.args.sig → IsTheoryOf (outlined c.args.outline.now) th → IsBareTheory th → th ≡ theory sys))
    found None none =
        let names = c.names_differ.ensures.0 c.if-not-names_differ.false in
        start_none c.args.sig (outlined c.args.outline.now) c.requires names.2 c.in-Some.judgments.items (rw c.in-Some.is at c.in_ok-judgments.ensures) (theory c.in_ok-without_rules-in-Some.field-0)
        c.in_ok-without_rules-in-Some.ensures none
    found (Some new) h =
        let names = c.names_differ.ensures.0 c.if-not-names_differ.false in
        start_found c.args.sig (outlined c.args.outline.now) c.requires names.2 c.in-Some.judgments.items (rw c.in-Some.is at c.in_ok-judgments.ensures) (theory c.in_ok-without_rules-in-Some.field-0) (theory new)
        c.in_ok-without_rules-in-Some.ensures h.0 h.1 names.0 names.1

pub returns-in-None : goal.returns-in-None
returns-in-None c = no_judgments_none c.args.sig (outlined c.args.outline.now) (rw c.in-None.is at c.in_ok-judgments.ensures)
