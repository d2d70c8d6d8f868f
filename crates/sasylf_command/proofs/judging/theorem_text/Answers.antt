use Rattle.std.proofs.Common.{sym, subst}
use Rattle.std.proofs.lemmas.Result.{IfOk-weaker}
use Rattle.binding_terms.proofs.Lists.{all_weaker}
use Rattle.rule_schemes.specs.Parts.{Parts}
use Rattle.rule_schemes.specs.View.{theory}
use Rattle.core_proofs.specs.Kept.{kept_theory}
use Rattle.derivation_text.specs.Bare.{HasNoContexts}
use Rattle.sasylf_command.proofs.Judged.{takes_at, derived_all, text_at, no_text_at}
use Rattle.sasylf_command.proofs.judging.theorem_text.Goals as goal

pub given_trees-requires-clause-bare : goal.given_trees-requires-clause-bare
given_trees-requires-clause-bare c =
    let bare : HasNoContexts (kept_theory c.args.accepted.now) = record {
      plain = c.always_accepted.ensures.plain;
      variables = c.requires.built.theory.sig.variables;
      judgments = all_weaker (λ j is. is.no_context) _ c.requires.built.theory.judgments;
    } in
    subst (λ (s : Parts). HasNoContexts (theory s)) (sym c.system.ensures) bare

pub given_trees-requires-clause-takes : goal.given_trees-requires-clause-takes
given_trees-requires-clause-takes c = takes_at _ _ _ (rw c.statements.ensures at c.index-statement.ensures) c.requires.number c.requires.built.are_bare

pub run_text-requires-clause-derived : goal.run_text-requires-clause-derived
run_text-requires-clause-derived c =
    let told = rw (c.in-Some.is, c.system.ensures) at c.in_ok-trees.ensures in
    rw c.in_ok-inputs-in-Some.ensures (derived_all _ _ told.1)

pub returns-in_ok-inputs-in-Some : goal.returns-in_ok-inputs-in-Some
returns-in_ok-inputs-in-Some c =
    let told = rw (c.in-Some.is, c.system.ensures) at c.in_ok-trees.ensures in
    IfOk-weaker _ _ _
    (text_at c.args.accepted.now c.args.theorem.0 _ c.args.lines.now _ _ (rw c.statements.ensures at c.index-statement.ensures) c.in_ok-inputs-in-Some.ensures told.0 told.2)
    c.run_text.ensures

pub returns-in-None : goal.returns-in-None
returns-in-None c =
    let none = rw (c.in-None.is, c.system.ensures) at c.in_ok-trees.ensures in
    no_text_at c.args.accepted.now c.args.theorem.0 _ c.args.lines.now (rw c.statements.ensures at c.index-statement.ensures) none
