use Rattle.std.proofs.Common.{Some, None, sym, ap, subst}
use Rattle.scheme_terms.specs.View.{names}
use Rattle.rule_schemes.specs.View.{theory, statement, judgment_scheme}
use Rattle.proof_lexer.specs.View.{token_view}
use Rattle.outline_reader.specs.Views.{portion_view}
use Rattle.outline_reader.specs.Plain.{PlainPortion, plain_portion}
use Rattle.core_proofs.specs.View.{step}
use Rattle.proof_check.specs.Finding.{Finds}
use Rattle.proof_check.specs.Steps.{StandsFor}
use Rattle.proof_check.specs.View.{made_step}
use Rattle.proof_check.proofs.StepLemmas.{step_found, not_justified, nothing_said}
use Rattle.proof_check.proofs.step.step_of.Goals as goal

pub returns-in-Some-2 : goal.returns-in-Some-2
returns-in-Some-2 c =
    let th = theory c.args.sys.now in
    let st = statement c.args.statement.now in
    let scope = names c.args.scope.now.scope in
    let e = ap (λ p. plain_portion (portion_view p)) c.in-Step.is in
    let f = rw (c.in-Some.is, c.deref.ensures.value, c.deref-in-Step.ensures.value) at c.in_ok-name-in-Step.ensures in
    let g = rw c.in-Some-2.is at c.in_ok-step-in-Some.ensures in
    subst (λ (p : PlainPortion). Finds (StandsFor th st scope c.args.named.now p) (Some (made_step (record { name = c.in-Some.name; line = c.in-Step.first.now.line; step = c.in-Some-2.step })))) (sym e)
    (step_found th st scope c.args.named.now (token_view c.in-Step.first.now) _ _ _ c.in-Some.name (judgment_scheme c.in-Some.form) (step c.in-Some-2.step) f g)

pub returns-in-None-2 : goal.returns-in-None-2
returns-in-None-2 c =
    let th = theory c.args.sys.now in
    let st = statement c.args.statement.now in
    let scope = names c.args.scope.now.scope in
    let e = ap (λ p. plain_portion (portion_view p)) c.in-Step.is in
    let f = rw (c.in-Some.is, c.deref.ensures.value, c.deref-in-Step.ensures.value) at c.in_ok-name-in-Step.ensures in
    let g = rw c.in-None-2.is at c.in_ok-step-in-Some.ensures in
    subst (λ (p : PlainPortion). Finds (StandsFor th st scope c.args.named.now p) None) (sym e)
    (not_justified th st scope c.args.named.now (token_view c.in-Step.first.now) _ _ _ c.in-Some.name (judgment_scheme c.in-Some.form) f g)

pub returns-in-None : goal.returns-in-None
returns-in-None c =
    let th = theory c.args.sys.now in
    let st = statement c.args.statement.now in
    let scope = names c.args.scope.now.scope in
    let e = ap (λ p. plain_portion (portion_view p)) c.in-Step.is in
    let f = rw (c.in-None.is, c.deref.ensures.value, c.deref-in-Step.ensures.value) at c.in_ok-name-in-Step.ensures in
    subst (λ (p : PlainPortion). Finds (StandsFor th st scope c.args.named.now p) None) (sym e)
    (nothing_said th st scope c.args.named.now (token_view c.in-Step.first.now) _ _ _ f)
