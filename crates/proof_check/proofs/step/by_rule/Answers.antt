use Rattle.std.proofs.Common.{ℕ, Some, subst, sym, map}
use Rattle.proof_lexer.specs.View.{token_view}
use Rattle.rule_schemes.specs.View.{theory, judgment_scheme}
use Rattle.rule_schemes.specs.Rules.{Rule}
use Rattle.core_proofs.specs.declared.step.StepId.{StepId}
use Rattle.proof_check.specs.Cited.{IsNumberOf}
use Rattle.proof_check.specs.Finding.{Finds}
use Rattle.outline_reader.specs.Views.{arg_view}
use Rattle.outline_reader.specs.Plain.{plain_argument}
use Rattle.proof_check.proofs.StepLemmas.{rule_found, no_citation}
use Rattle.proof_check.proofs.step.by_rule.Goals as goal

pub returns-in-Some-2 : goal.returns-in-Some-2
returns-in-Some-2 c =
    let rules = map (λ (rule : Rule). rule.name) (theory c.args.sys.now).rules in
    let f : Finds (IsNumberOf c.args.name.now.text.now rules) (Some c.in-Some.rule) = rw c.as_bytes.ensures.value at c.in-Some.ensures in
    let n = subst (λ (k : ℕ). Finds (IsNumberOf c.args.name.now.text.now rules) (Some k)) (sym c.in_ok-number.ensures) f in
    let g = rw c.in-Some-2.is at c.in_ok-on.ensures in
    rule_found (theory c.args.sys.now) c.args.named.now (token_view c.args.first.now) (token_view c.args.name.now) (map plain_argument (map arg_view c.args.arguments.now)) (judgment_scheme c.args.form)
    c.in_ok-number.field-0 (map (λ (id : StepId). id.0) c.in-Some-2.on) n g

pub returns-in-None : goal.returns-in-None
returns-in-None c =
    let g = rw c.in-None.is at c.in_ok-on.ensures in
    no_citation (theory c.args.sys.now) c.args.named.now (token_view c.args.first.now) (token_view c.args.name.now) (map plain_argument (map arg_view c.args.arguments.now)) (judgment_scheme c.args.form) g
