use Rattle.std.proofs.Common.{◌∙◌}
use Rattle.rule_schemes.specs.View.{theory, judgment_scheme}
use Rattle.scheme_terms.specs.View.{names}
use Rattle.proof_lexer.specs.View.{token_view}
use Rattle.std.proofs.Common.{map}
use Rattle.proof_check.specs.Cited.{MayBeGiven}
use Rattle.proof_check.specs.Written.{IsFormOf}
use Rattle.proof_check.proofs.StepLemmas.{pair_found}
use Rattle.proof_check.proofs.step.said_by_form.Goals as goal

pub returns-in_ok-of-in-Some : goal.returns-in_ok-of-in-Some
returns-in_ok-of-in-Some c =
    let f = rw c.in-Some.is at c.in_ok-form.ensures in
    let may : MayBeGiven c.args.sys.now.sig c.args.named.now c.args.name.now.text.now =
    rw (c.sig.ensures, c.as_bytes.ensures.value) at (c.may_be_given.ensures.0 c.if-not-may_be_given.false) in
    pair_found c.args.name.now.text.now c.in_ok-of-in-Some.field-0 _ (IsFormOf (theory c.args.sys.now) (names c.args.scope.now.scope) (map token_view c.args.form.now))
    (judgment_scheme c.in-Some.form) (c.in_ok-of-in-Some.ensures ∙ c.as_bytes-in-Some.ensures.value) may f

pub returns-in-None : goal.returns-in-None
returns-in-None c = (let f = rw c.in-None.is at c.in_ok-form.ensures in λ a h. f a.1 h.2)
