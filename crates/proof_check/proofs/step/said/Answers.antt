use Rattle.scheme_terms.specs.View.{names}
use Rattle.rule_schemes.specs.View.{theory, statement}
use Rattle.proof_check.proofs.StepLemmas.{if_ok, said_lent}
use Rattle.proof_check.proofs.step.said.Goals as goal

pub returns : goal.returns
returns c =
    if_ok c.said_by_form.result _ _
    (λ found h. said_lent (theory c.args.sys.now) (statement c.args.statement.now) (names c.args.scope.now.scope) c.args.named.now c.args.names.now c.args.forms.now _ _ _ c.if-names-ne1.false c.if-forms-ne1.false h)
    c.said_by_form.ensures
