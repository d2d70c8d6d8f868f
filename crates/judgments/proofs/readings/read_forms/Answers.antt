use Rattle.std.proofs.Common.{map, [], ◌∷◌}
use Rattle.scheme_terms.specs.View.{names}
use Rattle.proof_lexer.specs.View.{kind_and_text}
use Rattle.rule_schemes.specs.View.{judgment_scheme}
use Rattle.judgments.specs.Written.{ReadsOnlyAs}
use Rattle.judgments.proofs.readings.read_forms.Goals as goal
use Rattle.binding_terms.proofs.Lists.{map_append, zip_more, zip_none}

pub returns-in-None : goal.returns-in-None
returns-in-None c =
    zip_none (λ form. map kind_and_text form.now) (ReadsOnlyAs c.args.sig.now c.args.judgments.now.items (names c.args.scope.now.scope)) c.args.forms.now c.loop-form.form-index _ c.loop-form-test.true
    (rw c.in-None.is at c.in_ok-j.ensures)

pub loop-form-preserved : goal.loop-form-preserved
loop-form-preserved c =
    rw (c.in_ok-push-in-Some.ensures.ok, map_append judgment_scheme c.loop-form.all (c.in-Some.j ∷ []))
    (zip_more (λ form. map kind_and_text form.now) (ReadsOnlyAs c.args.sig.now c.args.judgments.now.items (names c.args.scope.now.scope)) c.args.forms.now c.loop-form.form-index _
    (map judgment_scheme c.loop-form.all) (judgment_scheme c.in-Some.j) c.loop-form-test.true c.loop-form.invariant (rw c.in-Some.is at c.in_ok-j.ensures))
