use Rattle.std.proofs.Common.{map, [], ◌∷◌}
use Rattle.scheme_terms.specs.View.{names}
use Rattle.proof_lexer.specs.View.{kind_and_text}
use Rattle.rule_schemes.specs.View.{judgment_scheme}
use Rattle.judgments.specs.Written.{ReadsOnlyAs}
use Rattle.judgments.proofs.statements.read_inputs.Goals as goal
use Rattle.binding_terms.proofs.Lists.{map_append, zip_more, zip_none}

pub returns-in-None : goal.returns-in-None
returns-in-None c =
    zip_none (λ named. map kind_and_text named.form.now) (ReadsOnlyAs c.args.sys.now.sig c.args.sys.now.judgments (names c.args.scope.now.scope)) c.args.inputs.now c.loop-named.named-index _ c.loop-named-test.true
    (rw (c.in-None.is, c.sig.ensures, c.judgments.ensures) at c.in_ok-j.ensures)

pub loop-named-preserved : goal.loop-named-preserved
loop-named-preserved c =
    rw (c.in_ok-push-in-Some.ensures.items, map_append judgment_scheme c.loop-named.all.items (c.in-Some.j ∷ []))
    (zip_more (λ named. map kind_and_text named.form.now) (ReadsOnlyAs c.args.sys.now.sig c.args.sys.now.judgments (names c.args.scope.now.scope)) c.args.inputs.now c.loop-named.named-index _
    (map judgment_scheme c.loop-named.all.items) (judgment_scheme c.in-Some.j) c.loop-named-test.true c.loop-named.invariant (rw (c.in-Some.is, c.sig.ensures, c.judgments.ensures) at c.in_ok-j.ensures))
