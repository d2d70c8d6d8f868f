use Rattle.proof_lexer.specs.View.{token_view}
use Rattle.outline_reader.specs.Plain.{outlined}
use Rattle.judgments.specs.Theory.{IsItemOf}
use Rattle.judgments.proofs.items.items_of.Goals as goal
use Rattle.binding_terms.proofs.Lists.{zip_more, zip_none}

pub returns-in-None : goal.returns-in-None
returns-in-None c =
    zip_none token_view (IsItemOf c.args.sig.now (outlined c.args.outline.now)) c.args.form.now c.loop-token.token-index _ c.loop-token-test.true
    (rw c.in-None.is at c.in_ok-item.ensures)

pub loop-token-preserved : goal.loop-token-preserved
loop-token-preserved c =
    rw c.in_ok-push-in-Some.ensures.ok
    (zip_more token_view (IsItemOf c.args.sig.now (outlined c.args.outline.now)) c.args.form.now c.loop-token.token-index _ c.loop-token.all c.in-Some.item c.loop-token-test.true
    c.loop-token.invariant (rw c.in-Some.is at c.in_ok-item.ensures))
