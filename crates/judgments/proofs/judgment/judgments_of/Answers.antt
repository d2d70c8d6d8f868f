use Rattle.outline_reader.specs.Views.{portion_view}
use Rattle.outline_reader.specs.Plain.{outlined, plain_portion}
use Rattle.judgments.specs.Built.{IsBuiltJudgment}
use Rattle.judgments.proofs.ItemLemmas.{more_judgments, no_judgments}
use Rattle.judgments.proofs.judgment.judgments_of.Goals as goal

pub returns-in-None : goal.returns-in-None
returns-in-None c =
    let lt = rw c.as_slice-portion-items.ensures.value at c.loop-portion-test.true in
    no_judgments (λ portion. plain_portion (portion_view portion)) (IsBuiltJudgment c.args.sig.now (outlined c.args.outline.now)) c.args.outline.now.parts.items c.loop-portion.portion-index
    c.portion-item.result lt (rw (c.in-None.is, c.portion-item.is, c.as_slice-portion-items.ensures.value) at c.in_ok-more.ensures)

pub loop-portion-preserved : goal.loop-portion-preserved
loop-portion-preserved c =
    let lt = rw c.as_slice-portion-items.ensures.value at c.loop-portion-test.true in
    rw c.in_ok-join-in-Some.ensures
    (more_judgments (λ portion. plain_portion (portion_view portion)) (IsBuiltJudgment c.args.sig.now (outlined c.args.outline.now)) c.args.outline.now.parts.items c.loop-portion.portion-index
    c.portion-item.result lt c.loop-portion.all.items c.in-Some.more.items c.loop-portion.invariant (rw (c.in-Some.is, c.portion-item.is, c.as_slice-portion-items.ensures.value) at c.in_ok-more.ensures))
