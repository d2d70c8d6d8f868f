use Rattle.std.proofs.Common.{inl, inr, refl}
use Rattle.outline_reader.specs.Views.{portion_view}
use Rattle.outline_reader.specs.Plain.{plain_portion}
use Rattle.judgments.proofs.ItemLemmas.{listed_step, right_of}
use Rattle.judgments.proofs.items.is_listed.Goals as goal

pub returns-then-lists_text : goal.returns-then-lists_text
returns-then-lists_text c =
    let lt = rw c.as_slice-portion-items.ensures.value at c.loop-portion-test.true in
    let step = listed_step (λ portion. plain_portion (portion_view portion)) c.args.text.now c.args.outline.now.parts.items c.loop-portion.portion-index c.portion-item.result lt in
    let here = rw (c.portion-item.is, c.as_slice-portion-items.ensures.value) at c.lists_text.ensures in
    (λ t. c.loop-portion.invariant.0 (step.1 (inl (here.0 c.if-lists_text.true))), λ h. refl)

pub loop-portion-preserved : goal.loop-portion-preserved
loop-portion-preserved c =
    let lt = rw c.as_slice-portion-items.ensures.value at c.loop-portion-test.true in
    let step = listed_step (λ portion. plain_portion (portion_view portion)) c.args.text.now c.args.outline.now.parts.items c.loop-portion.portion-index c.portion-item.result lt in
    let here = rw (c.portion-item.is, c.as_slice-portion-items.ensures.value) at c.lists_text.ensures in
    (λ h. c.loop-portion.invariant.0 (step.1 (inr h)), λ h. right_of _ _ c.lists_text.result here c.if-lists_text.false (step.0 (c.loop-portion.invariant.1 h)))
