use Rattle.judgments.specs.Statements.{IsNamedFreely}
use Rattle.judgments.specs.Views.{given_text}
use Rattle.judgments.proofs.inputs.all_named_freely.Goals as goal
use Rattle.binding_terms.proofs.Lists.{all_step}

pub loop-input-preserved : goal.loop-input-preserved
loop-input-preserved c =
    let step = all_step given_text (IsNamedFreely c.args.sig.now) c.args.inputs.now c.loop-input.input-index _ c.loop-input-test.true in
    (λ rest. c.loop-input.invariant.0 (step.1 (c.is_named_freely.ensures.0 c.if-not-is_named_freely.false, rest)), λ all. (step.0 (c.loop-input.invariant.1 all)).1)
