use Rattle.std.proofs.Common.{◌≡◌, false, true, sym, ◌∙◌}
use Rattle.outline_reader.specs.Views.{portion_view}
use Rattle.outline_reader.specs.Plain.{plain_portion}
use Rattle.judgments.specs.Views.{declares}
use Rattle.judgments.proofs.NamedApart.{named_step}
use Rattle.judgments.proofs.naming.named_apart.Goals as goal

pub returns-then-not-is_new : goal.returns-then-not-is_new
returns-then-not-is_new c =
    let step = named_step (λ portion. plain_portion (portion_view portion)) (declares c.args.what) c.args.portions.now c.loop-i.i c.index-portions-i.result c.loop-i-test.true c.index-portions-i.is in
    (λ t. (let never : false ≡ true = t in cc), λ all. sym c.if-not-is_new.true ∙ c.is_new.ensures.1 (step.0 (c.loop-i.invariant.1 all)).0)

pub loop-i-preserved : goal.loop-i-preserved
loop-i-preserved c =
    let step = named_step (λ portion. plain_portion (portion_view portion)) (declares c.args.what) c.args.portions.now c.loop-i.i c.index-portions-i.result c.loop-i-test.true c.index-portions-i.is in
    (λ rest. c.loop-i.invariant.0 (step.1 (c.is_new.ensures.0 c.if-not-is_new.false, rest)), λ all. (step.0 (c.loop-i.invariant.1 all)).1)
