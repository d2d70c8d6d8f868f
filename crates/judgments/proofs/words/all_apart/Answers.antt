use Rattle.std.proofs.Common.{◌≡◌, false, true, sym, ◌∙◌}
use Rattle.judgments.proofs.Spelling.{apart_step}
use Rattle.judgments.proofs.words.all_apart.Goals as goal

pub returns-then-not-is_apart : goal.returns-then-not-is_apart
returns-then-not-is_apart c =
    let step = apart_step c.args.cats.now c.loop-i.i c.index-cats-i.result c.loop-i-test.true c.index-cats-i.is in
    let h = c.if-not-is_apart.true in
    (λ t. (let never : false ≡ true = t in cc), λ all. sym h ∙ c.is_apart.ensures.1 (step.0 (c.loop-i.invariant.1 all)).0)

pub loop-i-preserved : goal.loop-i-preserved
loop-i-preserved c =
    let step = apart_step c.args.cats.now c.loop-i.i c.index-cats-i.result c.loop-i-test.true c.index-cats-i.is in
    (λ rest. c.loop-i.invariant.0 (step.1 (c.is_apart.ensures.0 c.if-not-is_apart.false, rest)), λ all. (step.0 (c.loop-i.invariant.1 all)).1)
