use Rattle.std.proofs.Common.{true≢false, sym, ◌∙◌}
use Rattle.scheme_terms.proofs.DistinctLocals.{distinct_from}
use Rattle.scheme_terms.proofs.strict.are_distinct_locals.Goals as goal

pub returns-then-not-begins_apart : goal.returns-then-not-begins_apart
returns-then-not-begins_apart c =
    let next = distinct_from c.args.args.now c.loop-at.at c.loop-at-test.true in
    (λ h. absurd (true≢false (sym h)), λ h. sym c.if-not-begins_apart.true ∙ c.begins_apart.ensures.1 (next.0 (c.loop-at.invariant.1 h)).0)

pub loop-at-preserved : goal.loop-at-preserved
loop-at-preserved c =
    let next = distinct_from c.args.args.now c.loop-at.at c.loop-at-test.true in
    (λ h. c.loop-at.invariant.0 (next.1 (c.begins_apart.ensures.0 c.if-not-begins_apart.false, h)), λ h. (next.0 (c.loop-at.invariant.1 h)).1)
