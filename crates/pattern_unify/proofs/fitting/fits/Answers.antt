use Rattle.std.proofs.Common.{sym, ◌∙◌, true≢false}
use Rattle.pattern_unify.proofs.fitting.fits.Goals as goal

pub returns-then-not-branch : goal.returns-then-not-branch
returns-then-not-branch c =
    let kept = rw c.as_slice.ensures at c.in_ok-keep_numbers.ensures in
    (λ e. absurd (true≢false (sym e)), λ all. absurd (true≢false (sym (kept.1 all.0) ∙ c.if-not-branch.true)))

pub returns : goal.returns
returns c =
    let kept = rw c.as_slice.ensures at c.in_ok-keep_numbers.ensures in
    (λ e. (kept.0 c.if-not-branch.false, c.in_ok-equal.ensures.0 e), λ all. c.in_ok-equal.ensures.1 all.1)
