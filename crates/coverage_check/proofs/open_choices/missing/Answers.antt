use Rattle.std.proofs.Common.{true≢false, sym, ◌∙◌, subst, arith}
use Rattle.coverage_check.specs.Missing.{IsMissing, IsFirstMissing}
use Rattle.coverage_check.proofs.FirstSo.{first_here, first_later, first_nowhere}
use Rattle.coverage_check.proofs.open_choices.missing.Goals as goal

pub loop-place-init : goal.loop-place-init
loop-place-init c = λ o first. first

pub returns-then-is_missing : goal.returns-then-is_missing
returns-then-is_missing c =
    first_here (IsMissing c.args.named.now.items) c.args.choices.now.items (IsFirstMissing c.args.choices.now.items c.args.named.now.items) c.loop-place.place c.index.result.now
    (omega (arith, c.loop-place-test.true, c.len-place-end.ensures)) c.index.ensures c.loop-place.invariant
    (subst (λ ns. IsMissing ns c.index.result.now) c.as_slice.ensures.value (c.is_missing.ensures.0 c.if-is_missing.true))

pub loop-place-preserved : goal.loop-place-preserved
loop-place-preserved c =
    first_later (IsMissing c.args.named.now.items) c.args.choices.now.items (IsFirstMissing c.args.choices.now.items c.args.named.now.items) c.loop-place.place c.index.result.now
    (omega (arith, c.loop-place-test.true, c.len-place-end.ensures)) c.index.ensures c.loop-place.invariant
    (λ is. true≢false (sym (c.is_missing.ensures.1 (subst (λ ns. IsMissing ns c.index.result.now) (sym c.as_slice.ensures.value) is)) ∙ c.if-is_missing.false))

pub returns : goal.returns
returns c =
    first_nowhere (IsMissing c.args.named.now.items) c.args.choices.now.items (IsFirstMissing c.args.choices.now.items c.args.named.now.items) c.loop-place.place
    (omega (arith, c.loop-place-test.false, c.len-place-end.ensures)) c.loop-place.invariant
