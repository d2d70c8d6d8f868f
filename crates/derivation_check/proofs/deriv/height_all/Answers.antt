use Rattle.std.proofs.Common.{◌≡◌, ◌^◌, ◌-◌, ◌<◌, min, length, subst, sym, arith}
use Rattle.derivation_check.proofs.Sums.{more_heights, capped_max}
use Rattle.derivation_check.proofs.deriv.height_all.Goals as goal

pub loop-one-preserved : goal.loop-one-preserved
loop-one-preserved c =
    let within : c.loop-one.one-index < length c.args.all.now = omega arith in
    subst (λ n. c.max-most.result ≡ min n (2 ^ 64 - 1)) (sym (more_heights c.args.all.now c.loop-one.one-index c.one-item.result within c.one-item.is))
    (capped_max _ _ _ _ _ c.max-most.ensures c.loop-one.invariant c.height.ensures)
