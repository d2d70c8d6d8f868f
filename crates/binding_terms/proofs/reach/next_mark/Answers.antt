use Rattle.std.proofs.Common.{◌≡◌, ◌<◌, length, false, Some, slice_get, refl, arith}
use Rattle.binding_terms.specs.Reach.{HasMarkedSlot}
use Rattle.binding_terms.proofs.reach.next_mark.Goals as goal
use Rattle.binding_terms.proofs.Lists.{any_at_index}

pub returns-then-is_next : goal.returns-then-is_next
returns-then-is_next c =
    let marks = c.args.marks.now in
    let prod = c.prod-item.result in
    let within : c.loop-prod.prod-index < length c.args.prods.now = omega arith in
    let next : (slice_get marks prod.cat.0 ≡ Some false) × HasMarkedSlot marks prod.items = rw c.if-is_next.true at c.is_next.ensures in
    (next.0, any_at_index (λ p. (p.cat.0 ≡ prod.cat.0) × HasMarkedSlot marks p.items) _ _ prod within c.prod-item.is (refl, next.1))
