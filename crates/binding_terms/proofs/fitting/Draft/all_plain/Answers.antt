use Rattle.std.proofs.Common.{◌<◌, length, rules, arith}
use Rattle.binding_terms.specs.Draft.{drafted}
use Rattle.binding_terms.specs.Signature.{IsPlain}
use Rattle.binding_terms.proofs.Slots.{slots_more, slots_skip}
use Rattle.binding_terms.proofs.fitting.Draft.all_plain.Goals.{in-Slot+else-not-is_plain, in_default}
use Rattle.binding_terms.proofs.fitting.Draft.all_plain.Goals as goal

pub loop-item-preserved : goal.loop-item-preserved
loop-item-preserved c =
    let within : c.loop-item.item-index < length c.args.items.now = omega arith in
    elim c.match-item.branch [
      | in-Slot+else-not-is_plain w ↦
          let plain = w.is_plain.ensures.0 (search rules) in
          let more = slots_more _ _ _ within c.item-item.is (λ s. IsPlain (drafted c.args.self.now) s.cat) w.in-Slot.cat w.in-Slot.binds w.in-Slot.is plain in
          (λ h. more.0 (c.loop-item.invariant.0 h), λ h. c.loop-item.invariant.1 (more.1 h))
      | in_default w ↦ rw (slots_skip _ _ _ within c.item-item.is w.in_default.not-Slot) at c.loop-item.invariant
    ]
