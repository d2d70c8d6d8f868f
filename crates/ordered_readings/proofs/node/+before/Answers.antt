use Rattle.std.proofs.Common.{rules, sym, ◌∙◌}
use Rattle.ordered_readings.proofs.Before.{same_way, inside_tells}
use Rattle.ordered_readings.proofs.NodeEquations.{row-Slot, reading-Made}
use Rattle.ordered_readings.proofs.node.+before.Goals as goal

pub are_before-returns-then-same_place : goal.are_before-returns-then-same_place
are_before-returns-then-same_place t c =
    let same = rw (c.deref.ensures, c.deref-in-Slot-Slot.ensures) at (c.same_place.ensures.0 c.if-same_place.true) in
    let rest = rw (c.deref-then-same_place.ensures, c.deref-then-same_place-2.ensures) at c.are_before.ensures in
    let tells = same_way _ _ _ _ same in
    rw (c.in-Slot-Slot.is-0, c.in-Slot-Slot.is-1, row-Slot c.in-Slot-Slot.a, row-Slot c.in-Slot-Slot.b)
    (λ h. tells.1 (rest.0 h), λ h. rest.1 (tells.0 h))

pub is_before-returns-else-not-same_lengths : goal.is_before-returns-else-not-same_lengths
is_before-returns-else-not-same_lengths t c =
    let tells = inside_tells _ _ _ _ _ _ c.if-a-b.false (c.same_lengths.ensures.0 c.if-not-same_lengths.false) in
    rw (c.in-Made-Made.is-0, c.in-Made-Made.is-1, reading-Made c.in-Made-Made.a _ c.in-Made-Made.r, reading-Made c.in-Made-Made.b _ c.in-Made-Made.q)
    (λ h. tells.1 (c.are_before.ensures.0 h), λ h. c.are_before.ensures.1 (tells.0 h))
