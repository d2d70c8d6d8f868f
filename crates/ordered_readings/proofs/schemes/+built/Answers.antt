use Rattle.std.proofs.Common.{◌≡◌, ℕ, IfOk, map, [], ◌∷◌, ◌++◌, ap, ◌∙◌, sym, subst}
use Rattle.std.proofs.lemmas.List.{map-append}
use Rattle.scheme_terms.specs.SchemeTree.{SchemeTree, values}
use Rattle.scheme_terms.specs.View.{scheme, scheme_part, scheme_parts, scheme_level, part_level}
use Rattle.scheme_terms.specs.declared.scheme.Scheme.TheFolds.{fold-roll-SArg}
use Rattle.ordered_readings.specs.NodeView.{reading, row, values_of, more_values, more_parts}
use Rattle.ordered_readings.proofs.Behind.{values_end, values_more, parts_end, parts_more}
use Rattle.ordered_readings.proofs.NodeEquations.{row-End, row-Slot}
use Rattle.ordered_readings.proofs.schemes.+built.Goals as goal

pub add_parts-returns-in-End : goal.add_parts-returns-in-End
add_parts-returns-in-End t c = rw (c.in-End.is, row-End) (parts_end (map scheme_part c.args.found))

pub add_parts-returns-in_ok-push-in-Slot : goal.add_parts-returns-in_ok-push-in-Slot
add_parts-returns-in_ok-push-in-Slot t c =
    let cell = c.in-Slot.cell.value in
    rw (c.in-Slot.is, row-Slot c.in-Slot.cell, sym (parts_more (map scheme_part c.args.found) (cell.binds, (reading cell.body).1) (row cell.rest).2))
    (rw (c.in_ok-push-in-Slot.ensures.ok, map-append scheme_part c.args.found _, fold-roll-SArg SchemeTree (ℕ × SchemeTree) scheme_level part_level _, c.in_ok-body-in-Slot.ensures, c.deref.ensures, c.deref-in-Slot.ensures, c.deref-in-Slot-2.ensures) at c.add_parts.ensures)

pub add_values-returns-in-End : goal.add_values-returns-in-End
add_values-returns-in-End t c = rw (c.in-End.is, row-End) (values_end (map scheme c.args.found))

pub add_values-returns-in_ok-push-in-Slot : goal.add_values-returns-in_ok-push-in-Slot
add_values-returns-in_ok-push-in-Slot t c =
    let cell = c.in-Slot.cell.value in
    rw (c.in-Slot.is, row-Slot c.in-Slot.cell, sym (values_more (map scheme c.args.found) (reading cell.body).1 (values_of (row cell.rest).2)))
    (rw (c.in_ok-push-in-Slot.ensures.ok, map-append scheme c.args.found _, c.in_ok-scheme_of-in-Slot.ensures, c.deref.ensures, c.deref-in-Slot.ensures) at c.add_values.ensures)
