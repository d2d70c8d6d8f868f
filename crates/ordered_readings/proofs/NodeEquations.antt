-- What a reading and its slots stand for, one equation for each variant.
use Rattle.std.proofs.Common.{◌≡◌, ℕ, [], Global, sym, ap, ◌∙◌}
use Rattle.std.specs.declared.rc.Rc.{Rc}
use Rattle.scheme_terms.specs.SchemeTree.{SchemeTree, no_parts}
use Rattle.rule_schemes.specs.Said.{Way, way, no_ways, then_way}
use Rattle.ordered_readings.specs.NodeView.{Slots, slot_before, made, node_level, row_level, cell_level, reading, row}
use Rattle.ordered_readings.specs.declared.node.Head.{Head}
use Rattle.ordered_readings.specs.declared.node.Node.{Node}
use Rattle.ordered_readings.specs.declared.node.Row.{Row}
use Rattle.ordered_readings.specs.declared.node.SlotCell.{SlotCell}
use Rattle.ordered_readings.specs.declared.node.Node.TheVariants.{Group, Made, rolls-Group, rolls-Made}
use Rattle.ordered_readings.specs.declared.node.Row.TheVariants.{End, Slot, rolls-End, rolls-Slot}
use Rattle.ordered_readings.specs.declared.node.Node.TheFolds.{fold-roll-Node, fold-roll-Row, fold_out-SlotCell}
use Rattle.ordered_readings.specs.declared.node.Node.TheOpen.{Node-F, Row-F}

pub row-End : row End ≡ ([], no_ways, no_parts)
row-End = ap row (sym rolls-End) ∙ fold-roll-Row (Way × SchemeTree) Slots Slots node_level row_level cell_level Row-F.End

pub row-Slot : (c : Rc SlotCell Global) → row (Slot c) ≡ slot_before c.value.length c.value.binds (reading c.value.body) (row c.value.rest)
row-Slot c =
    ap row (sym (rolls-Slot c)) ∙ fold-roll-Row (Way × SchemeTree) Slots Slots node_level row_level cell_level (Row-F.Slot c)
    ∙ fold_out-SlotCell (Way × SchemeTree) Slots Slots node_level row_level cell_level c.value

pub reading-Made : (a : ℕ) (h : Head) (r : Row) → reading (Made a h r) ≡ (way a (row r).0 (row r).1, made h (row r).2)
reading-Made a h r = ap reading (sym (rolls-Made a h r)) ∙ fold-roll-Node (Way × SchemeTree) Slots Slots node_level row_level cell_level (Node-F.Made a h r)
