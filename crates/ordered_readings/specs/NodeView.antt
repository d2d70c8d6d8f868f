-- What readings with shared parts stand for: a place in the reading order and a scheme. Held against docs/notation.md, the reading
-- order, and `way_of_term` of rule_schemes.
use Rattle.std.specs.Prelude.{ℕ, List, [], ◌∷◌}
use Rattle.scheme_terms.specs.SchemeTree.{SchemeTree, meta, known, local, con, Values, no_values, value, Parts, no_parts, part}
use Rattle.rule_schemes.specs.Said.{Way, way, Ways, no_ways, then_way}
use Rattle.ordered_readings.specs.declared.node.Head.{Head}
use Rattle.ordered_readings.specs.declared.node.Head.TheVariants.{Meta, Known, Local, Con}
use Rattle.ordered_readings.specs.declared.node.Node.{Node, fold-Node}
use Rattle.ordered_readings.specs.declared.node.Row.{Row, fold-Row}
use Rattle.ordered_readings.specs.declared.node.Node.TheOpen.{Node-F, Row-F, SlotCell-F}

-- the slots of a reading: their lengths, their own places, and what they say
abbrev pub Slots : Type 0
Slots = List ℕ × Ways × Parts

-- a slot of that length, which binds so many, before others
abbrev pub slot_before : (length binds : ℕ) → Way × SchemeTree → Slots → Slots
slot_before n b d r = (n ∷ r.0, then_way d.0 r.1, part b d.1 r.2)

abbrev pub values_of : Parts → Values
values_of no_parts = no_values
values_of (part n s xs) = value s (values_of xs)

-- what is made of the slots
abbrev pub made : Head → Parts → SchemeTree
made (Meta m) xs = meta m.0 (values_of xs)
made (Known k) xs = known k
made (Local i) xs = local i
made (Con p) xs = con p.0 xs

abbrev pub node_level : Node-F (Way × SchemeTree) Slots Slots → Way × SchemeTree
node_level (Node-F.Group n) = (way 0 [] (then_way n.value.0 no_ways), n.value.1)
node_level (Node-F.Made a h r) = (way a r.0 r.1, made h r.2)

abbrev pub row_level : Row-F (Way × SchemeTree) Slots Slots → Slots
row_level Row-F.End = ([], no_ways, no_parts)
row_level (Row-F.Slot c) = c.value

abbrev pub cell_level : SlotCell-F (Way × SchemeTree) Slots Slots → Slots
cell_level c = slot_before c.length c.binds c.body c.rest

-- the place of a reading in the reading order, and its scheme
abbrev pub reading : Node → Way × SchemeTree
reading = fold-Node (Way × SchemeTree) Slots Slots node_level row_level cell_level

abbrev pub row : Row → Slots
row = fold-Row (Way × SchemeTree) Slots Slots node_level row_level cell_level

-- schemes before others
abbrev pub more_values : List SchemeTree → Values → Values
more_values [] vs = vs
more_values (s ∷ ss) vs = value s (more_values ss vs)

abbrev pub more_parts : List (ℕ × SchemeTree) → Parts → Parts
more_parts [] xs = xs
more_parts (a ∷ rest) xs = part a.0 a.1 (more_parts rest xs)
