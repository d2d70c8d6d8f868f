-- Worked relations of a term to a target. To be held against docs/notation.md, 'Order'.
use Rattle.scheme_terms.specs.SchemeTree.{meta, local, con, no_values, value, no_parts, part}
use Rattle.induction_order.specs.Order.{IsTermRelation}
use Rattle.induction_order.specs.declared.relation.Rel.TheVariants.{Less, Unknown}

-- n is less than s n
abbrev pub PredecessorIsLess : Type 0
PredecessorIsLess = IsTermRelation (meta 0 no_values) (con 1 (part 0 (meta 0 no_values) no_parts)) Less

-- t[x'] is less than fn x => t[x], where x' is the variable of the fourth explicit entry from the last
abbrev pub BodyIsLess : Type 0
BodyIsLess =
    IsTermRelation (meta 0 (value (local 3) no_values)) (con 0 (part 1 (meta 0 (value (local 0) no_values)) no_parts)) Less

-- s n is not known to be less than n
abbrev pub SuccessorIsUnknown : Type 0
SuccessorIsUnknown = IsTermRelation (con 1 (part 0 (meta 0 no_values) no_parts)) (meta 0 no_values) Unknown

-- t[x'][x'] is not known to be less than a term that binds x and y around t[x][y]: two variables would have one name
abbrev pub SharedNameIsUnknown : Type 0
SharedNameIsUnknown =
    IsTermRelation (meta 0 (value (local 3) (value (local 3) no_values)))
    (con 0 (part 2 (meta 0 (value (local 1) (value (local 0) no_values))) no_parts)) Unknown
