use Rattle.std.specs.Prelude.{◌↔◌, drop}
use Rattle.induction_order.specs.Order.{IsSmaller}
use Rattle.induction_order.proofs.relation.smaller.Given as goal

-- the call is ordered exactly where it is by the relations that are left
abbrev pub invariant-loop-rel : goal.invariant-loop-rel
invariant-loop-rel l = IsSmaller (drop l.rel-index l.targets.items) l.earlier ↔ IsSmaller l.targets.items l.earlier
