use Rattle.std.proofs.Common.{◌≡◌}
use Rattle.rule_schemes.specs.Rows.{AreMarks}
use Rattle.rule_schemes.proofs.keeping.own_row.Given as goal

abbrev pub invariant-loop-below : goal.invariant-loop-below
invariant-loop-below l = AreMarks l.below (λ y. l.judgment ≡ y) l.marks
