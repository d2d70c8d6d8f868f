use Rattle.std.proofs.Common.{map}
use Rattle.binding_terms.specs.Numbered.{AnyByRecursion}
use Rattle.rule_schemes.specs.Rows.{AreMarks}
use Rattle.rule_schemes.specs.Touching.{IsMarkedIn}
use Rattle.rule_schemes.specs.View.{judgment_scheme}
use Rattle.rule_schemes.proofs.keeping.premises_row.Given as goal

abbrev pub invariant-loop-below : goal.invariant-loop-below
invariant-loop-below l = AreMarks l.below (λ y. AnyByRecursion (λ p. IsMarkedIn l.rows p.judgment y) (map judgment_scheme l.premises)) l.marks
