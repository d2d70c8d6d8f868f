use Rattle.std.proofs.Common.{◌≡◌, ◌↔◌, ◌≤◌, IsTrue, length, map}
use Rattle.binding_terms.specs.Numbered.{AllNumbered}
use Rattle.scheme_terms.specs.View.{known_variable}
use Rattle.notation_parser.specs.Renaming.{OccursInWanted}
use Rattle.notation_parser.specs.View.{written}
use Rattle.notation_parser.proofs.occurring.marks_of.Given as goal

abbrev pub invariant-loop-i : goal.invariant-loop-i
invariant-loop-i l =
    (length l.marks ≡ l.i) × (l.i ≤ l.count) × AllNumbered (λ m b. IsTrue b ↔ OccursInWanted m (written l.form) (map known_variable l.knowns)) l.first_new l.marks
