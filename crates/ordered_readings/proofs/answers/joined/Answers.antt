use Rattle.std.proofs.Common.{◌∷◌, inr}
use Rattle.rule_schemes.specs.Said.{IsBefore}
use Rattle.ordered_readings.specs.AnswerView.{answers}
use Rattle.ordered_readings.specs.NodeView.{reading}
use Rattle.ordered_readings.proofs.Adding.{already, one_more, comparable_part, added_after}
use Rattle.ordered_readings.proofs.Transitive.{before_transitive}
use Rattle.ordered_readings.proofs.answers.joined.Goals as goal

pub returns-in-Nothing : goal.returns-in-Nothing
returns-in-Nothing c = rw c.in-Nothing.is (λ order h. already IsBefore before_transitive (answers c.args.found) order)

pub returns-in-Two : goal.returns-in-Two
returns-in-Two c = rw c.in-Two.is (λ order h.
    let a = reading c.in-Two.a in
    let rest = reading c.in-Two.b ∷ answers c.args.found in
    let first = c.added-in-Two.ensures order (comparable_part IsBefore before_transitive (a ∷ rest) rest (λ e i. inr i) h) in
    let second = c.added-in-Two-2.ensures first.in_order (one_more IsBefore before_transitive a rest (answers c.added-in-Two.result) h first) in
    added_after IsBefore before_transitive a rest (answers c.added-in-Two.result) (answers c.added-in-Two-2.result) first second)
