use Rattle.std.proofs.Common.{◌≡◌, length, []}
use Rattle.binding_terms.specs.Numbered.{AllNumbered}
use Rattle.rule_schemes.specs.Rows.{AreMarks}
use Rattle.rule_schemes.specs.Rules.{Below}
use Rattle.rule_schemes.proofs.keeping.own_rows.Given as goal

abbrev pub invariant-loop-judgment : goal.invariant-loop-judgment
invariant-loop-judgment l = record {
  long : length l.rows.items ≡ l.judgment;
  each : AllNumbered (λ x marks. AreMarks l.count (Below [] x) marks) 0 l.rows.items;
}
