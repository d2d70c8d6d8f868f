use Rattle.std.proofs.Common.{◌≡◌, max, drop}
use Rattle.rule_schemes.specs.Printing.{greatest}
use Rattle.form_printing.specs.View.{variables}
use Rattle.form_printing.proofs.words.greatest.Given as goal

abbrev pub invariant-loop-variable : goal.invariant-loop-variable
invariant-loop-variable l =
    max l.most (greatest l.cat.0 (variables (drop l.variable-index l.scope))) ≡ greatest l.cat.0 (variables l.scope)
