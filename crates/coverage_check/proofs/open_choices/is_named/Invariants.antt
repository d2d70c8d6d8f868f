use Rattle.std.proofs.Common.{◌↔◌, drop}
use Rattle.coverage_check.specs.Missing.{IsNamed}
use Rattle.coverage_check.proofs.open_choices.is_named.Given as goal

abbrev pub invariant-loop-rule : goal.invariant-loop-rule
invariant-loop-rule l = IsNamed l.choice (drop l.rule-index l.named) ↔ IsNamed l.choice l.named
