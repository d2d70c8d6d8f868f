use Rattle.std.proofs.Common.{◌↔◌, drop}
use Rattle.coverage_check.specs.Missing.{IsTermNamed}
use Rattle.coverage_check.proofs.open_choices.is_term_named.Given as goal

abbrev pub invariant-loop-prod : goal.invariant-loop-prod
invariant-loop-prod l = IsTermNamed l.choice (drop l.prod-index l.named) ↔ IsTermNamed l.choice l.named
