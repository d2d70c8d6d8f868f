use Rattle.core_proofs.proofs.RuleSteps.{rule_step_derives}
use Rattle.core_proofs.proofs.laws.rule_step_derives.Goals as goal

pub returns : goal.returns
returns c = rule_step_derives
