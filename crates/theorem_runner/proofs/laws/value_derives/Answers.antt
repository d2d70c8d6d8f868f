use Rattle.theorem_runner.proofs.ValueLaws.{value_derives}
use Rattle.theorem_runner.proofs.laws.value_derives.Goals as goal

pub returns : goal.returns
returns c = value_derives
