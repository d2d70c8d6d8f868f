use Rattle.theorem_runner.proofs.ValueLaws.{value_exists}
use Rattle.theorem_runner.proofs.laws.value_exists.Goals as goal

pub returns : goal.returns
returns c = value_exists
