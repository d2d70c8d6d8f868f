use Rattle.theorem_runner.proofs.ValueLaws.{value_is_one}
use Rattle.theorem_runner.proofs.laws.value_is_one.Goals as goal

pub returns : goal.returns
returns c = value_is_one
