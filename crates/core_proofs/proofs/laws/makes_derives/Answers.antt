use Rattle.core_proofs.proofs.Made.{makes_derives}
use Rattle.core_proofs.proofs.laws.makes_derives.Goals as goal

pub returns : goal.returns
returns c = makes_derives
