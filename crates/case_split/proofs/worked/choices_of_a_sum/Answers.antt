use Rattle.std.proofs.Common.{refl}
use Rattle.case_split.proofs.worked.choices_of_a_sum.Goals as goal

pub returns : goal.returns
returns c = record { rules = refl; equations = refl; premise = refl }
