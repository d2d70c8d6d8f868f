use Rattle.std.proofs.Common.{refl}
use Rattle.case_split.proofs.worked.choices_of_a_term.Goals as goal

pub returns : goal.returns
returns c = record { places = refl; function = refl }
