use Rattle.judgments.proofs.BareForms.{in_scope}
use Rattle.judgments.proofs.laws.readings_are_in_scope.Goals as goal

pub returns : goal.returns
returns c = in_scope
