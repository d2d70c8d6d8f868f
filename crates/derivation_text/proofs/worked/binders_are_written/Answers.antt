use Rattle.std.proofs.Common.{refl}
use Rattle.std.specs.Fmt.{digits}
use Rattle.derivation_text.proofs.worked.binders_are_written.Goals as goal

pub returns : goal.returns
unfolding digits
returns c = refl
