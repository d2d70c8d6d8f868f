use Rattle.std.proofs.Common.{refl}
use Rattle.std.specs.Fmt.{digits}
use Rattle.derivation_text.proofs.worked.sums_are_written.Goals as goal

pub returns-clause-chain : goal.returns-clause-chain
unfolding digits
returns-clause-chain c = refl

pub returns-clause-shared : goal.returns-clause-shared
unfolding digits
returns-clause-shared c = refl

pub returns-clause-nothing : goal.returns-clause-nothing
unfolding digits
returns-clause-nothing c = refl
