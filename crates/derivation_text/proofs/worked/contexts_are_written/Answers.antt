use Rattle.std.proofs.Common.{refl}
use Rattle.std.specs.Fmt.{digits}
use Rattle.derivation_text.proofs.worked.contexts_are_written.Goals as goal

pub returns-clause-identity : goal.returns-clause-identity
unfolding digits
returns-clause-identity c = refl

pub returns-clause-root : goal.returns-clause-root
unfolding digits
returns-clause-root c = refl

pub returns-clause-full : goal.returns-clause-full
unfolding digits
returns-clause-full c = refl
