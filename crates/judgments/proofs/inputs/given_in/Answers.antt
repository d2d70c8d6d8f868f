use Rattle.std.proofs.Common.{ap}
use Rattle.judgments.specs.Written.{for_derivation}
use Rattle.judgments.proofs.SystemLemmas.{form_read}
use Rattle.judgments.proofs.inputs.given_in.Goals as goal

pub returns-in-Given : goal.returns-in-Given
returns-in-Given c = rw c.in-Given.is (ap (for_derivation c.in-Given.named.name.now.text.now) (form_read c.in-Given.named.form.now))
