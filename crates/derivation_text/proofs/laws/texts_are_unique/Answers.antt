use Rattle.derivation_text.proofs.OnlyOne.{one_text}
use Rattle.derivation_text.proofs.laws.texts_are_unique.Goals as goal

pub returns : goal.returns
returns c = one_text
