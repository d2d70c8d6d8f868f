use Rattle.judgments.proofs.SignatureSpellings.{spell_apart}
use Rattle.judgments.proofs.laws.signatures_spell_apart.Goals as goal

pub returns : goal.returns
returns c = spell_apart
