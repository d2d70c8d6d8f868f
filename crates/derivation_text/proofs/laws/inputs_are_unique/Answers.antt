use Rattle.derivation_text.proofs.OnlyOne.{text_gives, one_list}
use Rattle.derivation_text.proofs.laws.inputs_are_unique.Goals as goal

pub returns-clause-of_text : goal.returns-clause-of_text
returns-clause-of_text c = text_gives

pub returns-clause-of_source : goal.returns-clause-of_source
returns-clause-of_source c = one_list
