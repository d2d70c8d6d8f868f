use Rattle.derivation_text.proofs.OverLemmas.{text_value, value_empty}
use Rattle.derivation_text.proofs.laws.values_are_given.Goals as goal

pub returns-clause-of_text : goal.returns-clause-of_text
returns-clause-of_text c = text_value

pub returns-clause-without_contexts : goal.returns-clause-without_contexts
returns-clause-without_contexts c = value_empty
