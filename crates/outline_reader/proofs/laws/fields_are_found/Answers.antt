use Rattle.outline_reader.proofs.FoundLemmas.{fields_found}
use Rattle.outline_reader.proofs.laws.fields_are_found.Goals as goal

pub returns : goal.returns
returns c = fields_found
