use Rattle.outline_laws.proofs.SyntaxLemmas.{syntax_has}
use Rattle.outline_laws.proofs.laws.syntax_has_categories.Goals as goal

pub returns : goal.returns
returns c = syntax_has
