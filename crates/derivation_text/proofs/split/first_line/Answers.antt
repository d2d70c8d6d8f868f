use Rattle.derivation_text.proofs.SplitLemmas.{first_is, first_some}
use Rattle.derivation_text.proofs.split.first_line.Goals as goal

pub returns-clause-lines : goal.returns-clause-lines
returns-clause-lines c = first_is c.args.tokens.now _ _ _ c.requires c.cut_line.ensures

pub returns-clause-parts : goal.returns-clause-parts
returns-clause-parts c = c.cut_line.ensures.parts

pub returns-clause-some : goal.returns-clause-some
returns-clause-some c = first_some c.args.tokens.now _ _ _ c.requires c.cut_line.ensures
